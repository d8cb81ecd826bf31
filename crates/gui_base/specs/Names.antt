-- The names of a kind of word, each with what it means.
use Rattle.std.specs.Prelude.{ℕ, List, [], ◌∷◌, bytes_eq, if◌then◌else◌, Some, None, map}
use Rattle.std.specs.declared.option.Option.{Option}
use denote.Ref.{Bor}

-- a table of names in their order: each is the bytes of a name, with what it means
abbrev pub Names : Type 0 → Type 0
Names A = List (List ℕ × A)

-- the names of a table that is a constant of the code, and those of a slice
abbrev pub table : {A : Type 0} → List ((record { now : List ℕ }) × A) → Names A
table names = map (λ t. (t.0.now, t.1)) names

abbrev pub slice : {A : Type 0} → List (Bor (List ℕ) × A) → Names A
slice names = map (λ t. (t.0.now, t.1)) names

-- what a word means: the first name that it is
unfoldable pub named : {A : Type 0} → Names A → List ℕ → Option A
named [] word = None
named (t ∷ names) word = if bytes_eq word t.0 then Some t.1 else named names word
