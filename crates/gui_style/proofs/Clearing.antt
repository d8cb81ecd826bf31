-- Taking the values of an owner out one by one.
use Rattle.std.proofs.Common.{◌≡◌, ◌+◌, ◌<◌, ℕ, true, is_some, Option, Some, None, Bor, List, [], ◌∷◌, length, set, get_or, ap, arith, MatchOption}
use Rattle.std.proofs.lemmas.List.{set-set, get_or-set_same}
use Rattle.std.proofs.lemmas.List.Edits.{length-remove}
use Rattle.std.specs.List.{remove}
use Rattle.gui_pool.specs.Lists.{Lists, list_of, removed, cleared}

pub twice : {T : Type 0} (t : Lists T) (o n : ℕ) → o < length t.lists → n < length (list_of t o) → cleared (removed t o n) o ≡ cleared t o
twice t o n within there =
    let now : get_or (set t.lists o (remove (list_of t o) n)) o [] ≡ remove (list_of t o) n = get_or-set_same t.lists o (remove (list_of t o) n) [] within in
    let spare : t.spare + 1 + length (get_or (set t.lists o (remove (list_of t o) n)) o []) ≡ t.spare + length (list_of t o) = (let same = ap length now in let one = length-remove (list_of t o) n there in omega arith) in
    λ i. record { lists = set-set t.lists o (remove (list_of t o) n) [] i; spare = spare i; size = t.size }

pub some_long : {T : Type 0} (o : Option (Bor T)) (xs rest : List T) → is_some o ≡ true → MatchOption o ((xs ≡ []) × (rest ≡ [])) (λ v. xs ≡ v.now ∷ rest) → 0 < length xs
some_long o (x ∷ xs) rest some first = omega arith
some_long (Some x) [] rest some first = cc
some_long None [] rest some first = cc
