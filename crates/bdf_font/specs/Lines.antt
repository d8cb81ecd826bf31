-- The lines of a file, their words, and the numbers among them.
use Rattle.std.specs.Prelude.{ℕ, Bool, true, false, ◌&&◌, ◌||◌, ◌==◌, if◌then◌else◌, List, [], ◌∷◌, Some, None}
use Rattle.std.specs.Prelude.{ℤ, pos, neg_ℤ, int_le, is_some}
use Rattle.std.specs.List.{list_all}
use Rattle.std.specs.declared.option.Option.{Option}
use Rattle.run_defs.specs.Language.{Word, onto, is_space}
use Rattle.run_defs.specs.Numbers.{is_digit, value_of}
use Rattle.run_defs.specs.Script.{is_newline}

-- a byte before the bytes of the first line
abbrev pub onto_first : ℕ → List (List ℕ) → List (List ℕ)
onto_first b [] = (b ∷ []) ∷ []
onto_first b (line ∷ lines) = (b ∷ line) ∷ lines

-- the lines of a file: each ends at a newline, or at the end
abbrev pub file_lines : List ℕ → List (List ℕ)
file_lines [] = []
file_lines (b ∷ bs) = if is_newline b then [] ∷ file_lines bs else onto_first b (file_lines bs)

-- what is left out at both ends of a line: spaces and carriage returns
abbrev pub is_edge : ℕ → Bool
is_edge b = b == 32 || b == 13

-- a line from the first byte that is not left out
abbrev pub from_start : List ℕ → List ℕ
from_start [] = []
from_start (b ∷ bs) = if is_edge b then from_start bs else b ∷ bs

-- a byte and what follows it: one of an edge before nothing is left out
abbrev pub up_to_end : ℕ → List ℕ → List ℕ
up_to_end b [] = if is_edge b then [] else b ∷ []
up_to_end b (c ∷ cs) = b ∷ c ∷ cs

-- a line up to the last such byte
abbrev pub to_end : List ℕ → List ℕ
to_end [] = []
to_end (b ∷ bs) = up_to_end b (to_end bs)

-- a line without what is left out at both ends
abbrev pub trimmed : List ℕ → List ℕ
trimmed line = to_end (from_start line)

-- the words of bytes that begin within a word, or outside each: spaces part them
abbrev pub split_from : Bool → List ℕ → List Word
split_from true [] = [] ∷ []
split_from true (b ∷ bs) = if is_space b then [] ∷ split_from false bs else onto b (split_from true bs)
split_from false [] = []
split_from false (b ∷ bs) = if is_space b then split_from false bs else onto b (split_from true bs)

-- the words of a line
abbrev pub file_words : List ℕ → List Word
file_words line = split_from false line

-- one digit or more
abbrev pub is_natural : List ℕ → Bool
is_natural [] = false
is_natural (b ∷ bs) = list_all is_digit (b ∷ bs)

-- an optional minus sign and digits
abbrev pub integer_of : Word → Option ℤ
integer_of [] = None
integer_of (b ∷ bs) =
    if is_natural (b ∷ bs) then Some (pos (value_of (b ∷ bs)))
    else if b == 45 && is_natural bs then Some (neg_ℤ (pos (value_of bs)))
    else None

-- a number, where it is from -32768 to this one
abbrev pub up_to : ℤ → Option ℤ → Option ℤ
up_to most None = None
up_to most (Some n) = if int_le (neg_ℤ (pos 32768)) n && int_le n most then Some n else None

-- a number from -32768 to this one
unfoldable pub integer : ℤ → Word → Option ℤ
integer most word = up_to most (integer_of word)

-- what most numbers are at most, and the code of a character
abbrev pub most_number : ℤ
most_number = pos 32767

abbrev pub most_code : ℤ
most_code = pos 2147483647

-- whether all words are numbers
abbrev pub are_integers : ℤ → List Word → Bool
are_integers most [] = true
are_integers most (word ∷ words) = is_some (integer most word) && are_integers most words

-- the first of one number or more
abbrev pub first_integer : ℤ → List Word → Option ℤ
first_integer most [] = None
first_integer most (word ∷ words) = if are_integers most words then integer most word else None
