-- The text of a line by its words.
use Rattle.std.specs.Prelude.{ℕ, Bool, true, false, not, ◌&&◌, ◌||◌, ◌==◌, nat_lt, nat_le}
use Rattle.std.specs.Prelude.{List, [], ◌∷◌, ◌++◌, codes}
use Rattle.std.specs.List.{flat_map, list_all}
use Rattle.run_defs.specs.Language.{Word, is_space, is_quote}

-- the words, each with a space before it
abbrev pub spaced : List Word → List ℕ
spaced words = flat_map (λ word. 32 ∷ word) words

-- a line of this name and these words, with one space between each two
abbrev pub line_text : Word → List Word → List ℕ
line_text name words = name ++ spaced words

-- a byte that is neither a space nor a control character
abbrev pub is_letter : ℕ → Bool
is_letter b = nat_lt 32 b

-- a word that is no text
abbrev pub is_plain : Word → Bool
is_plain [] = false
is_plain (b ∷ bs) = not (is_quote b) && list_all is_letter (b ∷ bs)

-- a byte that may stand in a line
abbrev pub is_in_line : ℕ → Bool
is_in_line b = nat_le 32 b

-- whether bytes end with no space
abbrev pub ends_well : ℕ → List ℕ → Bool
ends_well b [] = not (is_space b)
ends_well b (c ∷ cs) = ends_well c cs

-- a word that begins as a text does, and reaches to the end of a line
abbrev pub is_text : Word → Bool
is_text [] = false
is_text (b ∷ bs) = is_quote b && (ends_well b bs && list_all is_in_line bs)

-- words of a line: plain ones, but for the last, which may be a text
abbrev pub are_words : List Word → Bool
are_words [] = true
are_words (word ∷ []) = is_plain word || is_text word
are_words (word ∷ next ∷ words) = is_plain word && are_words (next ∷ words)

-- the name of a line begins no comment
abbrev pub is_name : Word → Bool
is_name [] = false
is_name (b ∷ bs) = not (b == 35) && is_plain (b ∷ bs)

-- lines, each ended by a newline
abbrev pub ended_lines : List (List ℕ) → List ℕ
ended_lines lines = flat_map (λ line. line ++ 10 ∷ []) lines

-- hexadecimal digits as a word: a dash for none
abbrev pub digits_word : List ℕ → Word
digits_word [] = codes "-"
digits_word (b ∷ bs) = b ∷ bs
