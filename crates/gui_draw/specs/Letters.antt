-- The glyphs of the built-in font, as rows of bits.
use Rattle.std.specs.Prelude.{ℕ, ◌+◌, ◌*◌, ◌/◌, ◌%◌, ◌^◌, List, [], ◌∷◌}
use Rattle.text_defs.specs.BuiltIn.{column_of}

-- the bit in column x and row y of a character's glyph
abbrev pub dot_of : ℕ → ℕ → ℕ → ℕ
dot_of code x y = column_of code x / 2 ^ y % 2

-- row y, in the five highest bits of a byte
unfoldable pub row_of : ℕ → ℕ → ℕ
row_of code y =
    dot_of code 0 y * 128 + dot_of code 1 y * 64 + dot_of code 2 y * 32 + dot_of code 3 y * 16
    + dot_of code 4 y * 8

-- all its rows, from the top
abbrev pub letter_rows : ℕ → List ℕ
letter_rows code =
    row_of code 0 ∷ row_of code 1 ∷ row_of code 2 ∷ row_of code 3 ∷ row_of code 4 ∷ row_of code 5
    ∷ row_of code 6 ∷ []
