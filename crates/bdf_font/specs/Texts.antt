-- The lines of a script that make a font.
use Rattle.std.specs.Prelude.{ℕ, List, [], ◌∷◌, ◌++◌, map, codes, decimal, pos, int_le, if◌then◌else◌, unsigned_abs}
use Rattle.std.specs.Prelude.{Some, None, Ok, Err}
use Rattle.std.specs.declared.option.Option.{Option}
use Rattle.std.specs.declared.result.Result.{Result}
use Rattle.std.specs.Fmt.{signed_decimal}
use Rattle.run_defs.specs.Language.{Word}
use Rattle.line_texts.specs.LineTexts.{line_text, ended_lines, digits_word}
use Rattle.bdf_font.specs.declared.characters.Extents.{Extents}
use Rattle.bdf_font.specs.Bdf.{Font, Glyph, bdf}

-- a width as an advance: brought into 0 to 64
abbrev pub advance_in : Option Extents → ℕ
advance_in None = 0
advance_in (Some e) =
    if int_le e.w (pos 0) then 0 else if int_le (pos 64) e.w then 64 else unsigned_abs e.w

-- the height of the font's box
abbrev pub font_height : Option Extents → ℕ
font_height None = 0
font_height (Some e) = unsigned_abs e.h

-- the line that begins the font
unfoldable pub font_line : ℕ → Option Extents → List ℕ
font_line number bounds =
    line_text (codes "font") (decimal number ∷ decimal (font_height bounds) ∷ decimal (advance_in bounds) ∷ [])

abbrev pub glyph_words : ℕ → Glyph → List Word
glyph_words number glyph =
    decimal number ∷ decimal glyph.code ∷ decimal glyph.shape.advance ∷ decimal glyph.shape.w
    ∷ decimal glyph.shape.h ∷ signed_decimal glyph.shape.ox ∷ signed_decimal glyph.shape.oy
    ∷ digits_word glyph.digits ∷ []

-- the line of a glyph
unfoldable pub glyph_text : ℕ → Glyph → List ℕ
glyph_text number glyph = line_text (codes "glyph") (glyph_words number glyph)

-- the line that ends the font
unfoldable pub end_line : ℕ → List ℕ
end_line number = line_text (codes "endfont") (decimal number ∷ [])

-- a comment that tells how many characters were left out
unfoldable pub left_line : ℕ → List ℕ
left_line left_out = codes "# left out " ++ decimal left_out

-- the lines after those of glyphs
abbrev pub last_lines : ℕ → ℕ → List (List ℕ)
last_lines number left_out = end_line number ∷ left_line left_out ∷ []

-- the lines of a font
abbrev pub font_lines : ℕ → Font → List (List ℕ)
font_lines number font =
    font_line number font.bounds ∷ map (glyph_text number) font.glyphs ++ last_lines number font.left_out

-- the text of a font, where there is one
abbrev pub text_from : ℕ → Result Font ℕ → Result (List ℕ) ℕ
text_from number (Ok font) = Ok (ended_lines (font_lines number font))
text_from number (Err line) = Err line

-- the text of the font of these bytes, or the number of the first line at which it is none
abbrev pub font_text : ℕ → List ℕ → Result (List ℕ) ℕ
font_text number bytes = text_from number (bdf bytes)
