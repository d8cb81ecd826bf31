-- Fonts that were worked out by hand.
use Rattle.std.specs.Prelude.{◌≡◌, ℕ, List, [], ◌∷◌, ◌++◌, codes, Ok, Err}
use Rattle.line_texts.specs.LineTexts.{ended_lines}
use Rattle.bdf_font.specs.Texts.{font_text}

-- the first lines of a font of one glyph
abbrev first_lines : List (List ℕ)
first_lines =
    codes "STARTFONT 2.1" ∷ codes "FONTBOUNDINGBOX 3 5 0 -1" ∷ codes "CHARS 1" ∷ codes "STARTCHAR A"
    ∷ codes "ENCODING 65" ∷ codes "DWIDTH 4 0" ∷ codes "BBX 3 4 0 0" ∷ codes "BITMAP" ∷ codes "40" ∷ codes "A0"
    ∷ codes "E0" ∷ []

-- its last lines
abbrev last_lines : List (List ℕ)
last_lines = codes "ENDCHAR" ∷ codes "ENDFONT" ∷ []

-- the lines of a script that it becomes
abbrev worked : List (List ℕ)
worked =
    codes "font 1 5 3" ∷ codes "glyph 1 65 4 3 4 0 0 40A0E0A0" ∷ codes "endfont 1" ∷ codes "# left out 0" ∷ []

-- comments, blank lines, carriage returns, properties that hide lines, the last of several boxes, long rows in
-- lower case, lines that are passed over
abbrev lenient : List (List ℕ)
lenient =
    codes "" ∷ codes "COMMENT x" ∷ codes "  STARTFONT\r" ∷ codes "STARTPROPERTIES 1" ∷ codes "STARTCHAR"
    ∷ codes "FONTBOUNDINGBOX" ∷ codes "ENDPROPERTIES" ∷ codes "FONTBOUNDINGBOX 1 1 0 0" ∷ codes "SIZE 1 1 1"
    ∷ codes "FONTBOUNDINGBOX 100 5 0 -01" ∷ codes "STARTCHAR" ∷ codes "ENDCHAR" ∷ codes "ENCODING 1"
    ∷ codes "ENCODING 65 -1" ∷ codes "BBX 9 1 -1 2" ∷ codes "DWIDTH 64 9" ∷ codes "BITMAP" ∷ codes "\r"
    ∷ codes "COMMENT" ∷ codes " abcdef " ∷ codes "ENDCHAR here" ∷ codes "ENCODING x" ∷ codes "STARTCHAR"
    ∷ codes "ENCODING 32" ∷ codes "BBX 0 0 0 0" ∷ codes "DWIDTH 0" ∷ codes "BITMAP" ∷ codes "ENDCHAR"
    ∷ codes "ENDFONT" ∷ codes "and more" ∷ []

-- a character with no rows, by the lines before them
abbrev rowless : List (List ℕ) → List (List ℕ)
rowless lines = codes "STARTCHAR" ∷ (lines ++ codes "BITMAP" ∷ codes "ENDCHAR" ∷ [])

-- characters that are left out: no code, a code that is kept, no advance of its own at a wide font, a width, a
-- place and a surrogate
abbrev left_out : List (List ℕ)
left_out =
    codes "STARTFONT" ∷ codes "FONTBOUNDINGBOX 65 64 0 0" ∷ (
    rowless (codes "ENCODING -1" ∷ codes "DWIDTH 1" ∷ codes "BBX 0 0 0 0" ∷ [])
    ++ rowless (codes "ENCODING 66" ∷ codes "DWIDTH 1" ∷ codes "BBX 0 0 0 0" ∷ [])
    ++ rowless (codes "ENCODING 66" ∷ codes "DWIDTH 2" ∷ codes "BBX 0 0 0 0" ∷ [])
    ++ rowless (codes "ENCODING 67" ∷ codes "BBX 0 0 0 0" ∷ [])
    ++ rowless (codes "ENCODING 67" ∷ codes "DWIDTH 1" ∷ codes "BBX 33 0 0 0" ∷ [])
    ++ rowless (codes "ENCODING 67" ∷ codes "DWIDTH -1" ∷ codes "BBX 0 0 0 0" ∷ [])
    ++ rowless (codes "ENCODING 67" ∷ codes "DWIDTH 1" ∷ codes "BBX 0 0 0 129" ∷ [])
    ++ rowless (codes "ENCODING 55296" ∷ codes "DWIDTH 1" ∷ codes "BBX 0 0 0 0" ∷ [])
    ++ codes "ENDFONT" ∷ [])

-- lines up to one that is looked at before the first character
abbrev head : List ℕ → List (List ℕ)
head line = codes "STARTFONT" ∷ line ∷ []

-- lines of a first character
abbrev in_char : List (List ℕ) → List (List ℕ)
in_char lines = codes "STARTFONT" ∷ codes "FONTBOUNDINGBOX 1 1 0 0" ∷ codes "STARTCHAR" ∷ lines

pub record FontsAreWorked : Type 0 where
  pub one_glyph : font_text 1 (ended_lines (first_lines ++ codes "A0" ∷ last_lines)) ≡ Ok (ended_lines worked)
  pub missing_row : font_text 1 (ended_lines (first_lines ++ last_lines)) ≡ Err 12
  pub lenient_font : font_text 99 (ended_lines lenient) ≡ Ok (ended_lines (
      codes "font 99 5 64" ∷ codes "glyph 99 65 64 9 1 -1 1 ABCD" ∷ codes "glyph 99 32 0 0 0 0 4 -"
      ∷ codes "endfont 99" ∷ codes "# left out 0" ∷ []))
  pub some_left_out : font_text 1 (ended_lines left_out) ≡ Ok (ended_lines (
      codes "font 1 64 64" ∷ codes "glyph 1 66 1 0 0 0 64 -" ∷ codes "endfont 1" ∷ codes "# left out 7" ∷ []))
  pub nothing : font_text 1 [] ≡ Err 1
  pub no_end : font_text 1 (codes "STARTFONT") ≡ Err 2
  pub no_start : font_text 1 (codes "\nSTARTCHAR\n") ≡ Err 2
  pub no_box : font_text 1 (ended_lines (head (codes "ENDFONT"))) ≡ Err 2
  pub high_box : font_text 1 (ended_lines (head (codes "FONTBOUNDINGBOX 1 65 0 0"))) ≡ Err 2
  pub five_numbers : font_text 1 (ended_lines (head (codes "FONTBOUNDINGBOX 1 1 0 0 0"))) ≡ Err 2
  pub far_number : font_text 1 (ended_lines (head (codes "FONTBOUNDINGBOX 1 1 0 32768"))) ≡ Err 2
  pub no_code : font_text 1 (ended_lines (in_char (codes "BBX 0 0 0 0" ∷ codes "BITMAP" ∷ []))) ≡ Err 5
  pub no_number : font_text 1 (ended_lines (in_char (codes "ENCODING 65 x" ∷ []))) ≡ Err 4
  pub far_code : font_text 1 (ended_lines (in_char (codes "ENCODING 2147483647" ∷ codes "DWIDTH 32768" ∷ []))) ≡ Err 5
  pub negative_box : font_text 1 (ended_lines (in_char (codes "BBX 1 -1 0 0" ∷ []))) ≡ Err 4
  pub odd_digits : font_text 1 (ended_lines (in_char (
      codes "ENCODING 65" ∷ codes "BBX 1 1 0 0" ∷ codes "BITMAP" ∷ codes "800" ∷ []))) ≡ Err 7
  pub short_row : font_text 1 (ended_lines (in_char (
      codes "ENCODING 65" ∷ codes "BBX 9 1 0 0" ∷ codes "BITMAP" ∷ codes "80" ∷ []))) ≡ Err 7
  pub row_too_many : font_text 1 (ended_lines (in_char (
      codes "ENCODING 65" ∷ codes "BBX 1 1 0 0" ∷ codes "BITMAP" ∷ codes "80" ∷ codes "80" ∷ []))) ≡ Err 8
