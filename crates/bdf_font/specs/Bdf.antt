-- What a BDF font means: the glyphs that a font of a script may have, or the first line at which it is none.
use Rattle.std.specs.Prelude.{ℕ, zero, suc, ◌+◌, ◌-◌, ◌*◌, ◌/◌, ◌%◌, Bool, not, ◌&&◌, ◌==◌, nat_le}
use Rattle.std.specs.Prelude.{if◌then◌else◌, List, [], ◌∷◌, ◌++◌, length, take, map, Some, None, Ok, Err, is_some}
use Rattle.std.specs.Prelude.{ℤ, pos, ◌+ℤ◌, ◌-ℤ◌, int_le, unsigned_abs, option_map, unwrap_or}
use Rattle.std.specs.List.{list_all, list_any}
use Rattle.std.specs.Option.{option_and_then}
use Rattle.std.specs.declared.option.Option.{Option}
use Rattle.std.specs.declared.result.Result.{Result}
use Rattle.hex.specs.Hex.{is_hex_digit}
use Rattle.gui_base.specs.declared.intervals.TheConstants.{CODE, ADVANCE, GLYPH_WIDTH, GLYPH_HEIGHT, GLYPH_OFFSET}
use Rattle.gui_base.specs.Intervals.{is_within}
use Rattle.gui_base.specs.Names.{table, named}
use Rattle.text_defs.specs.declared.GlyphBox.{GlyphBox}
use Rattle.run_defs.specs.Language.{Word}
use Rattle.run_defs.specs.Numbers.{is_surrogate}
use Rattle.bdf_font.specs.declared.characters.Extents.{Extents}
use Rattle.bdf_font.specs.declared.keywords.Keyword.{Keyword}
use Rattle.bdf_font.specs.declared.characters.Character.{Character}
use Rattle.bdf_font.specs.declared.keywords.Keyword.TheVariants as key
use Rattle.bdf_font.specs.declared.keywords.Phase.{Phase}
use Rattle.bdf_font.specs.declared.keywords.Phase.TheVariants.{Start, Head, Properties, Char, Rows, Between, Ended}
use Rattle.bdf_font.specs.declared.keywords.TheConstants.{KEYWORDS}
use Rattle.bdf_font.specs.Lines.{file_lines, trimmed, file_words, integer, first_integer, most_number, most_code}

-- a glyph that a script may have: its bytes as upper hexadecimal digits
pub record Glyph : Type 0 where
  pub code : ℕ
  pub shape : GlyphBox
  pub digits : List ℕ

-- how far a font is read
pub record Font : Type 0 where
  pub phase : Phase
  -- the box of the font: the last one that was given
  pub bounds : Option Extents
  -- of the character that is read, the code, the advance and the box, where they were given
  pub code : Option ℤ
  pub advance : Option ℤ
  pub shape : Option Extents
  -- the digits of its rows so far
  pub digits : List ℕ
  -- the glyphs that are kept, in order, and how many characters were left out
  pub glyphs : List Glyph
  pub left_out : ℕ

-- no line is read yet
abbrev pub nothing_read : Font
nothing_read = record {
  phase = Start;
  bounds = None;
  code = None;
  advance = None;
  shape = None;
  digits = [];
  glyphs = [];
  left_out = 0;
}

-- the word that a line begins with, where lines of it are looked at
unfoldable pub keyword_of : Word → Option Keyword
keyword_of word = named (table {A = Keyword} KEYWORDS) word

-- four numbers, and nothing after them
abbrev pub four : Option ℤ → Option ℤ → Option ℤ → Option ℤ → Option Extents
four (Some w) (Some h) (Some x) (Some y) = Some (record { w = w; h = h; x = x; y = y })
four w h x y = None

-- exactly four numbers
abbrev pub extents_of : List Word → Option Extents
extents_of (w ∷ h ∷ x ∷ y ∷ []) =
    four (integer most_number w) (integer most_number h) (integer most_number x) (integer most_number y)
extents_of words = None

-- where it passes a test
abbrev pub that : {A : Type 0} → (A → Bool) → Option A → Option A
that test None = None
that test (Some a) = if test a then Some a else None

-- a font's box has a height that a font may have
abbrev pub is_font_box : Extents → Bool
is_font_box e = int_le (pos 1) e.h && int_le e.h (pos 64)

-- a character's box has a width and a height from 0 on
abbrev pub is_char_box : Extents → Bool
is_char_box e = int_le (pos 0) e.w && int_le (pos 0) e.h

-- how many digits of a row count, for a box of this width: two for each eight pixels begun
abbrev pub row_digits : ℕ → ℕ
row_digits w = 2 * ((w + 7) / 8)

-- the height of a box, 0 for none, and its width
abbrev pub height_in : Option Extents → ℕ
height_in None = 0
height_in (Some e) = unsigned_abs e.h

abbrev pub width_in : Option Extents → ℕ
width_in None = 0
width_in (Some e) = unsigned_abs e.w

-- a character begins
abbrev pub begun : Font → Font
begun font =
    record font { phase = Char; code = None; advance = None; shape = None; digits = [] }

-- the font in another phase
abbrev pub in_phase : Phase → Font → Font
in_phase phase font = record font { phase = phase }

-- at the first character, or at the end, the font has a box
abbrev pub with_bounds : Font → Font → Option Font
with_bounds font next = if is_some font.bounds then Some next else None

-- a line before the first character
abbrev pub head_line : Font → Option Keyword → List Word → Option Font
head_line font (Some key.FontBoundingBox) words =
    option_map (λ e. record font { bounds = Some e }) (that is_font_box (extents_of words))
head_line font (Some key.StartProperties) words = Some (in_phase Properties font)
head_line font (Some key.StartChar) words = with_bounds font (begun font)
head_line font (Some key.EndFont) words = with_bounds font (in_phase Ended font)
head_line font keyword words = Some font

-- a line of a character before its rows
abbrev pub char_line : Font → Option Keyword → List Word → Option Font
char_line font (Some key.Encoding) words =
    option_map (λ n. record font { code = Some n }) (first_integer most_code words)
char_line font (Some key.DWidth) words =
    option_map (λ n. record font { advance = Some n }) (first_integer most_number words)
char_line font (Some key.BBox) words =
    option_map (λ e. record font { shape = Some e }) (that is_char_box (extents_of words))
char_line font (Some key.Bitmap) words =
    if is_some font.code && is_some font.shape then Some (in_phase (Rows (height_in font.shape)) font) else None
char_line font keyword words = Some font

-- the upper case of a hexadecimal digit
abbrev pub upper : ℕ → ℕ
upper c = if nat_le 97 c && nat_le c 102 then c - 32 else c

-- an even number of digits, as many as count or more
abbrev pub is_row : ℕ → List ℕ → Bool
is_row w line =
    length line % 2 == 0 && (list_all is_hex_digit line && nat_le (row_digits w) (length line))

-- a row of a character
abbrev pub row_line : Font → ℕ → List ℕ → Option Font
row_line font others line =
    if is_row (width_in font.shape) line
    then Some (record font {
      phase = Rows others;
      digits = font.digits ++ map upper (take (row_digits (width_in font.shape)) line);
    })
    else None

-- Whether a character makes a glyph.

-- the code of a character that may have a glyph
abbrev pub is_code : ℤ → Bool
is_code n = is_within CODE n && not (is_surrogate (unsigned_abs n))

-- whether a number lies between these
abbrev pub is_from : ℕ → ℕ → ℤ → Bool
is_from low high n = int_le (pos low) n && int_le n (pos high)

-- how far the top of a character's box is below that of the font's
abbrev pub top_of : Character → ℤ
top_of l = l.bounds.h +ℤ l.bounds.y -ℤ (l.shape.h +ℤ l.shape.y)

-- the box of the glyph that a character makes
abbrev pub shape_of : Character → GlyphBox
shape_of l = record {
  advance = unsigned_abs l.advance;
  w = unsigned_abs l.shape.w;
  h = unsigned_abs l.shape.h;
  ox = l.shape.x;
  oy = top_of l;
}

-- whether its advance and its sizes lie in their intervals
abbrev pub has_sizes : Character → Bool
has_sizes l =
    is_from ADVANCE.low ADVANCE.high l.advance
    && (is_from GLYPH_WIDTH.low GLYPH_WIDTH.high l.shape.w && is_from GLYPH_HEIGHT.low GLYPH_HEIGHT.high l.shape.h)

-- whether all its numbers lie in the intervals of a glyph
unfoldable pub fits : Character → Bool
fits l =
    is_code l.code && (has_sizes l && (is_within GLYPH_OFFSET l.shape.x && is_within GLYPH_OFFSET (top_of l)))

-- whether a glyph that is kept has this code
abbrev pub has_code : List Glyph → ℕ → Bool
has_code glyphs code = list_any (λ g. g.code == code) glyphs

-- the code and the box of the glyph that a character makes
abbrev pub glyph_of : Character → Option (ℕ × GlyphBox)
glyph_of l = if fits l then Some (unsigned_abs l.code, shape_of l) else None

-- a character is left out
abbrev pub without : Font → Font
without font = record font { phase = Between; left_out = font.left_out + 1 }

-- it is kept as a glyph
abbrev pub with_kept : Font → ℕ → GlyphBox → Font
with_kept font code shape = record font {
  phase = Between;
  glyphs = font.glyphs ++ record { code = code; shape = shape; digits = font.digits } ∷ [];
  digits = [];
}

-- unless one that is kept has its code
abbrev pub with_glyph : Font → Option (ℕ × GlyphBox) → Font
with_glyph font None = without font
with_glyph font (Some t) = if has_code font.glyphs t.0 then without font else with_kept font t.0 t.1

-- the character that is read, where the font has a box and the character its code and its box. Without an
-- advance it has the width of the font's box
abbrev pub character_of : Font → Option Character
character_of font =
    option_and_then
    (λ bounds. option_and_then
    (λ code. option_map
    (λ shape. record { bounds = bounds; code = code; advance = unwrap_or font.advance bounds.w; shape = shape })
    font.shape) font.code) font.bounds

-- a line after the rows of a character
abbrev pub end_line : Font → Option Keyword → Option Font
end_line font (Some key.EndChar) = option_map (λ l. with_glyph font (glyph_of l)) (character_of font)
end_line font keyword = None

-- a line after a character
abbrev pub between_line : Font → Option Keyword → Option Font
between_line font (Some key.StartChar) = Some (begun font)
between_line font (Some key.EndFont) = Some (in_phase Ended font)
between_line font keyword = Some font

-- the first line
abbrev pub start_line : Font → Option Keyword → Option Font
start_line font (Some key.StartFont) = Some (in_phase Head font)
start_line font keyword = None

-- a line among the properties of the head
abbrev pub properties_line : Font → Option Keyword → Option Font
properties_line font (Some key.EndProperties) = Some (in_phase Head font)
properties_line font keyword = Some font

-- a line that is neither blank nor a comment, by the phase
abbrev pub line_in : Phase → Font → Option Keyword → List Word → List ℕ → Option Font
line_in Start font keyword words line = start_line font keyword
line_in Head font keyword words line = head_line font keyword words
line_in Properties font keyword words line = properties_line font keyword
line_in Char font keyword words line = char_line font keyword words
line_in (Rows zero) font keyword words line = end_line font keyword
line_in (Rows (suc n)) font keyword words line = row_line font n line
line_in Between font keyword words line = between_line font keyword
line_in Ended font keyword words line = Some font

-- comments are passed over
abbrev pub keyword_line : Font → Option Keyword → List Word → List ℕ → Option Font
keyword_line font (Some key.Comment) words line = Some font
keyword_line font keyword words line = line_in font.phase font keyword words line

-- so are blank lines
abbrev pub words_line : Font → List Word → List ℕ → Option Font
words_line font [] line = Some font
words_line font (name ∷ words) line = keyword_line font (keyword_of name) words line

-- the font with a line more, where a font may begin so
unfoldable pub after_line : Font → List ℕ → Option Font
after_line font line = words_line font (file_words (trimmed line)) (trimmed line)

-- the font has come to its end
abbrev pub whole_font : Font → ℕ → Phase → Result Font ℕ
whole_font font number Ended = Ok font
whole_font font number phase = Err number

-- what follows a line of this number, where a font may begin so
abbrev pub goes_on : (Font → Result Font ℕ) → ℕ → Option Font → Result Font ℕ
goes_on rest number None = Err number
goes_on rest number (Some font) = rest font

-- the font whose lines these are, from a line of this number on, or the number of the first line at which it
-- is none
abbrev pub font_from : Font → ℕ → List (List ℕ) → Result Font ℕ
font_from font number [] = whole_font font number font.phase
font_from font number (line ∷ lines) =
    goes_on (λ next. font_from next (number + 1) lines) number (after_line font line)

-- the font of these bytes
unfoldable pub bdf : List ℕ → Result Font ℕ
bdf bytes = font_from nothing_read 1 (file_lines bytes)
