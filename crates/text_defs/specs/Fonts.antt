-- Fonts as lists of glyphs.
use Rattle.std.specs.Prelude.{ℕ, ◌+◌, ◌*◌, ◌/◌, Bool, true, false, ◌&&◌, ◌||◌, ◌==◌, nat_lt, if◌then◌else◌}
use Rattle.std.specs.Prelude.{List, [], ◌∷◌, slice_range, Some, None, is_some, option_map}
use Rattle.std.specs.Prelude.{ℤ, pos, negsuc, ◌-ℤ◌}
use Rattle.std.specs.declared.option.Option.{Option}
use Rattle.text_defs.specs.declared.GlyphBox.{GlyphBox}
use Rattle.text_defs.specs.Bits.{bit_of}
use Rattle.text_defs.specs.Face.{Cell, Face}
use Rattle.text_defs.specs.BuiltIn.{built_in, has_built_in}

-- a glyph: its character, its box, and its bits row by row, each row in whole bytes
pub record Glyph : Type 0 where
  pub code : ℕ
  pub shape : GlyphBox
  pub rows : List ℕ

-- a font that a script builds: it takes glyphs until it is finished
pub record Font : Type 0 where
  -- its number, from 1 on
  pub name : ℕ
  pub height : ℕ
  -- the advance of characters without a glyph
  pub advance : ℕ
  pub finished : Bool
  -- in order of adding
  pub glyphs : List Glyph

-- the bytes of a row of so many bits
abbrev pub row_bytes : ℕ → ℕ
row_bytes w = (w + 7) / 8

-- the bytes of a glyph's bits
abbrev pub glyph_bytes : GlyphBox → ℕ
glyph_bytes shape = shape.h * row_bytes shape.w

-- the bytes of row y of a glyph, counted from the top
abbrev pub row_at : Glyph → ℕ → List ℕ
row_at g y = slice_range g.rows (y * row_bytes g.shape.w) (y * row_bytes g.shape.w + row_bytes g.shape.w)

-- whether a point of the box is set, counted from its top left: the highest bit of a byte is its first
abbrev pub dot_at : Glyph → ℤ → ℤ → Bool
dot_at g (pos x) (pos y) = nat_lt x g.shape.w && nat_lt y g.shape.h && bit_of (row_at g y) x
dot_at g (negsuc x) y = false
dot_at g (pos x) (negsuc y) = false

-- the cell of a glyph, in which its box stands at its offset
abbrev pub cell_of : Glyph → Cell
cell_of g = record { advance = g.shape.advance; dot = λ x y. dot_at g (x -ℤ g.shape.ox) (y -ℤ g.shape.oy) }

-- a cell without a point, of so many pixels in width
abbrev pub empty_cell : ℕ → Cell
empty_cell advance = record { advance = advance; dot = λ x y. false }

-- the glyph of a character
abbrev pub glyph_of : List Glyph → ℕ → Option Glyph
glyph_of [] code = None
glyph_of (g ∷ gs) code = if g.code == code then Some g else glyph_of gs code

-- the cell of a character's glyph; without one, an empty cell of the font's advance
abbrev pub cell_or : ℕ → Option Glyph → Cell
cell_or advance None = empty_cell advance
cell_or advance (Some g) = cell_of g

-- what texts need of a font: the height of its lines, and the cell of each character
abbrev pub face_of : Font → Face
face_of font =
    record { height = font.height; cell = λ code. cell_or font.advance (glyph_of font.glyphs code) }

-- the font of a number, if there is one
abbrev pub font_of : List Font → ℕ → Option Font
font_of [] name = None
font_of (f ∷ fs) name = if f.name == name then Some f else font_of fs name

-- the face of a font, and of the built-in one where there is none
abbrev pub face_or : Option Font → Face
face_or None = built_in
face_or (Some font) = face_of font

-- the font of a number: 0 is the built-in one, which also stands for a font that is not there
unfoldable pub face : List Font → ℕ → Face
face fonts name = if name == 0 then built_in else face_or (font_of fonts name)

-- whether there is a font of this number
abbrev pub has_font : List Font → ℕ → Bool
has_font fonts name = name == 0 || is_some (font_of fonts name)

-- whether a font takes no more glyphs
abbrev pub is_done : Font → Bool
is_done font = font.finished

-- whether a font is finished, if there is one
abbrev pub finished : List Font → ℕ → Option Bool
finished fonts name = if name == 0 then Some true else option_map is_done (font_of fonts name)

-- whether there is a font with a glyph of this code
abbrev pub has_code : Option Font → ℕ → Bool
has_code None code = false
has_code (Some font) code = is_some (glyph_of font.glyphs code)

-- whether there is a font of this number with a glyph of this code
abbrev pub has_glyph : List Font → ℕ → ℕ → Bool
has_glyph fonts name code = if name == 0 then has_built_in code else has_code (font_of fonts name) code
