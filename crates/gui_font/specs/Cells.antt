-- The cells of characters.
use Rattle.std.specs.Prelude.{◌≡◌, false, length, ℤ}
use Rattle.text_defs.specs.Face.{Cell}
use Rattle.text_defs.specs.Fonts.{Glyph, cell_of, glyph_bytes}
use Rattle.gui_font.specs.declared.fonts.Bits.{Bits}

-- no point of the cell is set
abbrev pub IsEmptyCell : Cell → Type 0
IsEmptyCell cell = (x y : ℤ) → cell.dot x y ≡ false

-- the glyph of these bits: no point of it depends on its character
abbrev pub glyph_with : Bits → Glyph
glyph_with bits = record { code = 0; shape = bits.shape; rows = bits.rows.now }

-- the cell is that of a glyph with these bits
pub record IsCell (cell : Cell) (bits : Bits) : Type 0 where
  pub is : cell ≡ cell_of (glyph_with bits)
  pub whole : length bits.rows.now ≡ glyph_bytes bits.shape
