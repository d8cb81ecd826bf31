-- Glyphs that stand in cells.
use Rattle.std.specs.Prelude.{ℕ, Bool, List, ℤ, ◌-ℤ◌}
use Rattle.gui_base.specs.Area.{Rect}
use Rattle.text_defs.specs.declared.GlyphBox.{GlyphBox}
use Rattle.text_defs.specs.Fonts.{Glyph, cell_of}
use Rattle.text_defs.specs.Ink.{cell_inked}
use Rattle.gui_draw.specs.declared.glyphs.Span.{Span}

-- the glyph of this box and these bits: no point of it depends on its character
abbrev pub glyph_from : GlyphBox → List ℕ → Glyph
glyph_from shape bytes = record { code = 0; shape = shape; rows = bytes }

-- the set points of a glyph in a cell of this height that stands at `left` and `top`
abbrev pub glyph_at : ℕ → GlyphBox → List ℕ → ℤ → ℤ → ℤ → ℤ → Bool
glyph_at height shape bytes left top x y =
    cell_inked height (cell_of (glyph_from shape bytes)) (x -ℤ left) (y -ℤ top)

abbrev pub span_rect : Span → Span → Rect
span_rect columns lines = record { x1 = columns.from; y1 = lines.from; x2 = columns.to; y2 = lines.to }
