-- The texels of an image over a part of a draw buffer.
use Rattle.std.specs.Prelude.{◌≡◌, ℕ, ◌+◌, ◌*◌, ◌<◌, ◌≤◌, List, length, Some, pos, ◌+ℤ◌, ◌-ℤ◌}
use Rattle.std.specs.Int.{int_min}
use Rattle.gui_base.specs.declared.color.Rgb565.{Rgb565}
use Rattle.gui_base.specs.declared.words.Format.{Format}
use Rattle.gui_base.specs.Area.{Rect, width_of, height_of}
use Rattle.gui_base.specs.Coats.{Dab, Coat, laid}
use Rattle.gui_color.specs.Buffer.{distance}
use Rattle.text_defs.specs.Images.{image_bytes, texel_in, texel_size}
use Rattle.text_defs.specs.Coats.{dab_of}
use Rattle.gui_font.specs.Bitmaps.{bitmap_texel}
use Rattle.gui_draw.specs.declared.texels.Texels.{Texels}

-- what the texel in a column and a row lays
abbrev pub texel_dab : Texels → ℕ → ℕ → Dab
texel_dab t x y = dab_of (bitmap_texel t.bitmap x y) t.recolor t.opa

-- the texel in a column over a colour, by the bytes of its row
abbrev pub row_over : Format → List ℕ → Rgb565 → ℕ → ℕ → Rgb565 → Rgb565
row_over format bytes recolor opa x bg =
    laid (Some (dab_of (texel_in format bytes (x * texel_size format)) recolor opa)) bg

abbrev pub texel_over : Texels → ℕ → ℕ → Rgb565 → Rgb565
texel_over t x y bg = laid (Some (texel_dab t x y)) bg

-- the texel of each pixel of a part
abbrev pub texels_in : Texels → Rect → Coat
texels_in t part x y = Some (texel_dab t (t.column + distance part.x1 x) (t.row + distance part.y1 y))

-- the first n pixels of a row have texels in row y
pub record HasTexelRow (t : Texels) (y n : ℕ) : Type 0 where
  pub columns : t.column + n ≤ t.bitmap.width
  pub row : y < t.bitmap.height
  pub whole : length t.bitmap.bytes.now ≡ image_bytes t.bitmap.format t.bitmap.width t.bitmap.height
  pub small : (t.bitmap.width < 65536) × (t.bitmap.height < 65536)

-- each pixel of the part has a texel
pub record HasTexels (t : Texels) (part : Rect) : Type 0 where
  pub columns : t.column + width_of part ≤ t.bitmap.width
  pub rows : t.row + height_of part ≤ t.bitmap.height
  pub whole : length t.bitmap.bytes.now ≡ image_bytes t.bitmap.format t.bitmap.width t.bitmap.height
  pub small : (t.bitmap.width < 65536) × (t.bitmap.height < 65536)

-- the first so many columns and lines of an area
abbrev pub first_pixels : Rect → ℕ → ℕ → Rect
first_pixels area columns lines = record {
  x1 = area.x1;
  y1 = area.y1;
  x2 = int_min area.x2 ((area.x1 +ℤ pos columns) -ℤ pos 1);
  y2 = int_min area.y2 ((area.y1 +ℤ pos lines) -ℤ pos 1);
}
