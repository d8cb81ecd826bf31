-- The bits of a glyph over a part of a draw buffer.
use Rattle.std.specs.Prelude.{ℕ, ◌+◌, ◌*◌, ◌≤◌, Bool, ℤ, length, slice_range}
use Rattle.gui_base.specs.Area.{Rect, width_of, height_of}
use Rattle.gui_color.specs.Buffer.{distance}
use Rattle.gui_color.specs.Masks.{mask_bit}
use Rattle.gui_draw.specs.declared.dots.Dots.{Dots}

-- bit x of row y
abbrev pub dot_of : Dots → ℕ → ℕ → Bool
dot_of dots x y = mask_bit (slice_range dots.bytes.now (y * dots.stride) (y * dots.stride + dots.stride)) x

-- the bit of each pixel of a part
abbrev pub dots_in : Dots → Rect → ℤ → ℤ → Bool
dots_in dots part x y = dot_of dots (dots.column + distance part.x1 x) (dots.row + distance part.y1 y)

-- each pixel of the part has a bit
pub record HasDots (dots : Dots) (part : Rect) : Type 0 where
  pub columns : dots.column + width_of part ≤ 8 * dots.stride
  pub rows : (dots.row + height_of part) * dots.stride ≤ length dots.bytes.now
  pub few : dots.row + height_of part ≤ 255
  pub small : dots.stride ≤ 32
