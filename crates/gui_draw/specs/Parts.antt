-- The part of an item that lies in a draw buffer, line by line.
use Rattle.std.specs.Prelude.{◌≡◌, ℕ, ◌<◌, true, false, ◌&&◌, ℤ, pos, ◌+ℤ◌, ◌≤ℤ◌}
use Rattle.gui_base.specs.Area.{Rect, has, is_empty, height_of}
use Rattle.gui_color.specs.Buffer.{row_area}

-- it has a pixel, and both its corners are in the area
pub record IsInside (area part : Rect) : Type 0 where
  pub some : is_empty part ≡ false
  pub first : has area part.x1 part.y1 ≡ true
  pub last : has area part.x2 part.y2 ≡ true

-- it has the pixels of the buffer's area that the clip and the item have
pub record IsPart (area clip item part : Rect) : Type 0 where
  pub inside : IsInside area part
  pub pixels : (x y : ℤ) → has area x y ≡ true → has part x y ≡ (has clip x y && has item x y)

-- the buffer's area has no pixel of the item in the clip
abbrev pub IsOutside : Rect → Rect → Rect → Type 0
IsOutside area clip item = (x y : ℤ) → has area x y ≡ true → (has clip x y && has item x y) ≡ false

-- the pixels of a line of an area, the first of which is line 0
abbrev pub line_of : Rect → ℕ → Rect
line_of area n = row_area (area.y1 +ℤ pos n) area.x1 area.x2

-- a part has this line, and it lies in the area
pub record HasLine (area part : Rect) (n : ℕ) : Type 0 where
  pub below : n < height_of part
  pub order : part.x1 ≤ℤ part.x2
  pub first : has area part.x1 (part.y1 +ℤ pos n) ≡ true
  pub last : has area part.x2 (part.y1 +ℤ pos n) ≡ true
