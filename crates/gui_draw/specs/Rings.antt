-- A ring along the sides of an area, as four bands.
use Rattle.std.specs.Prelude.{ℕ, ◌*◌, ◌≤◌, ◌<◌, ◌⊎◌, pos, ◌+ℤ◌, ◌-ℤ◌}
use Rattle.gui_base.specs.Area.{Rect, width_of, height_of}

-- the ring leaves something of the area
pub record IsThin (area : Rect) (width : ℕ) : Type 0 where
  pub columns : 2 * width < width_of area
  pub lines : 2 * width < height_of area

-- it leaves nothing
abbrev pub IsThick : Rect → ℕ → Type 0
IsThick area width = (width_of area ≤ 2 * width) ⊎ (height_of area ≤ 2 * width)

abbrev pub top_band : Rect → ℕ → Rect
top_band a n = record { x1 = a.x1; y1 = a.y1; x2 = a.x2; y2 = (a.y1 +ℤ pos n) -ℤ pos 1 }

abbrev pub bottom_band : Rect → ℕ → Rect
bottom_band a n = record { x1 = a.x1; y1 = (a.y2 -ℤ pos n) +ℤ pos 1; x2 = a.x2; y2 = a.y2 }

-- left and right of what the ring leaves
abbrev pub left_band : Rect → ℕ → Rect
left_band a n =
    record { x1 = a.x1; y1 = a.y1 +ℤ pos n; x2 = (a.x1 +ℤ pos n) -ℤ pos 1; y2 = a.y2 -ℤ pos n }

abbrev pub right_band : Rect → ℕ → Rect
right_band a n =
    record { x1 = (a.x2 -ℤ pos n) +ℤ pos 1; y1 = a.y1 +ℤ pos n; x2 = a.x2; y2 = a.y2 -ℤ pos n }
