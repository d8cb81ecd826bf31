-- Areas that leave room for pads, texts and images beside them.
use Rattle.std.specs.Prelude.{ℕ, ℤ, pos, negsuc, ◌≤ℤ◌, ◌+ℤ◌}
use Rattle.gui_base.specs.Area.{Rect}

-- a coordinate of a place
abbrev pub IsPlaced : ℤ → Type 0
IsPlaced n = (negsuc 999999999 ≤ℤ n) × (n ≤ℤ pos 1000000000)

-- a place: each of its coordinates is one
pub record IsPlace (area : Rect) : Type 0 where
  pub x1 : IsPlaced area.x1
  pub y1 : IsPlaced area.y1
  pub x2 : IsPlaced area.x2
  pub y2 : IsPlaced area.y2

-- a coordinate that lies little further than those of places
abbrev pub IsNear : ℤ → Type 0
IsNear n = (negsuc 1000009999 ≤ℤ n) × (n ≤ℤ pos 1000010000)

-- a content area: each of its coordinates lies little further
pub record IsContent (area : Rect) : Type 0 where
  pub x1 : IsNear area.x1
  pub y1 : IsNear area.y1
  pub x2 : IsNear area.x2
  pub y2 : IsNear area.y2

-- from a coordinate on, so many pixels stay within the coordinates of areas
abbrev pub Reaches : ℤ → ℕ → Type 0
Reaches from n = (negsuc 1073741822 ≤ℤ from) × ((from +ℤ pos n) ≤ℤ pos 1073741823)
