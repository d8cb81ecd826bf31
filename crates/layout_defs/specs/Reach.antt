-- How large objects are, and how far they stand from the panel's corner.
use Rattle.std.specs.Prelude.{ℕ, ◌≤◌, ℤ, pos, negsuc, ◌≤ℤ◌}
use Rattle.std.specs.List.{All}
use Rattle.gui_base.specs.Area.{Rect}
use Rattle.gui_base.specs.Forest.{Forest, preorder, size, height}
use Rattle.layout_defs.specs.Boxes.{Axis, Box}
use Rattle.layout_defs.specs.Solving.{Wide, with_natural_widths, Placed, place_of, solved}

-- the natural width of an object is a size
abbrev pub NaturalWidthsAreSizes : Type 0
NaturalWidthsAreSizes =
    (f : Forest Box) → All (λ (w : Wide). w.natural ≤ 8191) (preorder (with_natural_widths f))

pub record HasSizes (p : Placed) : Type 0 where
  pub width : p.tall.width ≤ 8191
  pub natural_height : p.tall.natural_height ≤ 8191
  pub height : p.slot.height ≤ 8191

-- on a panel whose sizes are sizes, those of all objects are
abbrev pub SolvedAreSizes : Type 0
SolvedAreSizes =
    (width height : ℕ) (f : Forest Box) → width ≤ 8191 → height ≤ 8191 →
    All HasSizes (preorder (solved width height f))

-- the numbers of an axis lie in their intervals
pub record IsAxis (axis : Axis) : Type 0 where
  pub wanted_least : negsuc 3999 ≤ℤ axis.wanted
  pub wanted_most : axis.wanted ≤ℤ pos 4000
  pub before : axis.before ≤ 1100
  pub gap : axis.gap ≤ 1000
  pub scroll : axis.scroll ≤ 8191

pub record IsBox (box : Box) : Type 0 where
  pub across : IsAxis box.across
  pub down : IsAxis box.down

-- a number of a place
abbrev pub IsPlaced : ℤ → Type 0
IsPlaced n = (negsuc 999999999 ≤ℤ n) × (n ≤ℤ pos 1000000000)

pub record IsNear (area : Rect) : Type 0 where
  pub x1 : IsPlaced area.x1
  pub y1 : IsPlaced area.y1
  pub x2 : IsPlaced area.x2
  pub y2 : IsPlaced area.y2

-- at most 4,000 objects, none deeper than 16, stand within 1,000,000,000 pixels of the panel's corner
abbrev pub PlacesAreNear : Type 0
PlacesAreNear =
    (across down : ℕ) (f : Forest Box) → across ≤ 8191 → down ≤ 8191 →
    All IsBox (preorder f) → size f ≤ 4000 → height f ≤ 16 →
    All (λ p. IsNear (place_of p)) (preorder (solved across down f))
