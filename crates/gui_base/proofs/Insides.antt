-- Areas of a panel by their corners.
use Rattle.std.proofs.Common.{◌≡◌, refl, ◌≤ℤ◌, Bool, true, false, ◌&&◌, not, arith}
use Rattle.std.proofs.lemmas.Int.{ints}
use Rattle.gui_base.specs.Area.{Rect, is_empty, has_corners, is_within}
use Rattle.gui_base.proofs.Areas.{Around, around_corners, corners_around}

-- an area that is not empty lies in a panel
pub record Inside (panel area : Rect) : Type 0 where
  pub across : area.x1 ≤ℤ area.x2
  pub down : area.y1 ≤ℤ area.y2
  pub around : Around panel area

both_true : (a b : Bool) → (not a && b) ≡ true → (a ≡ false) × (b ≡ true)
both_true true b h = cc
both_true false b h = (refl, h)

pub across_of : (area : Rect) → is_empty area ≡ false → area.x1 ≤ℤ area.x2
across_of area some = grind (arith, ints)

pub down_of : (area : Rect) → is_empty area ≡ false → area.y1 ≤ℤ area.y2
down_of area some = grind (arith, ints)

some_of : (area : Rect) → area.x1 ≤ℤ area.x2 → area.y1 ≤ℤ area.y2 → is_empty area ≡ false
some_of area across down = grind (arith, ints)

pub inside_of : (panel area : Rect) → is_within panel area ≡ true → Inside panel area
inside_of panel area h =
    let both = both_true (is_empty area) (has_corners panel area) h in
    record { across = across_of area both.0; down = down_of area both.0; around = around_corners panel area both.1 }

pub of_inside : (panel area : Rect) → Inside panel area → is_within panel area ≡ true
of_inside panel area h = rw (some_of area h.across h.down, corners_around panel area h.around) refl
