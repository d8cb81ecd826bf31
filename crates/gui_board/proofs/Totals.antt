-- How many pixels are pending at most.
use Rattle.std.proofs.Common.{◌≡◌, ℕ, ◌*◌, ◌^◌, ◌<◌, ◌≤◌, false, true, List, [], ◌∷◌, length, arith, mul-le-mul, mul-le-mul_left, mul-le-mul_right, suc-mul}
use Rattle.std.specs.List.{list_all}
use Rattle.std.proofs.lemmas.Int.{ints}
use Rattle.std.proofs.lemmas.List.Sums.{sum_by-cons}
use Rattle.gui_base.specs.Area.{Rect, is_empty, height_of, width_of, size_of, is_within}
use Rattle.gui_damage.proofs.Lines.{count_is, in_order}
use Rattle.gui_damage.proofs.Listed.{within, and_first, and_second}
use Rattle.gui_damage.proofs.Slices.{width_within}
use Rattle.gui_damage.specs.Pending.{Pending, IsPending, most_areas, total}

-- an area of the panel is no higher than it
height_within : (panel area : Rect) → is_within panel area ≡ true → is_empty panel ≡ false → height_of area ≤ height_of panel
height_within panel area h some =
    let w = within panel area h in
    let order = in_order area w.some in
    let whole = in_order panel some in
    omega (arith, ints, count_is area.y1 area.y2 order.down, count_is panel.y1 panel.y2 whole.down, w.around.top, w.around.bottom)

size_within : (panel area : Rect) → is_within panel area ≡ true → is_empty panel ≡ false → size_of area ≤ size_of panel
size_within panel area h some = mul-le-mul (width_within panel area h some) (height_within panel area h some)

-- areas of the panel have no more pixels than as many panels
total_within : (panel : Rect) (areas : List Rect) → is_empty panel ≡ false → list_all (is_within panel) areas ≡ true → total areas ≤ length areas * size_of panel
total_within panel [] some each = omega arith
total_within panel (area ∷ areas) some each =
    let first = size_within panel area (and_first _ _ each) some in
    let others : total areas ≤ length areas * size_of panel = total_within panel areas some (and_second _ _ each) in
    let more = suc-mul (length areas) (size_of panel) in
    omega (arith, sum_by-cons size_of area areas, first, others, more)

-- and of them at most so many are listed
pub total_most : (pending : Pending) → IsPending pending → total pending.areas ≤ most_areas * size_of pending.panel
total_most pending h =
    let each = total_within pending.panel pending.areas h.some h.each in
    let few = mul-le-mul_right (size_of pending.panel) h.few in
    omega (arith, each, few)

-- where the panel is small, they are few
pub few_pixels : (pending : Pending) → IsPending pending → size_of pending.panel ≤ 1048576 → total pending.areas < 2 ^ 64
few_pixels pending h small =
    let most = total_most pending h in
    let times = mul-le-mul_left most_areas small in
    omega (arith, most, times)

-- a panel is small
pub small_panel : (w h : ℕ) (panel : Rect) → w ≤ 1024 → h ≤ 1024 → width_of panel ≡ w → height_of panel ≡ h → size_of panel ≤ 1048576
small_panel w h panel wide high width height =
    let most = mul-le-mul wide high in
    rw (width, height) (omega (arith, most))
