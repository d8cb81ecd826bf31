-- What a count of the numbers from one to another says of them.
use Rattle.gui_draw.proofs.Common.{pos, ◌≡◌, ℕ, ◌+ℤ◌, ◌≤ℤ◌, ◌<◌, ◌≤◌, ℤ, arith, ints, count_between, w32, to_z, of_z}
use Rattle.gui_base.specs.Area.{IsCoordinate}

pub reaches : (low high : ℤ) (n : ℕ) → n < count_between low high → (low +ℤ pos n) ≤ℤ high
reaches low high n h = grind (arith, ints)

pub ends : (low high : ℤ) (n : ℕ) → count_between low high ≤ n → (high +ℤ pos 1) ≤ℤ (low +ℤ pos n)
ends low high n h = grind (arith, ints)

-- Coordinates, as a call passes them on.
kept : (z : ℤ) → IsCoordinate z → to_z w32 (of_z w32 z) ≡ z
kept z h = omega (arith, ints)

pub both_kept : (low high : ℤ) → IsCoordinate low → IsCoordinate high → IsCoordinate (to_z w32 (of_z w32 low)) × IsCoordinate (to_z w32 (of_z w32 high))
both_kept low high h k = rw (kept low h, kept high k) (h, k)

pub count_kept : (low high : ℤ) (n : ℕ) → IsCoordinate low → IsCoordinate high → n < count_between low high → n < count_between (to_z w32 (of_z w32 low)) (to_z w32 (of_z w32 high))
count_kept low high n h k few = rw (kept low h, kept high k) few
