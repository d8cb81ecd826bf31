-- What is seen of a glyph along one axis.
use Rattle.std.proofs.Common.{◌≡◌, ◌∙◌, refl, ℕ, ◌+◌, ◌<◌, ◌≤◌, Bool, true, false, ◌&&◌, arith, ℤ, ◌≤ℤ◌, ◌<ℤ◌, ◌+ℤ◌, ◌-ℤ◌}
use Rattle.std.specs.Prelude.{pos}
use Rattle.std.specs.Int.{int_max, int_min}
use Rattle.std.specs.Int.Signed.{le_z, lt_z}
use Rattle.std.proofs.lemmas.Int.{ints}
use Rattle.std.proofs.lemmas.Bool.Decides.{nat_tests}
use Rattle.gui_base.specs.Area.{count_between}
use Rattle.gui_color.proofs.Places.{count_is, distance_is}
use Rattle.gui_draw.specs.Spans.{is_seen, IsSpan}

le_max : (a b z : ℤ) → le_z (int_max a b) z ≡ (le_z a z && le_z b z)
le_max a b z = grind (arith, ints, nat_tests)

le_min : (z a b : ℤ) → le_z z (int_min a b) ≡ (le_z z a && le_z z b)
le_min z a b = grind (arith, ints, nat_tests)

last_is : (from v : ℤ) (n : ℕ) → le_z (v +ℤ pos 1) (from +ℤ pos n) ≡ le_z v ((from +ℤ pos n) -ℤ pos 1)
last_is from v n = grind (arith, ints, nat_tests)

regroup : (a b c d e f : Bool) → (((a && b) && (c && d)) && (e && f)) ≡ (((a && c) && e) && ((b && d) && f))
regroup true true c d e f = four c d e f where
  four : (c d e f : Bool) → ((c && d) && (e && f)) ≡ ((c && e) && (d && f))
  four true true e f = refl
  four true false true f = refl
  four true false false f = refl
  four false d e f = refl
regroup true false true d true f = refl
regroup true false true d false f = refl
regroup true false false d e f = refl
regroup false b c d e f = refl

-- the greatest start and the least end
pub seen_is : (low high cell start v : ℤ) (offset : ℤ) (advance size : ℕ) → start ≡ cell +ℤ offset →
    is_seen low high cell advance offset size v ≡ (le_z (int_max (int_max low cell) start) v && le_z v (int_min (int_min high ((cell +ℤ pos advance) -ℤ pos 1)) ((start +ℤ pos size) -ℤ pos 1)))
seen_is low high cell start v offset advance size e =
    rw (← e, last_is cell v advance, last_is start v size)
    (regroup (le_z low v) (le_z v high) (le_z cell v) (le_z v ((cell +ℤ pos advance) -ℤ pos 1)) (le_z start v) (le_z v ((start +ℤ pos size) -ℤ pos 1))
    ∙ rw (le_max (int_max low cell) start v, le_max low cell v, le_min v (int_min high ((cell +ℤ pos advance) -ℤ pos 1)) ((start +ℤ pos size) -ℤ pos 1), le_min v high ((cell +ℤ pos advance) -ℤ pos 1)) refl)

none_between : (a b v : ℤ) → b <ℤ a → (le_z a v && le_z v b) ≡ false
none_between a b v h = grind (arith, ints, nat_tests)

pub span_none : (low high cell start from to v offset : ℤ) (advance size : ℕ) → start ≡ cell +ℤ offset → from ≡ int_max (int_max low cell) start →
    to ≡ int_min (int_min high ((cell +ℤ pos advance) -ℤ pos 1)) ((start +ℤ pos size) -ℤ pos 1) → to <ℤ from → is_seen low high cell advance offset size v ≡ false
span_none low high cell start from to v offset advance size e f t h =
    seen_is low high cell start v offset advance size e ∙ rw (← f, ← t) (none_between from to v h)

fits_in : (start from to : ℤ) (first size : ℕ) → start +ℤ pos first ≡ from → from ≤ℤ to → to ≤ℤ ((start +ℤ pos size) -ℤ pos 1) → first + count_between from to ≤ size
fits_in start from to first size e order last = rw (count_is from to order) (omega (arith, ints, e, distance_is from to order))

max_above : (a b c : ℤ) → (a ≤ℤ int_max (int_max a b) c) × (c ≤ℤ int_max (int_max a b) c)
max_above a b c = (grind (arith, ints), grind (arith, ints))

min_below : (a b c : ℤ) → (int_min (int_min a b) c ≤ℤ a) × (int_min (int_min a b) c ≤ℤ c)
min_below a b c = (grind (arith, ints), grind (arith, ints))

pub start_below : (low cell start from : ℤ) → from ≡ int_max (int_max low cell) start → start ≤ℤ from
start_below low cell start from f = rw f (max_above low cell start).1

-- what is seen begins in the box
pub start_near : (high cell start from to : ℤ) (advance size : ℕ) → size < 256 → to ≡ int_min (int_min high ((cell +ℤ pos advance) -ℤ pos 1)) ((start +ℤ pos size) -ℤ pos 1) → from ≤ℤ to → from ≤ℤ (start +ℤ pos 255)
start_near high cell start from to advance size small t order =
    let last : to ≤ℤ ((start +ℤ pos size) -ℤ pos 1) = rw t (min_below high ((cell +ℤ pos advance) -ℤ pos 1) ((start +ℤ pos size) -ℤ pos 1)).1 in
    omega (arith, ints)

pub span_some : (low high cell start from to offset : ℤ) (advance size first : ℕ) → start ≡ cell +ℤ offset → from ≡ int_max (int_max low cell) start →
    to ≡ int_min (int_min high ((cell +ℤ pos advance) -ℤ pos 1)) ((start +ℤ pos size) -ℤ pos 1) → from ≤ℤ to → start +ℤ pos first ≡ from →
    IsSpan low high cell advance offset size (record { from = from; to = to; first = first })
span_some low high cell start from to offset advance size first e f t order at = record {
  order = order;
  after = rw f (max_above low cell start).0;
  before = rw t (min_below high ((cell +ℤ pos advance) -ℤ pos 1) ((start +ℤ pos size) -ℤ pos 1)).0;
  seen = λ v. seen_is low high cell start v offset advance size e ∙ rw (← f, ← t) refl;
  first_is = rw (← e) at;
  fits = fits_in start from to first size at order (rw t (min_below high ((cell +ℤ pos advance) -ℤ pos 1) ((start +ℤ pos size) -ℤ pos 1)).1);
}

pub lt_true : (a b : ℤ) → lt_z a b ≡ true → a <ℤ b
lt_true a b h = grind (arith, ints)

pub lt_false : (a b : ℤ) → lt_z a b ≡ false → b ≤ℤ a
lt_false a b h = grind (arith, ints)
