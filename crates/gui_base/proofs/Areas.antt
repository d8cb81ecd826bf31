-- Areas as sets of pixels.
use Rattle.std.proofs.Common.{◌≡◌, ◌∙◌, sym, refl, ℤ, ◌≤ℤ◌, Bool, true, false, ◌&&◌, arith, IsTrue, ◌↔◌}
use Rattle.std.specs.Int.{int_max, int_min}
use Rattle.std.specs.Int.Signed.{le_z}
use Rattle.std.proofs.lemmas.Int.{ints}
use Rattle.std.proofs.lemmas.Bool.Decides.{nat_tests}
use Rattle.gui_base.specs.Area.{Rect, has, is_empty, common, joined, Covers, has_corners}

le_max : (a b z : ℤ) → le_z (int_max a b) z ≡ (le_z a z && le_z b z)
le_max a b z = grind (arith, ints, nat_tests)

le_min : (z a b : ℤ) → le_z z (int_min a b) ≡ (le_z z a && le_z z b)
le_min z a b = grind (arith, ints, nat_tests)

swap_three : (b c d : Bool) → (b && (c && d)) ≡ (c && (b && d))
swap_three true true d = refl
swap_three true false d = refl
swap_three false true d = refl
swap_three false false d = refl

swap_four : (a b c d : Bool) → ((a && b) && (c && d)) ≡ ((a && c) && (b && d))
swap_four true b c d = swap_three b c d
swap_four false b c d = refl

-- the pixels of the meet are those of both
pub has-common : (a b : Rect) (x y : ℤ) → has (common a b) x y ≡ (has a x y && has b x y)
has-common a b x y =
    rw (
      le_max a.x1 b.x1 x,
      le_min x a.x2 b.x2,
      le_max a.y1 b.y1 y,
      le_min y a.y2 b.y2,
      swap_four (le_z a.x1 x) (le_z b.x1 x) (le_z x a.x2) (le_z x b.x2),
      swap_four (le_z a.y1 y) (le_z b.y1 y) (le_z y a.y2) (le_z y b.y2),
    )
    (swap_four (le_z a.x1 x && le_z x a.x2) (le_z b.x1 x && le_z x b.x2) (le_z a.y1 y && le_z y a.y2) (le_z b.y1 y && le_z y b.y2))

-- the four sides of a pixel in an area
pub record Between (a : Rect) (x y : ℤ) : Type 0 where
  pub left : a.x1 ≤ℤ x
  pub right : x ≤ℤ a.x2
  pub top : a.y1 ≤ℤ y
  pub bottom : y ≤ℤ a.y2

pub between_has : (a : Rect) (x y : ℤ) → has a x y ≡ true → Between a x y
between_has a x y h = record { left = grind (arith, ints); right = grind (arith, ints); top = grind (arith, ints); bottom = grind (arith, ints) }

pub has_between : (a : Rect) (x y : ℤ) → Between a x y → has a x y ≡ true
has_between a x y h =
    let l : a.x1 ≤ℤ x = h.left in let r : x ≤ℤ a.x2 = h.right in let t : a.y1 ≤ℤ y = h.top in let b : y ≤ℤ a.y2 = h.bottom in
    grind (arith, ints)

pub Covers-empty : (a b : Rect) → is_empty b ≡ true → Covers a b
Covers-empty a b e x y h = let i = between_has b x y h in let l : b.x1 ≤ℤ x = i.left in let r : x ≤ℤ b.x2 = i.right in let t : b.y1 ≤ℤ y = i.top in let m : y ≤ℤ b.y2 = i.bottom in absurd (grind (arith, ints))

pub Covers-self : (a : Rect) → Covers a a
Covers-self a x y h = h

-- the corners of the second lie between those of the first
pub record Around (a b : Rect) : Type 0 where
  pub left : a.x1 ≤ℤ b.x1
  pub right : b.x2 ≤ℤ a.x2
  pub top : a.y1 ≤ℤ b.y1
  pub bottom : b.y2 ≤ℤ a.y2

pub Covers-around : (a b : Rect) → Around a b → Covers a b
Covers-around a b s x y h =
    let i = between_has b x y h in
    has_between a x y (record { left = omega (arith, ints, s.left, i.left); right = omega (arith, ints, s.right, i.right); top = omega (arith, ints, s.top, i.top); bottom = omega (arith, ints, s.bottom, i.bottom) })

pub around_Covers : (a b : Rect) → is_empty b ≡ false → Covers a b → Around a b
around_Covers a b e h =
    let p : b.x1 ≤ℤ b.x2 = grind (arith, ints) in
    let q : b.y1 ≤ℤ b.y2 = grind (arith, ints) in
    let first = between_has a b.x1 b.y1 (h b.x1 b.y1 (has_between b b.x1 b.y1 (record { left = omega (arith, ints); right = p; top = omega (arith, ints); bottom = q }))) in
    let last = between_has a b.x2 b.y2 (h b.x2 b.y2 (has_between b b.x2 b.y2 (record { left = p; right = omega (arith, ints); top = q; bottom = omega (arith, ints) }))) in
    record { left = first.left; right = last.right; top = first.top; bottom = last.bottom }

pub around_corners : (a b : Rect) → has_corners a b ≡ true → Around a b
around_corners a b h = record { left = grind (arith, ints); right = grind (arith, ints); top = grind (arith, ints); bottom = grind (arith, ints) }

pub corners_around : (a b : Rect) → Around a b → has_corners a b ≡ true
corners_around a b s =
    let l : a.x1 ≤ℤ b.x1 = s.left in let r : b.x2 ≤ℤ a.x2 = s.right in let t : a.y1 ≤ℤ b.y1 = s.top in let m : b.y2 ≤ℤ a.y2 = s.bottom in
    grind (arith, ints)

pub has_corners-Covers : (a b : Rect) (r : Bool) → is_empty b ≡ false → r ≡ has_corners a b → IsTrue r ↔ Covers a b
has_corners-Covers a b r e h = (λ t. Covers-around a b (around_corners a b (sym h ∙ t)), λ k. h ∙ corners_around a b (around_Covers a b e k))

-- the least area with the pixels of two that are not empty
abbrev hull : Rect → Rect → Rect
hull a b = record { x1 = int_min a.x1 b.x1; y1 = int_min a.y1 b.y1; x2 = int_max a.x2 b.x2; y2 = int_max a.y2 b.y2 }

pub hull_first : (a b : Rect) → Covers (hull a b) a
hull_first a b = Covers-around (hull a b) a (record { left = grind (arith, ints); right = grind (arith, ints); top = grind (arith, ints); bottom = grind (arith, ints) })

pub hull_second : (a b : Rect) → Covers (hull a b) b
hull_second a b = Covers-around (hull a b) b (record { left = grind (arith, ints); right = grind (arith, ints); top = grind (arith, ints); bottom = grind (arith, ints) })

pub hull_least : (a b c : Rect) → is_empty a ≡ false → is_empty b ≡ false → Covers c a → Covers c b → Covers c (hull a b)
hull_least a b c p q h k =
    let i = around_Covers c a p h in
    let j = around_Covers c b q k in
    let l : c.x1 ≤ℤ a.x1 = i.left in let r : a.x2 ≤ℤ c.x2 = i.right in let t : c.y1 ≤ℤ a.y1 = i.top in let m : a.y2 ≤ℤ c.y2 = i.bottom in
    let l' : c.x1 ≤ℤ b.x1 = j.left in let r' : b.x2 ≤ℤ c.x2 = j.right in let t' : c.y1 ≤ℤ b.y1 = j.top in let m' : b.y2 ≤ℤ c.y2 = j.bottom in
    Covers-around c (hull a b) (record { left = grind (arith, ints); right = grind (arith, ints); top = grind (arith, ints); bottom = grind (arith, ints) })

abbrev corners : ℤ → ℤ → ℤ → ℤ → Rect
corners l t r m = record { x1 = l; y1 = t; x2 = r; y2 = m }

pub common_is : (a b : Rect) (l t r m : ℤ) → l ≡ int_max a.x1 b.x1 → t ≡ int_max a.y1 b.y1 → r ≡ int_min a.x2 b.x2 → m ≡ int_min a.y2 b.y2 → corners l t r m ≡ common a b
common_is a b l t r m p q u v = rw (p, q, u, v) refl

pub hull_is : (a b : Rect) (l t r m : ℤ) → l ≡ int_min a.x1 b.x1 → t ≡ int_min a.y1 b.y1 → r ≡ int_max a.x2 b.x2 → m ≡ int_max a.y2 b.y2 → corners l t r m ≡ hull a b
hull_is a b l t r m p q u v = rw (p, q, u, v) refl

pub hull_joined : (a b : Rect) → is_empty a ≡ false → is_empty b ≡ false → hull a b ≡ joined a b
hull_joined a b p q = rw (p, q) refl
