-- A ring is four bands, of which no two have a pixel in common.
use Rattle.gui_draw.proofs.Common.{pos, ◌≡◌, ◌∙◌, refl, sym, ap, ℕ, ◌*◌, ◌<◌, Bool, true, false, not, ◌&&◌, ◌||◌, if◌then◌else◌, Option, None, arith, inl, inr, ℤ, ◌+ℤ◌, ◌-ℤ◌, ints, nat_tests, le_z, Rgb565, Rect, has, count_between, Dab, only, within, plain, fill_coat, ring_coat, shrunk, is_between, Buffer, Draws, IsThin, IsThick, top_band, bottom_band, left_band, right_band}
use Rattle.gui_draw.proofs.Steps.{draws_none, draws_same, draws_both}

-- a number of an interval is one of the first, of the middle or of the last ones
record Parted (first middle last whole : Bool) : Type 0 where
  all : whole ≡ (first || (middle || last))
  not_middle : (first && middle) ≡ false
  not_last : (first && last) ≡ false
  apart : (middle && last) ≡ false

parted : (a b x : ℤ) (n : ℕ) → 2 * n < count_between a b →
    Parted (le_z a x && le_z x ((a +ℤ pos n) -ℤ pos 1)) (le_z (a +ℤ pos n) x && le_z x (b -ℤ pos n)) (le_z ((b -ℤ pos n) +ℤ pos 1) x && le_z x b) (le_z a x && le_z x b)
parted a b x n h = record { all = grind (arith, ints, nat_tests); not_middle = grind (arith, ints, nat_tests); not_last = grind (arith, ints, nat_tests); apart = grind (arith, ints, nat_tests) }

-- a pixel of the ring in a clip is in one of the bands
record Split (clip top bottom left right ring : Bool) : Type 0 where
  all : ((((clip && top) || (clip && bottom)) || (clip && left)) || (clip && right)) ≡ (clip && ring)
  second : ((clip && top) && (clip && bottom)) ≡ false
  third : (((clip && top) || (clip && bottom)) && (clip && left)) ≡ false
  fourth : ((((clip && top) || (clip && bottom)) || (clip && left)) && (clip && right)) ≡ false

split : (clip f m l w f' m' l' w' : Bool) → Parted f m l w → Parted f' m' l' w' → Split clip (w && f') (w && l') (f && m') (l && m') ((w && w') && not (m && m'))
split clip f m l w f' m' l' w' p q =
    let a = p.all in let b = p.not_middle in let c = p.not_last in let d = p.apart in
    let e = q.all in let g = q.not_middle in let h = q.not_last in let i = q.apart in
    record { all = grind (arith, nat_tests); second = grind (arith, nat_tests); third = grind (arith, nat_tests); fourth = grind (arith, nat_tests) }

-- tests one after the other
both_tests : (a b : Bool) (d : Option Dab) → (if a then (if b then d else None) else None) ≡ (if (a && b) then d else None)
both_tests true b d = refl
both_tests false b d = refl

module _ (clip area : Rect) (n : ℕ) (fg : Rgb565) (opa : ℕ) where
  -- a ring of no pixels
  pub ring_none : (buf : Buffer) (steps : ℕ) → n ≡ 0 → Draws buf buf steps steps (within clip (ring_coat area n fg opa))
  ring_none buf steps zero =
      draws_none buf steps _ (λ x y i.
      let same : has (shrunk area n) x y ≡ has area x y = rw zero (grind (arith, ints, nat_tests)) in
      both_tests (has clip x y) (is_between area (shrunk area n) x y) (plain fg opa x y) ∙ rw same (outside (has clip x y) (has area x y) (plain fg opa x y))) where
        outside : (a b : Bool) (d : Option Dab) → (if (a && (b && not b)) then d else None) ≡ None
        outside a b d = grind (arith, nat_tests)

  -- one that leaves nothing of the area
  thick_out : (x y : ℤ) → IsThick area n → has (shrunk area n) x y ≡ false
  thick_out x y (inl h) = grind (arith, ints, nat_tests)
  thick_out x y (inr h) = grind (arith, ints, nat_tests)

  pub ring_thick : (old new : Buffer) (from to : ℕ) → IsThick area n → Draws old new from to (within clip (fill_coat area fg opa)) → Draws old new from to (within clip (ring_coat area n fg opa))
  ring_thick old new from to thick =
      draws_same old new from to _ _ (λ x y i.
      let out = thick_out x y thick in
      rw out (ap (λ (t : Bool). if has clip x y then (if t then plain fg opa x y else None) else None) (all (has area x y)))) where
        all : (a : Bool) → a ≡ (a && not false)
        all a = grind (arith, nat_tests)

  -- what is in the clip and in a band
  abbrev in_band : Rect → ℤ → ℤ → Bool
  in_band band x y = has clip x y && has band x y

  banded : (old new : Buffer) (band : Rect) (from to : ℕ) → Draws old new from to (within clip (fill_coat band fg opa)) → Draws old new from to (only (in_band band) (plain fg opa))
  banded old new band from to = draws_same old new from to _ _ (λ x y i. both_tests (has clip x y) (has band x y) (plain fg opa x y))

  pub ring_bands : (a b c d e : Buffer) (k l m o p : ℕ) → IsThin area n →
      Draws a b k l (within clip (fill_coat (top_band area n) fg opa)) → Draws b c l m (within clip (fill_coat (bottom_band area n) fg opa)) →
      Draws c d m o (within clip (fill_coat (left_band area n) fg opa)) → Draws d e o p (within clip (fill_coat (right_band area n) fg opa)) →
      Draws a e k p (within clip (ring_coat area n fg opa))
  ring_bands a b c d e k l m o p thin first second third fourth =
      let s = λ (x y : ℤ). split (has clip x y) _ _ _ _ _ _ _ _ (parted area.x1 area.x2 x n thin.columns) (parted area.y1 area.y2 y n thin.lines) in
      let two = draws_both a b c k l m (in_band (top_band area n)) (in_band (bottom_band area n)) (plain fg opa) (λ x y i. (s x y).second) (banded a b (top_band area n) k l first) (banded b c (bottom_band area n) l m second) in
      let three = draws_both a c d k m o _ (in_band (left_band area n)) (plain fg opa) (λ x y i. (s x y).third) two (banded c d (left_band area n) m o third) in
      let four = draws_both a d e k o p _ (in_band (right_band area n)) (plain fg opa) (λ x y i. (s x y).fourth) three (banded d e (right_band area n) o p fourth) in
      draws_same a e k p _ _ (λ x y i. ap (λ (t : Bool). if t then plain fg opa x y else None) (s x y).all ∙ sym (both_tests (has clip x y) (is_between area (shrunk area n) x y) (plain fg opa x y))) four
