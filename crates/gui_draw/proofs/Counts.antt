-- Counting pixels.
use Rattle.gui_draw.proofs.Common.{pos, ◌≡◌, ◌≢◌, ◌∙◌, refl, sym, ap, subst, ℕ, zero, suc, ◌+◌, ◌-◌, ◌*◌, ◌<◌, ◌≤◌, Bool, true, false, ◌&&◌, ◌||◌, if◌then◌else◌, Option, None, is_some, arith, ℤ, ◌≤ℤ◌, ◌+ℤ◌, ints, nat_tests, Rect, has, width_of, height_of, count_between, Dab, Coat, only, within, distance, row_area, sum_below, one_if_laid, row_count, pixel_count}

pub sum_start : (f : ℕ → ℕ) → sum_below 0 f ≡ 0
unfolding sum_below
sum_start f = refl

pub sum_more : (n : ℕ) (f : ℕ → ℕ) → sum_below (n + 1) f ≡ sum_below n f + f n
unfolding sum_below
sum_more n f = let e : n + 1 ≡ suc n = omega arith in rw e refl

pub sum_same : (n : ℕ) (f g : ℕ → ℕ) → ((i : ℕ) → i < n → f i ≡ g i) → sum_below n f ≡ sum_below n g
unfolding sum_below
sum_same zero f g h = refl
sum_same (suc n) f g h = omega (arith, sum_same n f g (λ i l. h i (omega arith)), h n (omega arith))

sum_both : (n : ℕ) (f g k : ℕ → ℕ) → ((i : ℕ) → i < n → k i ≡ f i + g i) → sum_below n k ≡ sum_below n f + sum_below n g
unfolding sum_below
sum_both zero f g k h = refl
sum_both (suc n) f g k h = omega (arith, sum_both n f g k (λ i l. h i (omega arith)), h n (omega arith))

sum_equal : (n c : ℕ) (f : ℕ → ℕ) → ((i : ℕ) → i < n → f i ≡ c) → sum_below n f ≡ n * c
unfolding sum_below
sum_equal zero c f h = omega arith
sum_equal (suc n) c f h = omega (arith, sum_equal n c f (λ i l. h i (omega arith)), h n (omega arith))

sum_split : (n m : ℕ) (f : ℕ → ℕ) → sum_below (n + m) f ≡ sum_below n f + sum_below m (λ i. f (n + i))
unfolding sum_below
sum_split n zero f = let e : n + zero ≡ n = omega arith in rw e (omega arith)
sum_split n (suc m) f = let e : n + suc m ≡ suc (n + m) = omega arith in rw e (omega (arith, sum_split n m f))

-- a sum where only m numbers from a on count
sum_window : (n a m : ℕ) (f : ℕ → ℕ) → a + m ≤ n → ((i : ℕ) → i < n → i < a → f i ≡ 0) → ((i : ℕ) → i < n → a + m ≤ i → f i ≡ 0) → sum_below n f ≡ sum_below m (λ i. f (a + i))
sum_window n a m f fits before after =
    let left = sum_equal a 0 f (λ i l. before i (omega arith) l) in
    let right = sum_equal (n - (a + m)) 0 (λ i. f (a + m + i)) (λ i l. after (a + m + i) (omega arith) (omega arith)) in
    let e : n ≡ a + m + (n - (a + m)) = omega arith in
    subst (λ (k : ℕ). sum_below k f ≡ sum_below m (λ i. f (a + i))) (sym e) (omega (arith, sum_split (a + m) (n - (a + m)) f, sum_split a m f, left, right))

in_area : (area : Rect) (i j : ℕ) → i < width_of area → j < height_of area → has area (area.x1 +ℤ pos i) (area.y1 +ℤ pos j) ≡ true
in_area area i j p q = grind (arith, ints)

-- coats that lay something on the same pixels
pub pixel_count_same : (area : Rect) (a b : Coat) → ((x y : ℤ) → has area x y ≡ true → a x y ≡ b x y) → pixel_count area a ≡ pixel_count area b
unfolding pixel_count row_count
pixel_count_same area a b h =
    sum_same (height_of area) _ _ (λ j q. sum_same (width_of area) _ _ (λ i p. ap one_if_laid (h (area.x1 +ℤ pos i) (area.y1 +ℤ pos j) (in_area area i j p q))))

pub pixel_count_none : (area : Rect) (c : Coat) → ((x y : ℤ) → has area x y ≡ true → c x y ≡ None) → pixel_count area c ≡ 0
unfolding pixel_count row_count
pixel_count_none area c h =
    sum_equal (height_of area) 0 _ (λ j q. sum_equal (width_of area) 0 _ (λ i p. ap one_if_laid (h (area.x1 +ℤ pos i) (area.y1 +ℤ pos j) (in_area area i j p q))) ∙ omega arith) ∙ omega arith

-- a coat where one test holds, and where another does that never holds beside it
one_of_two : (a b : Bool) (d : Option Dab) → (a && b) ≡ false → one_if_laid (if (a || b) then d else None) ≡ one_if_laid (if a then d else None) + one_if_laid (if b then d else None)
one_of_two true true d h = cc
one_of_two true false d h = omega arith
one_of_two false b d h = omega arith

pub pixel_count_both : (area : Rect) (a b : ℤ → ℤ → Bool) (coat : Coat) → ((x y : ℤ) → has area x y ≡ true → (a x y && b x y) ≡ false) →
    pixel_count area (only (λ x y. a x y || b x y) coat) ≡ pixel_count area (only a coat) + pixel_count area (only b coat)
unfolding pixel_count row_count
pixel_count_both area a b coat apart =
    sum_both (height_of area) _ _ _ (λ j q. sum_both (width_of area) _ _ _ (λ i p.
    let x = area.x1 +ℤ pos i in let y = area.y1 +ℤ pos j in
    one_of_two (a x y) (b x y) (coat x y) (apart x y (in_area area i j p q))))

-- a coat of a part of a row
off : (test : Bool) (d : Option Dab) → test ≡ false → one_if_laid (if test then d else None) ≡ 0
off test d h = rw h refl

on : (test : Bool) (d : Option Dab) → test ≡ true → one_if_laid (if test then d else None) ≡ one_if_laid d
on test d h = rw h refl

module _ (area : Rect) (y x1 x2 : ℤ) (coat : Coat) where
  other_row : (v : ℤ) → v ≢ y → row_count (within (row_area y x1 x2) coat) v area.x1 (width_of area) ≡ 0
  unfolding row_count
  other_row v h = sum_equal (width_of area) 0 _ (λ i p. off _ (coat (area.x1 +ℤ pos i) v) (grind (arith, ints, nat_tests))) ∙ omega arith

  own_row : x1 ≤ℤ x2 → has area x1 y ≡ true → has area x2 y ≡ true → row_count (within (row_area y x1 x2) coat) y area.x1 (width_of area) ≡ row_count coat y x1 (count_between x1 x2)
  unfolding row_count
  own_row order first last =
      let a = distance area.x1 x1 in
      let n = count_between x1 x2 in
      let fits : a + n ≤ width_of area = grind (arith, ints) in
      let left : area.x1 ≤ℤ x1 = grind (arith, ints) in
      sum_window (width_of area) a n _ fits
      (λ i p q. off _ (coat (area.x1 +ℤ pos i) y) (grind (arith, ints, nat_tests)))
      (λ i p q. off _ (coat (area.x1 +ℤ pos i) y) (grind (arith, ints, nat_tests)))
      ∙ sum_same n _ _ (λ i p.
      let e : area.x1 +ℤ pos (a + i) ≡ x1 +ℤ pos i = omega (arith, ints) in
      rw e (on _ (coat (x1 +ℤ pos i) y) (grind (arith, ints, nat_tests))))

  pub pixel_count_row : x1 ≤ℤ x2 → has area x1 y ≡ true → has area x2 y ≡ true → pixel_count area (within (row_area y x1 x2) coat) ≡ row_count coat y x1 (count_between x1 x2)
  unfolding pixel_count sum_below
  pixel_count_row order first last =
      let j = distance area.y1 y in
      let fits : j + 1 ≤ height_of area = grind (arith, ints) in
      let top : area.y1 ≤ℤ y = grind (arith, ints) in
      let e : area.y1 +ℤ pos (j + 0) ≡ y = omega (arith, ints) in
      sum_window (height_of area) j 1 (λ k. row_count (within (row_area y x1 x2) coat) (area.y1 +ℤ pos k) area.x1 (width_of area)) fits
      (λ k p q. other_row (area.y1 +ℤ pos k) (λ e. absurd (omega (arith, ints, e))))
      (λ k p q. other_row (area.y1 +ℤ pos k) (λ e. absurd (omega (arith, ints, e))))
      ∙ rw e (omega (arith, own_row order first last))

-- a coat that lays something on each pixel of a row
pub row_count_all : (coat : Coat) (y x : ℤ) (n : ℕ) → ((i : ℕ) → is_some (coat (x +ℤ pos i) y) ≡ true) → row_count coat y x n ≡ n
unfolding row_count
row_count_all coat y x n h = sum_equal n 1 _ (λ i l. ap (λ t. if t then 1 else 0) (h i)) ∙ omega arith
