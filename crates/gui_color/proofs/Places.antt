-- The places of the pixels of an area, row by row.
use Rattle.std.proofs.Common.{◌≡◌, ℕ, ◌+◌, ◌*◌, ◌<◌, arith, ℤ, pos, ◌≤ℤ◌, ◌<ℤ◌, ◌+ℤ◌, ◌-ℤ◌, ◌⊎◌, inl, inr, true, false, subst}
use Rattle.std.proofs.lemmas.Int.{ints, by_lt_z}
use Rattle.std.proofs.lemmas.Nat.{mul-le}
use Rattle.gui_base.specs.Area.{Rect, has, count_between, width_of, height_of, size_of}
use Rattle.gui_base.proofs.Areas.{between_has}
use Rattle.gui_color.specs.Buffer.{distance, place, row_area}

-- a number is as far above another as its distance
pub distance_is : (from to : ℤ) → from ≤ℤ to → from +ℤ pos (distance from to) ≡ to
distance_is from to h = omega (arith, ints)

pub count_is : (from to : ℤ) → from ≤ℤ to → count_between from to ≡ distance from to + 1
count_is from to h =
    let e : (to -ℤ from) +ℤ pos 1 ≡ pos (distance from to + 1) = omega (arith, ints) in
    rw e

pub distance_below : (from n to : ℤ) → from ≤ℤ n → n ≤ℤ to → distance from n < count_between from to
distance_below from n to p q =
    let whole : from ≤ℤ to = omega (arith, ints) in
    rw (count_is from to whole) (omega (arith, ints))

pub distance_sum : (from n to : ℤ) → from ≤ℤ n → n ≤ℤ to → distance from to ≡ distance from n + distance n to
distance_sum from n to p q = omega (arith, ints)

pub distance_less : (from n to : ℤ) → from ≤ℤ n → n <ℤ to → distance from n < distance from to
distance_less from n to p q = omega (arith, ints)

-- a place in a row above another is before each place in the other
pub line_before : (a b w p q : ℕ) → a < b → p < w → a * w + p < b * w + q
line_before a b w p q h k = omega (arith, mul-le (a + 1) w b w (omega arith) (omega arith))

line_fits : (a b w h : ℕ) → a < h → b < w → a * w + b < w * h
line_fits a b w h p q = omega (arith, mul-le (a + 1) w h w (omega arith) (omega arith))

pub starts : (area : Rect) (x y : ℤ) → has area x y ≡ true → (area.x1 ≤ℤ x) × (area.y1 ≤ℤ y)
starts area x y h = (grind (arith, ints), grind (arith, ints))

pub place_fits : (area : Rect) (x y : ℤ) → has area x y ≡ true → place area x y < size_of area
unfolding place
place_fits area x y h =
    let i = between_has area x y h in
    line_fits (distance area.y1 y) (distance area.x1 x) (width_of area) (height_of area)
    (distance_below area.y1 y area.y2 i.top i.bottom) (distance_below area.x1 x area.x2 i.left i.right)

-- along a row
pub place_along : (area : Rect) (x1 x2 y : ℤ) → area.x1 ≤ℤ x1 → x1 ≤ℤ x2 → place area x2 y ≡ place area x1 y + distance x1 x2
unfolding place
place_along area x1 x2 y p q = omega (arith, distance_sum area.x1 x1 x2 p q)

-- the places of a row's pixels are one run
pub place_end : (area : Rect) (x1 x2 y : ℤ) → x1 ≤ℤ x2 → has area x1 y ≡ true → place area x1 y + (distance x1 x2 + 1) ≡ place area x2 y + 1
place_end area x1 x2 y h first = omega (arith, place_along area x1 x2 y (between_has area x1 y first).left h)

pub place_right : (area : Rect) (x1 x2 y : ℤ) → has area x1 y ≡ true → x1 <ℤ x2 → place area x1 y < place area x2 y
unfolding place
place_right area x1 x2 y first h = omega (arith, distance_less area.x1 x1 x2 (between_has area x1 y first).left h)

pub place_down : (area : Rect) (x v x' y : ℤ) → has area x v ≡ true → v <ℤ y → place area x v < place area x' y
unfolding place
place_down area x v x' y h k =
    let i = between_has area x v h in
    line_before (distance area.y1 v) (distance area.y1 y) (width_of area) (distance area.x1 x) (distance area.x1 x')
    (distance_less area.y1 v y i.top k) (distance_below area.x1 x area.x2 i.left i.right)

-- before a row or after it
abbrev pub Outside : Rect → ℤ → ℤ → ℤ → ℤ → ℤ → Type 0
Outside area y x1 x2 x v = (place area x v < place area x1 y) ⊎ (place area x2 y < place area x v)

-- a pixel that is not in a row is before it or after it
beside_row : (area : Rect) (y x1 x2 x : ℤ) → has area x2 y ≡ true → has area x y ≡ true → has (row_area y x1 x2) x y ≡ false → Outside area y x1 x2 x y
beside_row area y x1 x2 x last h n =
    by_lt_z x x1 (λ k. inl (place_right area x x1 y h k)) (λ k.
    by_lt_z x2 x (λ l. inr (place_right area x2 x y last l)) (λ l. absurd (grind (arith, ints))))

pub outside_row : (area : Rect) (y x1 x2 x v : ℤ) → has area x2 y ≡ true → has area x v ≡ true → has (row_area y x1 x2) x v ≡ false → Outside area y x1 x2 x v
outside_row area y x1 x2 x v last h n =
    by_lt_z v y (λ k. inl (place_down area x v x1 y h k)) (λ k.
    by_lt_z y v (λ l. inr (place_down area x2 y x v last l)) (λ l.
    let e : y ≡ v = omega (arith, ints) in
    let P : ℤ → Type 0 = λ z. has area x z ≡ true → has (row_area y x1 x2) x z ≡ false → Outside area y x1 x2 x z in
    subst P e (beside_row area y x1 x2 x last) h n))
