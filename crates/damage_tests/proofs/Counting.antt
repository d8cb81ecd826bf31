-- How many pixels a drawing call changes at most.
use Rattle.std.proofs.Common.{◌≡◌, ℕ, zero, suc, ◌+◌, ◌*◌, ◌≤◌, Option, Some, None, ℤ, pos, ◌+ℤ◌, arith}
use Rattle.gui_base.specs.Area.{Rect, width_of, height_of, size_of}
use Rattle.gui_base.specs.Coats.{Coat, Dab}
use Rattle.gui_draw.specs.Counts.{sum_below, one_if_laid, row_count, pixel_count}

-- numbers that are each at most k, summed up
sum_below_most : (n k : ℕ) (f : ℕ → ℕ) → ((i : ℕ) → f i ≤ k) → sum_below n f ≤ n * k
unfolding sum_below
sum_below_most zero k f each = omega arith
sum_below_most (suc n) k f each = omega (arith, sum_below_most n k f each, each n)

one_most : (dab : Option Dab) → one_if_laid dab ≤ 1
one_most None = omega arith
one_most (Some dab) = omega arith

row_most : (coat : Coat) (y x : ℤ) (n : ℕ) → row_count coat y x n ≤ n * 1
unfolding row_count
row_most coat y x n = sum_below_most n 1 (λ i. one_if_laid (coat (x +ℤ pos i) y)) (λ i. one_most (coat (x +ℤ pos i) y))

-- a coat lays something on each pixel at most
pub pixel_count_most : (area : Rect) (coat : Coat) → pixel_count area coat ≤ size_of area
unfolding pixel_count
pixel_count_most area coat =
    let row = λ (j : ℕ). row_count coat (area.y1 +ℤ pos j) area.x1 (width_of area) in
    let few = λ (j : ℕ). row_most coat (area.y1 +ℤ pos j) area.x1 (width_of area) in
    let rows = sum_below_most (height_of area) (width_of area * 1) row few in
    let same : height_of area * (width_of area * 1) ≡ size_of area = grind arith in
    omega (arith, rows, same)
