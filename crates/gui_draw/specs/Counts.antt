-- On how many pixels a coat lays something.
use Rattle.std.specs.Prelude.{ℕ, zero, suc, ◌+◌, Bool, if◌then◌else◌, is_some, ℤ, pos, ◌+ℤ◌}
use Rattle.std.specs.declared.option.Option.{Option}
use Rattle.gui_base.specs.Area.{Rect, width_of, height_of}
use Rattle.gui_base.specs.Coats.{Dab, Coat}

-- f at the numbers below n, summed up
unfoldable pub sum_below : ℕ → (ℕ → ℕ) → ℕ
sum_below zero f = 0
sum_below (suc n) f = sum_below n f + f n

abbrev pub one_if : Bool → ℕ
one_if test = if test then 1 else 0

abbrev pub one_if_laid : Option Dab → ℕ
one_if_laid dab = one_if (is_some dab)

-- on how many of the n pixels of row y from column x on
unfoldable pub row_count : Coat → ℤ → ℤ → ℕ → ℕ
row_count coat y x n = sum_below n (λ i. one_if_laid (coat (x +ℤ pos i) y))

-- on how many pixels of an area
unfoldable pub pixel_count : Rect → Coat → ℕ
pixel_count area coat =
    sum_below (height_of area) (λ j. row_count coat (area.y1 +ℤ pos j) area.x1 (width_of area))
