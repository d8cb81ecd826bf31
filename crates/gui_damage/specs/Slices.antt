-- How slices are taken from what is pending.
use Rattle.std.specs.Prelude.{◌≡◌, ℕ, ◌+◌, ◌/◌, ◌<◌, ◌≤◌, ◌==◌, min, true, false, if◌then◌else◌}
use Rattle.std.specs.Prelude.{List, [], ◌∷◌, length, Some, None, ⊤, ℤ}
use Rattle.std.specs.declared.option.Option.{Option}
use Rattle.gui_base.specs.Area.{Rect, has, width_of, height_of, size_of, is_within}
use Rattle.gui_base.specs.Lines.{top_lines, lines_below}
use Rattle.gui_damage.specs.Pending.{IsPending, covered, total}

-- the first of the listed areas
abbrev pub first_of : List Rect → Option Rect
first_of [] = None
first_of (first ∷ rest) = Some first

-- how many lines of an area have at most so many pixels
abbrev pub slice_lines : ℕ → Rect → ℕ
slice_lines limit area = min (height_of area) (limit / width_of area)

-- the slice that is taken: the topmost lines of the first area, as many as the limit allows
abbrev pub slice_of : ℕ → List Rect → Option Rect
slice_of limit [] = None
slice_of limit (first ∷ rest) = Some (top_lines first (slice_lines limit first))

-- what is listed after it: the rest of the first area stays first
abbrev pub left_after : ℕ → List Rect → List Rect
left_after limit [] = []
left_after limit (first ∷ rest) =
    if slice_lines limit first == height_of first then rest
    else lines_below first (slice_lines limit first) ∷ rest

-- the limit is at least the width of the first area
abbrev pub HasLine : ℕ → List Rect → Type 0
HasLine limit [] = ⊤
HasLine limit (first ∷ rest) = width_of first ≤ limit

-- a slice of at most so many pixels was taken from the areas, and these are left
pub record Takes (panel : Rect) (limit : ℕ) (areas left : List Rect) (slice : Rect) : Type 0 where
  pub inside : is_within panel slice ≡ true
  pub small : size_of slice ≤ limit
  pub some : 0 < size_of slice
  -- each pixel that was covered is in the slice, or still covered
  pub each : (x y : ℤ) → covered areas x y ≡ true → covered left x y ≡ false → has slice x y ≡ true
  pub sizes : total areas ≡ size_of slice + total left
  pub fewer : length left ≤ length areas
  pub pending : IsPending (record { panel = panel; areas = left })
