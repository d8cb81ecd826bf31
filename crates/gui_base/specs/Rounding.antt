-- How areas are widened to what a panel takes.
use Rattle.std.specs.Prelude.{◌≡◌, ℕ, ◌*◌, ◌<◌, ◌≤◌, true, false}
use Rattle.gui_base.specs.Area.{Rect, is_empty, height_of, has_corners, is_within}
use Rattle.gui_base.specs.Lines.{top_lines, lines_below}

-- a panel, what an area of it is widened to, and a count of lines
pub record Rounding : Type 0 where
  pub panel : Rect
  pub round : Rect → Rect
  -- areas are cut at multiples of so many lines
  pub step : ℕ

-- an area is its own rounding
abbrev pub IsRound : Rounding → Rect → Type 0
IsRound rules area = rules.round area ≡ area

-- The rounding of an area of the panel that is not empty lies in the panel, holds the area, and is its own
-- rounding.
pub record IsRounding (rules : Rounding) : Type 0 where
  pub some : is_empty rules.panel ≡ false
  pub least : 1 ≤ rules.step
  pub inside : (area : Rect) → is_within rules.panel area ≡ true →
      is_within rules.panel (rules.round area) ≡ true
  pub holds : (area : Rect) → is_within rules.panel area ≡ true → has_corners (rules.round area) area ≡ true
  pub again : (area : Rect) → is_within rules.panel area ≡ true → IsRound rules (rules.round area)
  -- cut below a multiple of the step, it gives two parts that are their own rounding
  pub cut : (area : Rect) (steps : ℕ) → is_within rules.panel area ≡ true → IsRound rules area →
      0 < steps → steps * rules.step < height_of area →
      IsRound rules (top_lines area (steps * rules.step))
      × IsRound rules (lines_below area (steps * rules.step))

-- each area of the panel that is not empty is its own rounding
abbrev pub WidensNothing : Rounding → Type 0
WidensNothing rules = (area : Rect) → is_within rules.panel area ≡ true → IsRound rules area
