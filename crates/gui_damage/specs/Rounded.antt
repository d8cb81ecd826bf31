-- A list of rounded areas.
use Rattle.std.specs.Prelude.{ℕ, ◌*◌, ◌/◌, if◌then◌else◌, List, [], ◌∷◌, fold, None}
use Rattle.std.specs.List.{AllByRecursion}
use Rattle.std.specs.declared.option.Option.{Option}
use Rattle.gui_base.specs.Area.{Rect, is_empty, width_of, common}
use Rattle.gui_base.specs.Rounding.{Rounding, IsRound}
use Rattle.gui_damage.specs.Adding.{added}
use Rattle.gui_damage.specs.Pending.{Pending, IsPending}
use Rattle.gui_damage.specs.Slices.{slice_of, left_after, Takes}

-- what callers see of a list: what rounds its areas, and the areas
pub record Rounded (R : Type 0) : Type 0 where
  pub round : R
  pub areas : List Rect

abbrev pub pending_by : Rounding → List Rect → Pending
pending_by rules areas = record { panel = rules.panel; areas = areas }

-- what is pending in a list, where `rules` says how the values of this type round
abbrev pub pending_in : {R : Type 0} → (R → Rounding) → Rounded R → Pending
pending_in rules list = pending_by (rules list.round) list.areas

-- each listed area is one of the panel, and its own rounding
pub record IsRounded (rules : Rounding) (areas : List Rect) : Type 0 where
  pub pending : IsPending (pending_by rules areas)
  pub round : AllByRecursion (IsRound rules) areas

-- the rounding of the area's part of the panel is added, where that part is not empty
abbrev pub added_round : Rounding → List Rect → Rect → List Rect
added_round rules areas area =
    if is_empty (common area rules.panel) then areas
    else (added (pending_by rules areas) (rules.round (common area rules.panel))).areas

-- the list after an area was added, and after all these areas were, in order
abbrev pub added_to : {R : Type 0} → (R → Rounding) → Rounded R → Rect → Rounded R
added_to rules list area = record list { areas = added_round (rules list.round) list.areas area }

abbrev pub added_all_to : {R : Type 0} → (R → Rounding) → Rounded R → List Rect → Rounded R
added_all_to rules list areas = fold (added_to rules) list areas

-- the most pixels of an area of this width in whole steps of lines that are within a limit
abbrev pub whole_steps : Rounding → ℕ → Rect → ℕ
whole_steps rules limit area = limit / width_of area / rules.step * rules.step * width_of area

-- the slice that is taken: the topmost lines of the first area, in whole steps or all of them
abbrev pub round_slice_of : Rounding → ℕ → List Rect → Option Rect
round_slice_of rules limit [] = None
round_slice_of rules limit (first ∷ rest) = slice_of (whole_steps rules limit first) (first ∷ rest)

-- what is listed after it: the rest of the first area stays first
abbrev pub left_round : Rounding → ℕ → List Rect → List Rect
left_round rules limit [] = []
left_round rules limit (first ∷ rest) = left_after (whole_steps rules limit first) (first ∷ rest)

-- A slice of at most so many pixels was taken from the areas, and these are left. Each of them is its own
-- rounding.
pub record TakesRound (rules : Rounding) (limit : ℕ) (areas left : List Rect) (slice : Rect) : Type 0 where
  pub takes : Takes rules.panel limit areas left slice
  pub round : IsRound rules slice
  pub rest : IsRounded rules left
