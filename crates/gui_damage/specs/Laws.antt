-- What follows from the rules of the list.
use Rattle.std.specs.Prelude.{◌≡◌, ℕ, ◌*◌, ◌≤◌, true, List, Some, None, []}
use Rattle.std.specs.List.{list_all}
use Rattle.gui_base.specs.Area.{Rect, width_of, is_within}
use Rattle.gui_base.specs.Rounding.{Rounding, IsRounding}
use Rattle.gui_damage.specs.Adding.{added_all, AddsAll}
use Rattle.gui_damage.specs.Joining.{JoinsPairs, KeepsPixels}
use Rattle.gui_damage.specs.Pending.{Pending, IsPending}
use Rattle.gui_damage.specs.Rounded.{IsRounded, TakesRound, round_slice_of, left_round}

-- a slice has pixels of the first area alone, and what is left has all others
abbrev pub SliceIsTaken : Type 0
SliceIsTaken = (rules : Rounding) (limit : ℕ) (areas : List Rect) (slice : Rect) →
    IsRounding rules → IsRounded rules areas → width_of rules.panel * rules.step ≤ limit →
    Some slice ≡ round_slice_of rules limit areas →
    TakesRound rules limit areas (left_round rules limit areas) slice

-- there is no slice only where nothing is pending
abbrev pub NoneOfNothing : Type 0
NoneOfNothing = (rules : Rounding) (limit : ℕ) (areas : List Rect) →
    None ≡ round_slice_of rules limit areas → areas ≡ []

-- areas of the panel that are added become pending, and little else
abbrev pub AreasAreAdded : Type 0
AreasAreAdded = (areas : List Rect) (pending : Pending) →
    IsPending pending → list_all (is_within pending.panel) areas ≡ true →
    AddsAll pending (added_all pending areas) areas

-- where pairs are joined nothing that was covered is lost, and the list grows neither in pixels nor in areas
abbrev pub JoinsKeepPixels : Type 0
JoinsKeepPixels = (round : Rect → Rect) (old new : List Rect) →
    JoinsPairs round old new → KeepsPixels old new
