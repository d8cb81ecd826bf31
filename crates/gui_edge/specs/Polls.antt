-- How the polls of a panel in memory answer.
use Rattle.std.specs.Prelude.{◌≡◌, ◌+◌, ◌≤◌, true, false}
use Rattle.gui_edge.specs.FaultPlan.{next_fails}
use Rattle.gui_edge.specs.Panel.{Shows}
use Rattle.gui_edge.specs.SimPanel.{SimState, next_moved}
use Rattle.gui_base.specs.declared.color.Rgb565.{Rgb565}
use Rattle.gui_base.specs.Area.{Rect}
use Rattle.gui_edge.specs.declared.panel.Polled.{Polled}
use Rattle.gui_edge.specs.declared.panel.Polled.TheVariants.{Ready, NotYet, Failed}

-- by the plan: a poll fails where it is planned to, and leaves the area in one colour; else it moves pixels
abbrev pub PollsAsPlanned : {Frames : Type 0} → Rect → Rgb565 → SimState Frames → SimState Frames →
    Polled → Type 0
PollsAsPlanned panel broken old new (Ready buf) =
    (next_fails old.plan.polls ≡ false) × (old.left ≤ next_moved old)
PollsAsPlanned panel broken old new NotYet =
    (next_fails old.plan.polls ≡ false) × (new.left + next_moved old ≡ old.left)
PollsAsPlanned panel broken old new (Failed buf) =
    (next_fails old.plan.polls ≡ true) × Shows panel buf.area (λ x y. broken) old.pixels new.pixels
