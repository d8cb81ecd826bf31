-- The answers beside the headline, by how the run ended.
use Rattle.std.proofs.Common.{◌≡◌, subst, true, refl, ℕ, Bool, Option, Some, None}
use Rattle.gui_base.specs.Limits.{Bounds}
use Rattle.gui_edge.specs.Sink.{SinkState}
use Rattle.run_defs.specs.Machine.{Machine, first_machine}
use Rattle.scene_run.specs.Headline.{Outside}
use Rattle.scene_run.specs.declared.status.Status.{Status}
use Rattle.scene_run.specs.declared.status.Status.TheVariants.{PanelFault, NoMemory}
use Rattle.scene_host.specs.Asked.{RunsAsked, RunsAskedAs, Answers}

answers_by : (limits : Bounds) (old new : Outside) (start end : SinkState) (answered : Bool) (status : Status) → RunsAskedAs limits.make (first_machine limits) old new start end answered status → Answers (Some limits) old new start end answered status
answers_by limits old new start end answered PanelFault h = tt
answers_by limits old new start end answered NoMemory h = tt
answers_by limits old new start end answered status h = h

answers_unlimited : (old new : Outside) (start end : SinkState) (answered : Bool) (status : Status) → Answers None old new start end answered status
answers_unlimited old new start end answered PanelFault = tt
answers_unlimited old new start end answered NoMemory = tt
answers_unlimited old new start end answered status = tt

-- the words have no limits
pub answers_none : (words : Option Bounds) (old new : Outside) (start end : SinkState) (answered : Bool) (status : Status) → words ≡ None → Answers words old new start end answered status
answers_none words old new start end answered status none = rw none (answers_unlimited old new start end answered status)

asked_as : (make : Option ℕ) (first : Machine) (old new : Outside) (start end : SinkState) (answered : Bool) (status : Status) → make ≡ None → RunsAsked first old new start end answered status → RunsAskedAs make first old new start end answered status
asked_as make first old new start end answered status none runs = rw none runs

-- the script was read
pub answers_asked : (words : Option Bounds) (limits : Bounds) (first : Machine) (old new : Outside) (start end : SinkState) (answered : Bool) (status : Status) → Some limits ≡ words → limits.make ≡ None → first ≡ first_machine limits →
    RunsAsked first old new start end answered status → Answers words old new start end answered status
answers_asked words limits first old new start end answered status some none begins runs =
    rw (← some) (answers_by limits old new start end answered status (asked_as limits.make (first_machine limits) old new start end answered status none (subst (λ (m : Machine). RunsAsked m old new start end answered status) begins runs)))

-- a made script was answered
pub answers_made : (words : Option Bounds) (limits : Bounds) (k : ℕ) (old new : Outside) (start : SinkState) (status : Status) → Some limits ≡ words → limits.make ≡ Some k → Answers words old new start start true status
answers_made words limits k old new start status some made = rw (← some) (answers_by limits old new start start true status (rw made (refl, refl)))
