-- A law on runs: what nothing fails comes to its end.
use Rattle.std.specs.Prelude.{◌≡◌, ◌≤◌, ◌⊎◌, ℕ, Bool, true, false, Some, None, List, [], length, replicate, nat_lt}
use Rattle.std.specs.Prelude.{if◌then◌else◌, ⊤}
use Rattle.std.specs.declared.option.Option.{Option}
use Rattle.std.specs.List.{list_any}
use Rattle.std.specs.Io.KnownBytes.{Appends}
use Rattle.gui_base.specs.Limits.{Bounds}
use Rattle.gui_edge.specs.Causes.{Rose}
use Rattle.owed_defs.specs.declared.Pumped.TheVariants.{Idle, Moved, Waiting, Fault as PumpFault}
use Rattle.run_defs.specs.declared.FrameEnd.TheVariants.{Done as FrameDone, Fault as FrameFault}
use Rattle.run_defs.specs.declared.Outcome.{Outcome}
use Rattle.run_defs.specs.declared.Outcome.TheVariants.{Frame as OfFrame, Pump as OfPump}
use Rattle.run_defs.specs.Machine.{Machine, first_machine}
use Rattle.run_defs.specs.Made.{made_says}
use Rattle.run_defs.specs.Run.{Told, Replied, Framed, Pumped, Fits, first_moment, entries, told}
use Rattle.run_defs.specs.Script.{Said, Whole, says, max_script}
use Rattle.run_defs.specs.Step.{is_noted}
use Rattle.scene_run.specs.Effects.{Output, Effects, PanelEffects}
use Rattle.scene_run.specs.Headline.{Outside}
use Rattle.scene_run.specs.Making.{refused_count, summary_of}
use Rattle.scene_run.specs.Top.{RunsScene}
use Rattle.scene_run.specs.declared.status.Status.{Status}
use Rattle.scene_run.specs.declared.status.Status.TheVariants.{Done, Noted, NoMemory}

-- no count of faults rose
pub record NothingFailed (old new : Outside) : Type 0 where
  pub reads : ¬ Rose old.source.faults new.source.faults
  pub puts : ¬ Rose old.output.log.faults new.output.log.faults
  pub presents : ¬ Rose old.output.panel.present_faults new.output.panel.present_faults
  pub flushes : new.output.panel.flush_faults ≤ old.output.panel.flush_faults

-- the script is a made one, or the source tells that it has no more bytes than a script may have
abbrev pub ScriptFits : Option ℕ → Option (List ℕ) → Type 0
ScriptFits (Some k) left = ⊤
ScriptFits None None = ⊥
ScriptFits None (Some bytes) = length bytes ≤ max_script

-- whether a frame or a pump faulted
abbrev pub is_failed : Outcome → Bool
is_failed (OfFrame FrameDone) = false
is_failed (OfFrame FrameFault) = true
is_failed (OfPump Idle) = false
is_failed (OfPump Moved) = false
is_failed (OfPump Waiting) = false
is_failed (OfPump PumpFault) = true

-- the outcomes of the frames of the made script where each is done, and what is told of its lines then
abbrev pub all_done : List Outcome
all_done = replicate 11 (OfFrame FrameDone)

abbrev pub told_done : Machine → List Said → List Told
told_done first lines = told (entries (first_moment first) lines) all_done

-- whether a line or an action was refused
abbrev pub refuses : Told → Bool
refuses (Replied number lines reply) = is_noted reply
refuses (Framed number frame scene end) = false
refuses (Pumped number answer) = false

abbrev pub some_refused : List Told → Bool
some_refused ts = list_any refuses ts

-- The whole script that the source told was answered. Each frame was done and no pump faulted, and the status
-- is Done exactly where nothing was refused.
pub record CompletesScript (first : Machine) (bytes : List ℕ) (old new : Outside) (status : Status) :
    Type 0 where
  pub read : new.source.left ≡ Some []
  pub outcomes : List Outcome
  pub fits : Fits (entries (first_moment first) (says Whole bytes)) outcomes
  pub well : list_any is_failed outcomes ≡ false
  pub effects : Effects old.output new.output None (told (entries (first_moment first) (says Whole bytes)) outcomes)
  pub status_is : status
      ≡ (if some_refused (told (entries (first_moment first) (says Whole bytes)) outcomes) then Noted else Done)

-- The same of the made script of a number. The log grew by one line.
pub record CompletesMade (k : ℕ) (first : Machine) (old new : Output) (status : Status) : Type 0 where
  pub panel : PanelEffects old.panel new.panel None (told_done first (made_says k first.scene.limits))
  pub log : Appends old.log.held new.log.held
      (summary_of k first (made_says k first.scene.limits) all_done)
  pub status_is : status
      ≡ (if nat_lt 0 (refused_count (told_done first (made_says k first.scene.limits))) then Noted else Done)

-- the script that is read, or the made one where the words ask for it
abbrev pub Completes : Option ℕ → Machine → Option (List ℕ) → Outside → Outside → Status → Type 0
Completes None first None old new status = ⊤
Completes None first (Some bytes) old new status = CompletesScript first bytes old new status
Completes (Some k) first left old new status = CompletesMade k first old.output new.output status

-- Where the words have limits, the script fits and nothing failed, the run came to its end, or memory ran out
-- before it began.
abbrev pub RunsAreComplete : Type 0
RunsAreComplete =
    (limits : Bounds) (old new : Outside) (status : Status) →
    RunsScene (Some limits) old new status → NothingFailed old new →
    ScriptFits limits.make old.source.left →
    (status ≡ NoMemory)
    ⊎ Completes limits.make (first_machine limits) old.source.left old new status
