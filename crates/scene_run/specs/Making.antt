-- What a run of the made script comes to. Its replies are counted, and the log gets one line in the place of
-- all of them.
use Rattle.std.specs.Prelude.{◌≡◌, ℕ, Bool, true, false, ◌||◌, nat_lt, ◌≤◌, ◌⊎◌, List, [], ◌++◌, length}
use Rattle.std.specs.Prelude.{Ok, codes, decimal}
use Rattle.std.specs.List.{count_by}
use Rattle.std.specs.Io.KnownBytes.{Appends}
use Rattle.run_defs.specs.declared.Line.TheVariants.{Frame}
use Rattle.run_defs.specs.declared.Outcome.{Outcome}
use Rattle.run_defs.specs.declared.Reply.{Reply}
use Rattle.run_defs.specs.declared.Reply.TheVariants.{Ok as Fine, Refused}
use Rattle.run_defs.specs.Machine.{Machine}
use Rattle.run_defs.specs.Made.{made_says}
use Rattle.run_defs.specs.Run.{Told, Replied, Framed, Pumped, first_moment, after_all, entries, told}
use Rattle.run_defs.specs.Run.{done_scenes, fault_count}
use Rattle.run_defs.specs.Script.{Said}
use Rattle.gui_edge.specs.Causes.{Rose}
use Rattle.gui_edge.specs.Panel.{PanelState}
use Rattle.gui_edge.specs.Sink.{AppendsPrefix, unheard}
use Rattle.gui_core.specs.Sums.{picture_sum}
use Rattle.scene_run.specs.Effects.{Output, output, Answers, Halted}

-- Refusals.

-- whether a command was refused
abbrev pub is_refusal : Reply → Bool
is_refusal (Fine noted) = false
is_refusal (Refused refusal) = true

-- whether what is told is that a command was refused
abbrev pub is_refused : Told → Bool
is_refused (Replied number lines reply) = is_refusal reply
is_refused (Framed number frame scene end) = false
is_refused (Pumped number answer) = false

-- how many lines were refused
abbrev pub refused_count : List Told → ℕ
refused_count ts = count_by is_refused ts

-- whether a line was refused or a frame faulted, by the numbers of both
abbrev pub some_counted : List Told → Bool
some_counted ts = nat_lt 0 (refused_count ts) || nat_lt 0 (fault_count ts)

-- The summary.

-- what the log tells of a made script: its number, and how many lines there were, how many were refused, how
-- many frames were done, how many faulted, and the sum of the last picture
abbrev pub summary : ℕ → ℕ → List Told → ℕ → List ℕ
summary k lines ts sum =
    codes "made " ++ decimal k ++ codes " lines " ++ decimal lines ++ codes " refused "
    ++ decimal (refused_count ts) ++ codes " frames " ++ decimal (length (done_scenes ts)) ++ codes " faults "
    ++ decimal (fault_count ts) ++ codes " sum " ++ decimal sum ++ codes "\n"

-- the summary of these lines from this machine on, with the outcomes of their frames
abbrev pub summary_of : ℕ → Machine → List Said → List Outcome → List ℕ
summary_of k first lines outcomes =
    summary k (length lines) (told (entries (first_moment first) lines) outcomes)
    (picture_sum (after_all (first_moment first) lines).machine.scene)

-- Runs.

-- where nobody reads the log
abbrev pub panel_alone : PanelState → Output
panel_alone panel = output unheard panel

-- The lines of the made script were answered as those of a script that is read, but for the log, which grew
-- by the summary. `notes` tells whether the summary counts a refused line or a faulted frame.
pub record AnswersMade (k : ℕ) (first : Machine) (old new : Output) (notes : Bool) : Type 0 where
  pub answers : Answers first (panel_alone old.panel) (panel_alone new.panel) (made_says k first.scene.limits)
  pub log : Appends old.log.held new.log.held
      (summary_of k first (made_says k first.scene.limits) answers.outcomes)
  pub log_faults : old.log.faults ≤ new.log.faults
  pub notes_is : some_counted (told (entries (first_moment first) (made_says k first.scene.limits))
      answers.outcomes) ≡ notes

-- A frame could not be presented: nothing came to the log. The outcomes are those of the frames before it.
pub record MadeHalted (k : ℕ) (first : Machine) (old new : Output) : Type 0 where
  pub halted : Halted first (panel_alone old.panel) (panel_alone new.panel)
      (made_says k first.scene.limits)
  -- the line at which it ended is a frame, and has no outcome
  pub at_frame : halted.said ≡ Ok Frame
  pub left_out : halted.breaks.last ≡ []
  pub log : new.log ≡ old.log
  pub cause : Rose old.panel.present_faults new.panel.present_faults

-- The summary could not be written: the log grew by a prefix of it.
pub record MadeUntold (k : ℕ) (first : Machine) (old new : Output) : Type 0 where
  pub answers : Answers first (panel_alone old.panel) (panel_alone new.panel) (made_says k first.scene.limits)
  pub log : AppendsPrefix old.log.held new.log.held
      (summary_of k first (made_says k first.scene.limits) answers.outcomes)
  pub cause : Rose old.log.faults new.log.faults

-- a write failed
abbrev pub MadeBroke : ℕ → Machine → Output → Output → Type 0
MadeBroke k first old new = MadeHalted k first old new ⊎ MadeUntold k first old new
