-- What a run of a script comes to.
use Rattle.std.specs.Prelude.{◌≡◌, ℕ, Bool, true, false, ◌≤◌, ◌<◌, List, [], ◌∷◌, length}
use Rattle.std.specs.Prelude.{Some, None, IsSome, nat_lt, if◌then◌else◌, ⊤}
use Rattle.std.specs.declared.option.Option.{Option}
use Rattle.std.specs.Io.KnownBytes.{Consumes, IsAtEnd}
use Rattle.gui_base.specs.Limits.{Bounds}
use Rattle.run_defs.specs.Machine.{Machine, first_machine}
use Rattle.run_defs.specs.Script.{End, Whole, Cut, TooLong as ScriptTooLong, says, max_script}
use Rattle.run_defs.specs.Run.{first_moment, entries, told, noted}
use Rattle.gui_edge.specs.Source.{SourceState}
use Rattle.gui_edge.specs.Sink.{SinkState}
use Rattle.gui_edge.specs.Panel.{PanelState}
use Rattle.scene_run.specs.Effects.{Output, output, Answers, Halted}
use Rattle.scene_run.specs.Making.{AnswersMade, MadeBroke}
use Rattle.scene_run.specs.declared.status.Status.{Status}
use Rattle.scene_run.specs.declared.status.Status.TheVariants.{Done, Noted, Usage, ReadFault, WriteFault}
use Rattle.scene_run.specs.declared.status.Status.TheVariants.{PanelFault, NoMemory, TooLong}

-- what a run reads and writes
pub record Outside : Type 0 where
  pub source : SourceState
  pub output : Output

-- a source, a log and a panel
abbrev pub outside : SourceState → SinkState → PanelState → Outside
outside source log panel = record { source = source; output = output log panel }

-- The whole script was read and answered. `notes` tells whether a line or an action was refused or a frame faulted.
pub record AnswersScript (first : Machine) (old new : Outside) (taken : List ℕ) (notes : Bool) : Type 0 where
  pub end : IsAtEnd new.source.left
  pub small : length taken ≤ max_script
  pub answers : Answers first old.output new.output (says Whole taken)
  pub notes_is : noted (told (entries (first_moment first) (says Whole taken)) answers.outcomes) ≡ notes

-- where the reading is by what is left: at the end of the script, or before it. Where the source does not
-- tell, it counts as having come to the end.
abbrev pub end_of : Option (List ℕ) → End
end_of None = Whole
end_of (Some []) = Whole
end_of (Some (b ∷ bytes)) = Cut

-- where the reading was when a write failed: past the longest script, at the script's end, or before it
abbrev pub end_reached : Option (List ℕ) → List ℕ → End
end_reached left taken = if nat_lt max_script (length taken) then ScriptTooLong else end_of left

-- what the bytes that were taken came to, by how the run ended
abbrev pub Ended : Machine → Outside → Outside → List ℕ → Status → Type 0
Ended first old new taken Done = AnswersScript first old new taken false
Ended first old new taken Noted = AnswersScript first old new taken true
Ended first old new taken ReadFault =
    (length taken ≤ max_script) × Answers first old.output new.output (says Cut taken)
Ended first old new taken TooLong =
    (max_script < length taken) × Answers first old.output new.output (says ScriptTooLong taken)
Ended first old new taken WriteFault =
    Halted first old.output new.output (says (end_reached new.source.left taken) taken)
Ended first old new taken status = ⊥

-- A script was read and answered, from this machine on.
pub record Runs (first : Machine) (old new : Outside) (status : Status) : Type 0 where
  -- the bytes that were taken from the source
  pub taken : List ℕ
  pub source : Consumes old.source.left new.source.left taken
  pub ended : Ended first old new taken status

-- what the lines of the made script came to, by how the run ended
abbrev pub MadeEnded : ℕ → Machine → Output → Output → Status → Type 0
MadeEnded k first old new Done = AnswersMade k first old new false
MadeEnded k first old new Noted = AnswersMade k first old new true
MadeEnded k first old new WriteFault = MadeBroke k first old new
MadeEnded k first old new status = ⊥

-- The made script of a number was answered, from this machine on, and nothing was read.
pub record RunsMade (k : ℕ) (first : Machine) (old new : Outside) (status : Status) : Type 0 where
  pub unread : new.source ≡ old.source
  pub ended : MadeEnded k first old.output new.output status

-- the script that is read, or the made one where the words ask for it
abbrev pub RunsAs : Option ℕ → Machine → Outside → Outside → Status → Type 0
RunsAs None first old new status = Runs first old new status
RunsAs (Some k) first old new status = RunsMade k first old new status

-- The headline: where the words have limits, and the machine and the panel could be opened, the script is
-- read and answered so.
abbrev pub Headline : Option Bounds → Outside → Outside → Status → Type 0
Headline words old new PanelFault = ⊤
Headline words old new NoMemory = ⊤
Headline None old new status = ⊤
Headline (Some limits) old new status = RunsAs limits.make (first_machine limits) old new status

-- P where the run ended before a byte was read
abbrev pub IfUnstarted : Status → Type 0 → Type 0
IfUnstarted Usage P = P
IfUnstarted PanelFault P = P
IfUnstarted NoMemory P = P
IfUnstarted status P = ⊤

-- the words ask for a made script
abbrev pub AsksMade : Option Bounds → Type 0
AsksMade None = ⊥
AsksMade (Some limits) = IsSome limits.make
