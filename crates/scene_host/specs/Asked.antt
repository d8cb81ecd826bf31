-- A run whose questions are answered.
use Rattle.std.specs.Prelude.{◌≡◌, ◌≢◌, ◌⊎◌, ℕ, Bool, true, List, ◌++◌, take, Some, None, ⊤}
use Rattle.std.specs.declared.option.Option.{Option}
use Rattle.gui_base.specs.Limits.{Bounds}
use Rattle.gui_edge.specs.Sink.{SinkState}
use Rattle.gui_edge.specs.Source.{SourceState}
use Rattle.run_defs.specs.Machine.{Machine, first_machine}
use Rattle.run_defs.specs.Script.{says_cut, max_script}
use Rattle.scene_run.specs.Effects.{Output, Halted}
use Rattle.scene_run.specs.Headline.{Outside, Runs}
use Rattle.scene_run.specs.Running.{Reading, HasRead, Stops, Gone}
use Rattle.scene_run.specs.declared.status.Status.{Status}
use Rattle.scene_run.specs.declared.status.Status.TheVariants.{WriteFault, PanelFault, NoMemory}
use Rattle.scene_host.specs.Answering.{IsAnswered, Answering, ArePending, HasHeard, answers_to}

-- What was answered to the bytes that were taken, by how the run ended. `answered` tells whether each write of
-- an answer was done.
pub record Heard (first : Machine) (old new : Outside) (start end : SinkState) (answered : Bool)
    (taken : List ℕ) (status : Status) : Type 0 where
  -- those whose questions are answered, and those after them
  pub bytes : List ℕ
  pub rest : List ℕ
  pub split : bytes ++ rest ≡ taken
  -- these are all that a script may have, but where a write of the log or of a frame failed
  pub all : status ≢ WriteFault → bytes ≡ take max_script taken
  -- and then they reach to the line of which it failed
  pub halted : status ≡ WriteFault → (bytes ≡ taken) ⊎ Halted first old.output new.output (says_cut bytes)
  -- how many pixels were pending at each of their lines
  pub pendings : List ℕ
  pub pending : ArePending first pendings bytes
  -- the answers to their questions were written, or where that failed a prefix of them
  pub answers : IsAnswered start end answered (answers_to first pendings bytes)

-- A script was read and answered, from this machine on, and its questions too.
pub record RunsAsked (first : Machine) (old new : Outside) (start end : SinkState) (answered : Bool)
    (status : Status) : Type 0 where
  pub runs : Runs first old new status
  pub heard : Heard first old new start end answered runs.taken status

-- the script that is read, or a made one, which asks nothing
abbrev pub RunsAskedAs :
    Option ℕ → Machine → Outside → Outside → SinkState → SinkState → Bool → Status → Type 0
RunsAskedAs None first old new start end answered status = RunsAsked first old new start end answered status
RunsAskedAs (Some k) first old new start end answered status = (end ≡ start) × (answered ≡ true)

-- beside the headline of a run: what is answered to the questions of the script
abbrev pub Answers :
    Option Bounds → Outside → Outside → SinkState → SinkState → Bool → Status → Type 0
Answers words old new start end answered PanelFault = ⊤
Answers words old new start end answered NoMemory = ⊤
Answers None old new start end answered status = ⊤
Answers (Some limits) old new start end answered status =
    RunsAskedAs limits.make (first_machine limits) old new start end answered status

-- These bytes were heard, whatever was read and heard before.
pub record Hears (old : Reading) (asking asked : Answering) (bytes : List ℕ) : Type 0 where
  pub from : (first : Machine) (start : Output) (begun : SinkState) (before : List ℕ) →
      HasRead first start old before → HasHeard first begun asking before →
      HasHeard first begun asked (before ++ bytes)

-- A write failed at a line that one of these bytes made whole, and those up to that one were heard.
pub record StopsHearing (old : Reading) (new : Output) (asking asked : Answering) (bytes : List ℕ) :
    Type 0 where
  pub done : List ℕ
  pub rest : List ℕ
  pub split : done ++ rest ≡ bytes
  pub stops : Stops old new done
  pub hears : Hears old asking asked done

-- At most `room` further bytes may be taken, and those that were taken were answered and heard.
pub record HasGone (first : Machine) (old : Outside) (start : SinkState) (source : SourceState) (now : Reading)
    (asked : Answering) (room : ℕ) : Type 0 where
  pub gone : Gone first old source now room
  pub heard : HasHeard first start asked gone.taken
