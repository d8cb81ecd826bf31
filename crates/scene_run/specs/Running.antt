-- A run under way.
use Rattle.std.specs.Prelude.{◌≡◌, ℕ, Bool, ◌+◌, ◌^◌, ◌<◌, List, ◌++◌, length, Some, None, IfSome, false}
use Rattle.std.specs.declared.option.Option.{Option}
use Rattle.std.specs.Io.KnownBytes.{Consumes}
use Rattle.run_defs.specs.Machine.{Machine}
use Rattle.run_defs.specs.Script.{Said, Whole, says, says_cut, max_script}
use Rattle.run_defs.specs.Run.{Moment, moment, first_moment, after_all, entries, told, noted}
use Rattle.gui_edge.specs.Panel.{PanelState}
use Rattle.gui_edge.specs.Sink.{SinkState}
use Rattle.gui_edge.specs.Source.{SourceState}
use Rattle.gui_base.specs.Limits.{Bounds}
use Rattle.gui_damage.specs.Pending.{Pending}
use Rattle.gui_refresh.specs.Owing.{standing_of, flight_of}
use Rattle.gui_refresh.specs.Stages.{Refreshing, Stage, stage}
use Rattle.gui_core.specs.Machines.{machine_of, pending_in, refresher_in}
use Rattle.gui_play.specs.Panels.{AgreesWith, CanSend}
use Rattle.owed_defs.specs.Flights.{opening_flight}
use Rattle.owed_defs.specs.Standings.{Standing}
use Rattle.run_laws.specs.Accounts.{IsRunAccounted}
use Rattle.run_defs.specs.Owing.{panel_size}
use Rattle.run_laws.specs.Pumping.{IsRunFlown}
use Rattle.scene_script.specs.Cutting.{Cutting, HasTaken}
use Rattle.scene_run.specs.Effects.{Output, output, Answers, Halted}
use Rattle.scene_run.specs.Headline.{Outside}
use Rattle.scene_run.specs.declared.runner.Runner.{Runner}

-- how far a run has come, and what it writes to
pub record Running : Type 0 where
  pub moment : Moment
  -- whether a line or an action was refused or a frame faulted, where the run keeps that
  pub noted : Option Bool
  pub output : Output
  -- the areas that are pending, and the refresher's buffers
  pub pending : Pending
  pub refresher : Refreshing

-- how its panel, its refresher and what is pending stand
abbrev pub stage_at : Running → Stage
stage_at now = stage now.refresher now.output.panel now.pending

abbrev pub running : Runner → SinkState → PanelState → Running
running runner log panel = record {
  moment = moment (machine_of runner.gui) runner.number runner.frame;
  noted = Some runner.noted;
  output = output log panel;
  pending = pending_in runner.gui;
  refresher = refresher_in runner.gui;
}

-- the same with the line that is read
pub record Reading : Type 0 where
  pub run : Running
  pub cutter : Cutting

abbrev pub reading : Runner → SinkState → PanelState → Reading
reading runner log panel = record { run = running runner log panel; cutter = runner.cutter }

-- The panel has the machine's sizes and what the machine started, each of its pixels is pending or its newest
-- copy is right, and there are numbers for so many lines more.
pub record IsReady (now : Running) (room : ℕ) : Type 0 where
  pub can : CanSend (stage_at now) now.moment.machine.scene
  pub agrees : AgreesWith (stage_at now) now.moment.machine.scene
  pub number : now.moment.number + room < 2 ^ 32
  pub frame : now.moment.frame + room < 2 ^ 32

-- no buffer is drawn or started, and both are free
pub record IsStill (refresher : Refreshing) : Type 0 where
  pub drawn : refresher.drawn ≡ None
  pub free : refresher.free ≡ 2
  pub started : refresher.started ≡ false

-- how a panel stands at the opening: the whole of it is pending
abbrev pub opening : Bounds → PanelState → Standing
opening limits panel = record {
  sent = panel.sent;
  pending = panel_size limits;
  listed = 1;
  faults = panel.flush_faults;
}

-- These lines were answered from a machine on, and the run came here.
pub record Answered (first : Machine) (start : Output) (now : Running) (lines : List Said) : Type 0 where
  pub answers : Answers first start now.output lines
  pub moment : now.moment ≡ after_all (first_moment first) lines
  pub noted_is : IfSome now.noted
      (λ m. m ≡ noted (told (entries (first_moment first) lines) answers.outcomes))
  -- what was sent and what is pending is within what the lines owe
  pub accounted : IsRunAccounted first lines answers.outcomes (opening first.scene.limits start.panel)
      (standing_of (stage_at now))
  -- and the pumps answered as they may
  pub flown : IsRunFlown first lines answers.outcomes
      (opening_flight start.panel.sent start.panel.waits) (flight_of (stage_at now))

-- These bytes were read from the start on, and the lines that they make whole were answered.
pub record HasRead (first : Machine) (start : Output) (now : Reading) (bytes : List ℕ) : Type 0 where
  pub answered : Answered first start now.run (says_cut bytes)
  pub line : HasTaken now.cutter bytes

-- The run went on over at most one line, whatever was answered before.
pub record GoesOn (old new : Running) (lines : List Said) : Type 0 where
  pub from : (first : Machine) (start : Output) (before : List Said) →
      Answered first start old before → Answered first start new (before ++ lines)
  pub ready : (room : ℕ) → IsReady old (room + 1) → IsReady new room

-- A write failed at one of these lines.
pub record Halts (old : Running) (new : Output) (lines : List Said) : Type 0 where
  pub from : (first : Machine) (start : Output) (before : List Said) →
      Answered first start old before → Halted first start new (before ++ lines)

-- The run went on over these bytes, whatever was read before.
pub record Reads (old new : Reading) (bytes : List ℕ) : Type 0 where
  pub from : (first : Machine) (start : Output) (before : List ℕ) →
      HasRead first start old before → HasRead first start new (before ++ bytes)
  pub ready : (room : ℕ) → IsReady old.run (room + length bytes) → IsReady new.run room

-- A write failed at a line that one of these bytes made whole.
pub record Stops (old : Reading) (new : Output) (bytes : List ℕ) : Type 0 where
  pub from : (first : Machine) (start : Output) (before : List ℕ) →
      HasRead first start old before → Halted first start new (says_cut (before ++ bytes))

-- The whole script was answered.
pub record Ends (old : Reading) (new : Running) : Type 0 where
  pub from : (first : Machine) (start : Output) (script : List ℕ) →
      HasRead first start old script → Answered first start new (says Whole script)

-- A write failed at the last line, which no newline ended.
pub record StopsAtEnd (old : Reading) (new : Output) : Type 0 where
  pub from : (first : Machine) (start : Output) (script : List ℕ) →
      HasRead first start old script → Halted first start new (says Whole script)

-- At most `room` further bytes may be taken, and the lines of those that were taken are answered.
pub record Gone (first : Machine) (old : Outside) (source : SourceState) (now : Reading) (room : ℕ) :
    Type 0 where
  pub taken : List ℕ
  pub source_is : Consumes old.source.left source.left taken
  pub many : length taken + room ≡ max_script
  pub read : HasRead first old.output now taken
