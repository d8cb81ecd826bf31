-- A run of the made script under way.
use Rattle.std.specs.Prelude.{◌≡◌, ℕ, Bool, true, false, ◌+◌, ◌^◌, ◌<◌, List, [], ◌∷◌, ◌++◌, length}
use Rattle.std.specs.Prelude.{Some, None, Ok, Err}
use Rattle.std.specs.List.{All, list_all}
use Rattle.std.specs.declared.option.Option.{Option}
use Rattle.gui_edge.specs.Panel.{PanelState}
use Rattle.gui_core.specs.Machines.{machine_of, pending_in, refresher_in}
use Rattle.run_defs.specs.declared.FrameEnd.TheVariants.{Done, Fault}
use Rattle.run_defs.specs.declared.Line.TheVariants.{Blank, Frame, Pump, Make}
use Rattle.run_defs.specs.declared.Outcome.{Outcome}
use Rattle.run_defs.specs.declared.Outcome.TheVariants.{Frame as OfFrame, Pump as OfPump}
use Rattle.run_defs.specs.Laws.{IsInRange}
use Rattle.run_defs.specs.Machine.{Machine}
use Rattle.run_defs.specs.Run.{Told, moment, first_moment, entries, told, done_scenes, fault_count}
use Rattle.run_defs.specs.Script.{Said}
use Rattle.scene_run.specs.Making.{panel_alone, refused_count}
use Rattle.scene_run.specs.Running.{Running, IsReady, Answered}
use Rattle.scene_run.specs.declared.made.Making.{Making}

abbrev pub making : Making → PanelState → Running
making made panel = record {
  moment = moment (machine_of made.gui) (made.lines + 1) (made.frames + made.faults + 1);
  noted = None;
  output = panel_alone panel;
  pending = pending_in made.gui;
  refresher = refresher_in made.gui;
}

-- how many frames these are, how many of them were done, and how many faulted
abbrev pub frames_in : Option Outcome → ℕ
frames_in None = 0
frames_in (Some (OfFrame end)) = 1
frames_in (Some (OfPump answer)) = 0

abbrev pub done_in : Option Outcome → ℕ
done_in None = 0
done_in (Some (OfFrame Done)) = 1
done_in (Some (OfFrame Fault)) = 0
done_in (Some (OfPump answer)) = 0

abbrev pub faults_in : Option Outcome → ℕ
faults_in None = 0
faults_in (Some (OfFrame Done)) = 0
faults_in (Some (OfFrame Fault)) = 1
faults_in (Some (OfPump answer)) = 0

-- a line that is no pump
abbrev pub is_no_pump : Said → Bool
is_no_pump (Ok Blank) = true
is_no_pump (Ok Frame) = true
is_no_pump (Ok Pump) = false
is_no_pump (Ok (Make command)) = true
is_no_pump (Err fault) = true

-- what was counted of lines of which this is told
pub record Counts (made : Making) (lines : List Said) (ts : List Told) : Type 0 where
  pub all : made.lines ≡ length lines
  pub refused : made.refused ≡ refused_count ts
  pub frames : made.frames ≡ length (done_scenes ts)
  pub faults : made.faults ≡ fault_count ts

-- These lines were answered from a machine on, and counted.
pub record HasMade (first : Machine) (start : PanelState) (made : Making) (panel : PanelState)
    (lines : List Said) : Type 0 where
  pub answered : Answered first (panel_alone start) (making made panel) lines
  pub counts : Counts made lines (told (entries (first_moment first) lines) answered.answers.outcomes)
  -- a buffer is free, as after each frame
  pub free : 0 < (refresher_in made.gui).free

-- A line more was answered, whatever was answered before.
pub record MakesOn (old new : Making) (before after : PanelState) (said : Said) : Type 0 where
  pub from : (first : Machine) (start : PanelState) (lines : List Said) →
      HasMade first start old before lines → HasMade first start new after (lines ++ said ∷ [])
  pub ready : (room : ℕ) → IsReady (making old before) (room + 1) → IsReady (making new after) room

-- Of what these lines say the first were answered and counted from an earlier state on, whatever was answered
-- before, and the others are left.
pub record HasMadeSome (old : Making) (before : PanelState) (all : List Said) (now : Making)
    (after : PanelState) (left : List Said) : Type 0 where
  pub taken : List Said
  pub split : taken ++ left ≡ all
  pub made : (first : Machine) (start : PanelState) (lines : List Said) →
      HasMade first start old before lines → HasMade first start now after (lines ++ taken)
  pub ready : IsReady (making now after) (length left)
  pub few : now.refused + length left < 2 ^ 32
  pub in_range : All IsInRange left
  pub none : list_all is_no_pump left ≡ true
