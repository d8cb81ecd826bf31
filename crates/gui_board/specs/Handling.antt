-- How far the handlers of an object have come.
use Rattle.std.specs.Prelude.{◌≡◌, ◌≤◌, ℕ, true, length, take, List}
use Rattle.gui_base.specs.declared.Handle.{Handle}
use Rattle.gui_base.specs.declared.events.Action.{Action}
use Rattle.gui_base.specs.declared.events.EventKind.{EventKind}
use Rattle.run_defs.specs.Events.{act, actions_at, run_at}
use Rattle.run_defs.specs.Play.{Rule, each}
use Rattle.scene_defs.specs.Scene.{is_there}
use Rattle.gui_board.specs.Stages.{Stage, Played}

-- what the object's handlers of the event do
abbrev pub actions_on : EventKind → Handle → Stage → List Action
actions_on kind current a = actions_at a.machine current kind

-- the first n of them have run; while the object is there they are as they were
pub record Handles (kind : EventKind) (target current : Handle) (a b : Stage) (n : ℕ) : Type 0 where
  pub done : Played a b (each (act kind target current) (take n (actions_on kind current a)) a.machine)
  pub same : is_there b.machine.scene current.0 ≡ true → actions_on kind current b ≡ actions_on kind current a
  pub count : n ≤ length (actions_on kind current a)

-- the handlers of the object of this number
abbrev pub run_by : EventKind → Handle → ℕ → Rule
run_by kind target h = run_at kind target (record { 0 = h })

-- the handlers of the first n objects on a path have run
pub record Sends (kind : EventKind) (target : Handle) (a b : Stage) (path : List ℕ) (n : ℕ) : Type 0 where
  pub done : Played a b (each (run_by kind target) (take n path) a.machine)
