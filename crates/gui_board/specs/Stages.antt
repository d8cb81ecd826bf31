-- What the code of a rule does, beside the rule.
use Rattle.std.specs.Prelude.{◌≡◌, Bool, ◌||◌}
use Rattle.gui_damage.specs.Adding.{AddsAll}
use Rattle.gui_damage.specs.Pending.{Pending, IsPending}
use Rattle.gui_edge.specs.Sink.{SinkState}
use Rattle.run_defs.specs.Owing.{owed_along}
use Rattle.run_defs.specs.Machine.{Machine}
use Rattle.run_defs.specs.Play.{Play, after_changes}
use Rattle.gui_board.specs.Writing.{WritesBy}

-- the machine, what is pending, and how the log goes in this step
pub record Stage : Type 0 where
  pub machine : Machine
  pub pending : Pending
  -- whether the log has failed in this step, and whether an action was refused
  pub cut : Bool
  pub noted : Bool
  pub log : SinkState

-- A play was played: the machine is that of the play, whose scene its changes made, what they owe has become
-- pending, and its lines are written.
pub record Played (old new : Stage) (play : Play) : Type 0 where
  pub machine : new.machine ≡ play.machine
  pub scene : play.machine.scene ≡ after_changes old.machine.scene play.changes
  pub owed : IsPending old.pending →
      AddsAll old.pending new.pending (owed_along old.machine.scene play.changes)
  pub lines : WritesBy old.cut new.cut old.log new.log play.lines
  pub noted : new.noted ≡ (old.noted || play.noted)
