use Rattle.std.proofs.Common.{◌∙◌, ap}
use Rattle.run_defs.specs.Making.{handles}
use Rattle.gui_board.proofs.Handled.{sends_start, sends_next, sends_end}
use Rattle.gui_board.proofs.board.Board.send.Goals as goal

pub along-init : goal.along-init
along-init g c = sends_start _ _ _ _

pub along-preserved : goal.along-preserved
along-preserved g c = sends_next _ _ _ _ _ _ _ _ c.along-test.true c.along.invariant c.run_at.ensures

pub returns : goal.returns
returns g c = sends_end _ _ _ _ _ _ c.along-test.false (ap handles c.as_slice-path.ensures.value ∙ c.path-fixed.ensures) c.along.invariant
