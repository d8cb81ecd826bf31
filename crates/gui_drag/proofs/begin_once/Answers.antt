use Rattle.run_defs.specs.Dragging.{begin_once}
use Rattle.gui_board.proofs.Plays.{idle}
use Rattle.gui_drag.proofs.begin_once.Goals as goal

pub returns-in-None : goal.returns-in-None
unfolding begin_once
returns-in-None c = λ log. rw c.in-None.is (c.begin_aimed.ensures log)

pub returns-in-Some : goal.returns-in-Some
unfolding begin_once
returns-in-Some c = λ log. rw c.in-Some.is (idle _)
