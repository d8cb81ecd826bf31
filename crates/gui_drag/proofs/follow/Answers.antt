use Rattle.run_defs.specs.Dragging.{follow}
use Rattle.gui_board.proofs.Plays.{idle}
use Rattle.gui_drag.proofs.follow.Goals as goal

pub returns-in-Some : goal.returns-in-Some
unfolding follow
returns-in-Some c = λ log. rw c.in-Some.is (c.scroll_aimed.ensures log)

pub returns-in_default : goal.returns-in_default
unfolding follow
returns-in_default c = λ log. rw c.in_default.is (idle _)
