use Rattle.run_defs.specs.Dragging.{begin_on}
use Rattle.gui_board.proofs.Plays.{played_then, idle}
use Rattle.gui_drag.proofs.begin_on.Goals as goal

pub returns-in-Some : goal.returns-in-Some
unfolding begin_on
returns-in-Some c = λ log.
    rw c.in-Some.is (played_then _ _ _ _ _ (c.set_scrolling.ensures log) (c.put_state.ensures.done log))

pub returns-in_default : goal.returns-in_default
unfolding begin_on
returns-in_default c = λ log. rw c.in_default.is (idle _)
