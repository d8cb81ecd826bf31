use Rattle.std.proofs.Common.{◌∙◌, sym}
use Rattle.run_defs.specs.Dragging.{begin}
use Rattle.gui_board.proofs.Plays.{idle}
use Rattle.gui_drag.proofs.begin_scrolling.Goals as goal

pub returns-then-may_scroll : goal.returns-then-may_scroll
unfolding begin
returns-then-may_scroll c = λ log.
    rw (sym c.may_scroll.ensures ∙ c.if-may_scroll.true, sym c.goes_down-down.ensures, sym c.scrolled_from-object.ensures) (c.begin_on.ensures log)

pub returns-else-may_scroll : goal.returns-else-may_scroll
unfolding begin
returns-else-may_scroll c = λ log. rw (sym c.may_scroll.ensures ∙ c.if-may_scroll.false) (idle _)
