use Rattle.std.proofs.Common.{◌∙◌, sym}
use Rattle.run_defs.specs.Devices.{edit_by}
use Rattle.gui_board.proofs.Plays.{idle}
use Rattle.gui_play.proofs.devices.edit_by.Goals as goal

pub returns-then-editing : goal.returns-then-editing
unfolding edit_by
returns-then-editing c = λ log. rw c.if-editing.true (c.edit.ensures log)

pub returns-then-takes_input : goal.returns-then-takes_input
unfolding edit_by
returns-then-takes_input c = λ log.
    rw (c.if-editing.false, sym c.takes_input.ensures ∙ c.if-takes_input.true) (c.edit-then-takes_input.ensures log)

pub returns-else-takes_input : goal.returns-else-takes_input
unfolding edit_by
returns-else-takes_input c = λ log.
    rw (c.if-editing.false, sym c.takes_input.ensures ∙ c.if-takes_input.false) (idle _)
