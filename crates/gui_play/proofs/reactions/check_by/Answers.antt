use Rattle.std.proofs.Common.{◌∙◌, sym}
use Rattle.run_defs.specs.Reactions.{check_by}
use Rattle.gui_board.proofs.Plays.{idle}
use Rattle.gui_play.proofs.reactions.check_by.Goals as goal

pub returns-then-is_flagged : goal.returns-then-is_flagged
unfolding check_by
returns-then-is_flagged c = λ log.
    rw (sym c.is_flagged.ensures ∙ c.if-is_flagged.true, sym c.goes_up.ensures) (c.put_state.ensures.done log)

pub returns-else-is_flagged : goal.returns-else-is_flagged
unfolding check_by
returns-else-is_flagged c = λ log. rw (sym c.is_flagged.ensures ∙ c.if-is_flagged.false) (idle _)
