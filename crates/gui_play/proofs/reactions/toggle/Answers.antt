use Rattle.std.proofs.Common.{◌∙◌, sym}
use Rattle.run_defs.specs.Reactions.{toggle}
use Rattle.gui_board.proofs.Plays.{idle}
use Rattle.gui_play.proofs.reactions.toggle.Goals as goal

pub returns-then-is_flagged : goal.returns-then-is_flagged
unfolding toggle
returns-then-is_flagged c = λ log.
    rw (sym c.is_flagged.ensures ∙ c.if-is_flagged.true, sym c.is_in_state-on.ensures) (c.put_state.ensures.done log)

pub returns-else-is_flagged : goal.returns-else-is_flagged
unfolding toggle
returns-else-is_flagged c = λ log. rw (sym c.is_flagged.ensures ∙ c.if-is_flagged.false) (idle _)
