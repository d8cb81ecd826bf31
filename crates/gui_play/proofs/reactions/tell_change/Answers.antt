use Rattle.run_defs.specs.Reactions.{tell_change}
use Rattle.gui_board.proofs.Plays.{idle}
use Rattle.gui_play.proofs.reactions.tell_change.Goals as goal

pub returns-then-changed : goal.returns-then-changed
unfolding tell_change
returns-then-changed g c = rw c.if-changed.true c.send_there.ensures

pub returns-else-changed : goal.returns-else-changed
unfolding tell_change
returns-else-changed g c = rw c.if-changed.false (idle _)
