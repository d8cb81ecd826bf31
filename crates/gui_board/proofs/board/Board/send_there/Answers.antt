use Rattle.std.proofs.Common.{◌∙◌, sym}
use Rattle.run_defs.specs.Events.{send_there}
use Rattle.gui_board.proofs.Plays.{idle}
use Rattle.gui_board.proofs.board.Board.send_there.Goals as goal

pub returns-then-has : goal.returns-then-has
unfolding send_there
returns-then-has g c = rw (sym c.has.ensures ∙ c.if-has.true) c.send.ensures

pub returns-else-has : goal.returns-else-has
unfolding send_there
returns-else-has g c = rw (sym c.has.ensures ∙ c.if-has.false) (idle _)
