use Rattle.std.proofs.Common.{◌∙◌, sym}
use Rattle.run_defs.specs.Reactions.{click, react_input}
use Rattle.gui_board.proofs.Plays.{idle}
use Rattle.gui_play.proofs.reactions.click.Goals as goal

pub returns-then-takes_input : goal.returns-then-takes_input
unfolding click react_input
returns-then-takes_input g c = rw (sym c.takes_input.ensures ∙ c.if-takes_input.true) c.react_clicked.ensures

pub returns-else-takes_input : goal.returns-else-takes_input
unfolding click react_input
returns-else-takes_input g c = rw (sym c.takes_input.ensures ∙ c.if-takes_input.false) (idle _)
