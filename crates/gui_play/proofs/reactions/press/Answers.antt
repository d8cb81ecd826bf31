use Rattle.std.proofs.Common.{◌∙◌, sym}
use Rattle.run_defs.specs.Reactions.{press, react_input}
use Rattle.gui_board.proofs.Plays.{idle}
use Rattle.gui_play.proofs.reactions.press.Goals as goal

pub returns-then-takes_input : goal.returns-then-takes_input
unfolding press react_input
returns-then-takes_input g c = rw (sym c.takes_input.ensures ∙ c.if-takes_input.true) c.react_pressed.ensures

pub returns-else-takes_input : goal.returns-else-takes_input
unfolding press react_input
returns-else-takes_input g c = rw (sym c.takes_input.ensures ∙ c.if-takes_input.false) (idle _)
