use Rattle.std.proofs.Common.{◌∙◌, sym}
use Rattle.run_defs.specs.Focusing.{focus}
use Rattle.gui_board.proofs.Plays.{idle}
use Rattle.gui_board.proofs.board.Board.focus.Goals as goal

pub returns-then-has_focus : goal.returns-then-has_focus
unfolding focus
returns-then-has_focus g c = rw (sym c.has_focus.ensures ∙ c.if-has_focus.true) (idle _)

pub returns-in-Some : goal.returns-in-Some
unfolding focus
returns-in-Some g c = rw (sym c.has_focus.ensures ∙ c.if-has_focus.false, sym c.in-Some.ensures) c.move_focus.ensures

pub returns-in_default : goal.returns-in_default
unfolding focus
returns-in_default g c = rw (sym c.has_focus.ensures ∙ c.if-has_focus.false, sym c.group_of.ensures ∙ c.in_default.is) (idle _)
