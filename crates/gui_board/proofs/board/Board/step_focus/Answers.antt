use Rattle.std.proofs.Common.{◌∙◌, sym}
use Rattle.run_defs.specs.Focusing.{step_focus}
use Rattle.run_defs.specs.Play.{aimed}
use Rattle.gui_board.proofs.Plays.{idle}
use Rattle.gui_board.proofs.board.Board.step_focus.Goals as goal

pub returns-in-Some : goal.returns-in-Some
unfolding step_focus aimed
returns-in-Some g c = rw (sym c.in-Some.ensures) c.move_focus.ensures

pub returns-in_default : goal.returns-in_default
unfolding step_focus aimed
returns-in_default g c = rw (sym c.next_to_focus.ensures ∙ c.in_default.is) (idle _)
