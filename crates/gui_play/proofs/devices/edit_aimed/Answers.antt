use Rattle.run_defs.specs.Play.{aimed}
use Rattle.gui_board.proofs.Plays.{idle}
use Rattle.gui_play.proofs.devices.edit_aimed.Goals as goal

pub returns-in-Some : goal.returns-in-Some
unfolding aimed
returns-in-Some c = λ log. rw c.in-Some.is (c.edit_by.ensures log)

pub returns-in_default : goal.returns-in_default
unfolding aimed
returns-in_default c = λ log. rw c.in_default.is (idle _)
