use Rattle.run_defs.specs.Play.{aimed}
use Rattle.gui_board.proofs.Plays.{idle}
use Rattle.gui_play.proofs.devices.hold_aimed.Goals as goal

pub returns-in-Some : goal.returns-in-Some
unfolding aimed
returns-in-Some g c = rw c.in-Some.is c.hold.ensures

pub returns-in_default : goal.returns-in_default
unfolding aimed
returns-in_default g c = rw c.in_default.is (idle _)
