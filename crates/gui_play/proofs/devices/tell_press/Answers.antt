use Rattle.run_defs.specs.Dragging.{tell_press}
use Rattle.gui_board.proofs.Plays.{idle}
use Rattle.gui_play.proofs.devices.tell_press.Goals as goal

pub returns-in-None : goal.returns-in-None
unfolding tell_press
returns-in-None g c = rw c.in-None.is c.send_aimed.ensures

pub returns-in-Some : goal.returns-in-Some
unfolding tell_press
returns-in-Some g c = rw c.in-Some.is (idle _)
