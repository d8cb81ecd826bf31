use Rattle.run_defs.specs.Devices.{long_push}
use Rattle.gui_board.proofs.Plays.{idle}
use Rattle.gui_play.proofs.devices.long_push.Goals as goal

pub returns-in-None : goal.returns-in-None
unfolding long_push
returns-in-None c = λ log. rw c.in-None.is (idle _)

pub returns-in-Some : goal.returns-in-Some
unfolding long_push
returns-in-Some c = λ log. rw c.in-Some.is (c.change_editing.ensures log)
