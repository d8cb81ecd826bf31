use Rattle.run_defs.specs.Devices.{release_push}
use Rattle.gui_play.proofs.devices.release_push.Goals as goal

pub returns-then-long : goal.returns-then-long
unfolding release_push
returns-then-long g c = rw c.if-long.true c.let_up.ensures

pub returns-else-long : goal.returns-else-long
unfolding release_push
returns-else-long g c = rw c.if-long.false c.release.ensures
