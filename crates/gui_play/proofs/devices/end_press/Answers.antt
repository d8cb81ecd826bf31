use Rattle.run_defs.specs.Dragging.{end_press}
use Rattle.gui_play.proofs.devices.end_press.Goals as goal

pub returns-in-None : goal.returns-in-None
unfolding end_press
returns-in-None g c = rw c.in-None.is c.release_aimed.ensures

pub returns-in-Some : goal.returns-in-Some
unfolding end_press
returns-in-Some g c = rw c.in-Some.is c.end_scrolling.ensures
