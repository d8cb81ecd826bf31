use Rattle.std.proofs.Common.{sym}
use Rattle.run_defs.specs.Devices.{turn_once}
use Rattle.gui_play.proofs.devices.turn_once.Goals as goal

pub returns-then-editing : goal.returns-then-editing
unfolding turn_once
returns-then-editing g c = rw (c.if-editing.true, sym c.arrow_to.ensures) c.arrow_in.ensures

pub returns-else-editing : goal.returns-else-editing
unfolding turn_once
returns-else-editing g c = rw c.if-editing.false c.step_focus.ensures
