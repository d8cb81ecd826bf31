use Rattle.std.proofs.Common.{sym}
use Rattle.run_defs.specs.Devices.{arrow_in}
use Rattle.gui_play.proofs.devices.arrow_in.Goals as goal

pub returns : goal.returns
unfolding arrow_in
returns g c = rw (sym c.focused-focused.ensures) c.arrow_aimed.ensures
