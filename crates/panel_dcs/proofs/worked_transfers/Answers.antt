use Rattle.std.proofs.Common.{refl}
use Rattle.gui_color.specs.Buffer.{color_at, place}
use Rattle.panel_dcs.specs.Controller.{fed}
use Rattle.panel_dcs.proofs.worked_transfers.Goals as goal

pub returns : goal.returns
unfolding fed color_at place
returns c = record {
  sends_upright = refl;
  sends_quarter = refl;
  columns = refl;
  pages = refl;
  astray = refl;
  astray_keeps = refl;
}
