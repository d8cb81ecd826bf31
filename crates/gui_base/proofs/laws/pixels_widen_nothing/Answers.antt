use Rattle.gui_base.proofs.Blocks.{pixels_widen}
use Rattle.gui_base.proofs.laws.pixels_widen_nothing.Goals as goal

pub returns : goal.returns
returns c = pixels_widen
