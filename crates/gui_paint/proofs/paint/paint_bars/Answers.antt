use Rattle.std.proofs.Common.{◌∙◌, ap}
use Rattle.gui_widgets.specs.Looks.{items_of}
use Rattle.gui_paint.proofs.paint.paint_bars.Goals as goal

pub paint_known_bars-requires : goal.paint_known_bars-requires
paint_known_bars-requires g c = ap items_of c.as_slice.ensures.value ∙ c.bars-bars.ensures
