use Rattle.std.proofs.Common.{◌∙◌}
use Rattle.gui_base.specs.Corners.{rect_of}
use Rattle.gui_store.specs.Views.{scene_of}
use Rattle.gui_widgets.specs.Looks.{widget_of}
use Rattle.gui_layout.proofs.Bars.{bars_of_look}
use Rattle.gui_layout.proofs.places.Places.bars.Goals as goal

pub returns : goal.returns
returns c =
    c.bars.ensures
    ∙ bars_of_look (scene_of c.args.store.now) c.args.h.0 (rect_of c.in-Some.place) (widget_of c.look-look.result) c.look-look.ensures.shows c.in-Some.ensures.stands
