use Rattle.std.proofs.Common.{◌∙◌, ap, refl}
use Rattle.gui_base.specs.Area.{height_of}
use Rattle.gui_base.specs.Corners.{rect_of}
use Rattle.gui_widgets.specs.Looks.{widget_of}
use Rattle.gui_widgets.proofs.BarAreas.{right-is}
use Rattle.gui_widgets.proofs.scrollbars.right_bar.Goals as goal

pub returns : goal.returns
returns c =
    c.right_part.ensures
    ∙ right-is (widget_of c.args.look.now) (rect_of c.args.place) c.height-high.result c.height-inner.result c.args.look.now.reach.1 c.args.look.now.offset.1 c.bar_length-length.result c.bar_start-start.result
    c.bar_length-length.ensures.value c.bar_start-start.ensures.value c.height-high.ensures (c.height-inner.ensures ∙ ap height_of c.content_of.ensures.area) refl refl
