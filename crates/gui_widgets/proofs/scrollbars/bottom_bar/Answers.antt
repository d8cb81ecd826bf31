use Rattle.std.proofs.Common.{◌∙◌, ap, refl}
use Rattle.gui_base.specs.Area.{width_of}
use Rattle.gui_base.specs.Corners.{rect_of}
use Rattle.gui_widgets.specs.Looks.{widget_of}
use Rattle.gui_widgets.proofs.BarAreas.{bottom-is}
use Rattle.gui_widgets.proofs.scrollbars.bottom_bar.Goals as goal

pub returns : goal.returns
returns c =
    c.bottom_part.ensures
    ∙ bottom-is (widget_of c.args.look.now) (rect_of c.args.place) c.width-wide.result c.width-inner.result c.args.look.now.reach.0 c.args.look.now.offset.0 c.bar_length-length.result c.bar_start-start.result
    c.bar_length-length.ensures.value c.bar_start-start.ensures.value c.width-wide.ensures (c.width-inner.ensures ∙ ap width_of c.content_of.ensures.area) refl refl
