use Rattle.gui_base.specs.Corners.{rect_of}
use Rattle.gui_widgets.specs.Looks.{widget_of}
use Rattle.gui_widgets.proofs.TextsFit.{texts-fit}
use Rattle.gui_widgets.proofs.painting.items.Goals as goal

pub returns-clause-texts : goal.returns-clause-texts
returns-clause-texts c = texts-fit (widget_of c.args.look.now) (rect_of c.args.place) c.requires.look.main c.push_content.ensures.caption
