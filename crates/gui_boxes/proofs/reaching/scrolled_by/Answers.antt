use Rattle.std.proofs.Common.{ap}
use Rattle.layout_defs.specs.Solving.{Span}
use Rattle.gui_boxes.specs.Scrolls.{Scrolled, span_of}
use Rattle.gui_boxes.proofs.reaching.scrolled_by.Goals as goal

abbrev both : Span → Span → Scrolled
both reach offset = record { reach = reach; offset = offset }

pub returns : goal.returns
returns c h = ap (both (span_of c.args.reach)) (c.offset_of.ensures h)
