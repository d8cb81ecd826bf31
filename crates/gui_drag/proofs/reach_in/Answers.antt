use Rattle.std.proofs.Common.{◌∙◌, ap}
use Rattle.run_defs.specs.Dragging.{pair_of}
use Rattle.gui_drag.proofs.Scrolling.{pair_or_none}
use Rattle.gui_drag.proofs.reach_in.Goals as goal

pub returns : goal.returns
returns c = pair_or_none c.reach.result c.unwrap_or.result c.unwrap_or.ensures ∙ ap pair_of c.reach.ensures
