use Rattle.std.proofs.Common.{◌∙◌, ap}
use Rattle.run_defs.specs.Dragging.{pair_of}
use Rattle.gui_drag.proofs.reach_of.Goals as goal

pub returns : goal.returns
returns c = c.reach_in.ensures ∙ ap pair_of (c.places.ensures.reached.reaches c.args.h.0)
