use Rattle.std.proofs.Common.{length}
use Rattle.gui_base.specs.Forest.{path_of}
use Rattle.gui_layout.proofs.touching.+touch_up.Given as goal

abbrev pub decreases-touch_up : goal.decreases-touch_up
decreases-touch_up l = length (path_of l.tree.now.forest l.h.0)
