use Rattle.std.proofs.Common.{length}
use Rattle.gui_base.specs.Forest.{path_of}
use Rattle.gui_layout.proofs.telling.+tell_up.Given as goal

abbrev pub decreases-tell_up : goal.decreases-tell_up
decreases-tell_up l = length (path_of l.tree.now.forest l.h.0)
