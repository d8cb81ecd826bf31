use Rattle.std.proofs.Common.{length}
use Rattle.gui_base.specs.Forest.{path_of}
use Rattle.gui_layout.proofs.places.Places.+frame_of.Given as goal

abbrev pub decreases-frame_of : goal.decreases-frame_of
decreases-frame_of l = length (path_of l.tree.now.forest l.h.0)
