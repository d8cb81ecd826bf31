use Rattle.std.proofs.Common.{length}
use Rattle.gui_base.specs.Forest.{path_of}
use Rattle.scene_defs.specs.Scene.{handles_of}
use Rattle.gui_store.specs.Views.{scene_of}
use Rattle.gui_layout.proofs.places.Places.+seen.Given as goal

abbrev pub decreases-seen : goal.decreases-seen
decreases-seen l = length (path_of (handles_of (scene_of l.store.now).trees) l.h.0)
