use Rattle.gui_store.specs.Views.{scene_of}
use Rattle.scene_defs.specs.Shown.{entries}
use Rattle.gui_change.proofs.reorder.relist.Goals as goal

pub returns-in-Front-clause-entries : goal.returns-in-Front-clause-entries
returns-in-Front-clause-entries c = c.bring_to_front.ensures.listed (entries (scene_of c.args.store.now)) (c.requires.fronts c.in-Front.h c.in-Front.is)
