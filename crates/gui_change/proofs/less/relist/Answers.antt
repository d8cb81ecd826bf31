use Rattle.gui_store.specs.Views.{scene_of}
use Rattle.scene_defs.specs.Shown.{entries}
use Rattle.gui_change.proofs.less.relist.Goals as goal

pub returns-in-Delete-clause-entries : goal.returns-in-Delete-clause-entries
returns-in-Delete-clause-entries c = c.take_out.ensures.listed (entries (scene_of c.args.store.now)) (c.requires.goes c.in-Delete.h c.in-Delete.is)
