use Rattle.std.proofs.Common.{◌∙◌, sym}
use Rattle.std.proofs.lemmas.Bool.{false≢true}
use Rattle.gui_store.specs.Views.{scene_of}
use Rattle.gui_layout.proofs.SceneBoxes.{row_gone}
use Rattle.gui_layout.proofs.places.Places.paint_look.Goals as goal

pub unreachable-requires : goal.unreachable-requires
unreachable-requires c = false≢true (sym (row_gone (scene_of c.args.store.now) c.args.h.0 c.in_default.ensures.value) ∙ c.requires.there)
