use Rattle.std.proofs.Common.{◌∙◌, ap}
use Rattle.layout_defs.specs.OwnHeights.{but_height}
use Rattle.scene_defs.specs.Row.{shown_row}
use Rattle.gui_store.specs.Views.{scene_of}
use Rattle.gui_layout.proofs.SceneBoxes.{row_found, none_found}
use Rattle.gui_layout.proofs.objects.box_in.Goals as goal

pub returns-in-Some : goal.returns-in-Some
returns-in-Some c = c.row_box.ensures ∙ ap but_height (row_found (scene_of c.args.store.now) c.args.h.0 (shown_row c.in-Some.row.now) c.in-Some.ensures.value).1

pub returns-in-None : goal.returns-in-None
returns-in-None c = ap but_height (c.empty_box.ensures c.args.h.0 ∙ none_found (scene_of c.args.store.now) c.args.h.0 c.in-None.ensures.value)
