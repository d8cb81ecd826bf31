use Rattle.std.proofs.Common.{◌∙◌, ap, sym}
use Rattle.layout_defs.specs.Boxes.{inner}
use Rattle.scene_defs.specs.Row.{shown_row}
use Rattle.gui_store.specs.Views.{scene_of}
use Rattle.gui_layout.specs.Scenes.{scene_box}
use Rattle.gui_boxes.specs.Views.{axis_of}
use Rattle.gui_layout.proofs.SceneBoxes.{no_height}
use Rattle.gui_layout.proofs.objects.own_height_of.Goals as goal

pub returns-in_default-clause-value : goal.returns-in_default-clause-value
returns-in_default-clause-value c = no_height (scene_of c.args.store.now) c.args.h.0 (shown_row c.in-Some.row.now) (inner (axis_of c.args.own.now.wanted.across) c.args.own.now.width.pixels) c.in-Some.ensures.value (sym c.has_own_size.ensures ∙ c.if-has_own_size.false)

pub returns-in-Some-clause-value : goal.returns-in-Some-clause-value
returns-in-Some-clause-value c = c.shown_height.ensures.value ∙ ap ((scene_box (scene_of c.args.store.now) c.args.h.0).own_height) c.inner-room.ensures.value
