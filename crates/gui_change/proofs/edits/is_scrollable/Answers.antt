use Rattle.std.proofs.Common.{◌∙◌, sym}
use Rattle.std.proofs.lemmas.Bool.{both_ways}
use Rattle.scene_defs.specs.Row.{shown_row}
use Rattle.scene_defs.specs.Scene.{is_there}
use Rattle.gui_store.specs.Views.{scene_of}
use Rattle.gui_layout.proofs.SceneBoxes.{row_gone}
use Rattle.gui_change.proofs.BarsStay.{told-scrollable}
use Rattle.gui_change.proofs.edits.is_scrollable.Goals as goal

pub returns-in_default : goal.returns-in_default
returns-in_default c off there =
    let scene = scene_of c.args.store.now in
    absurd (both_ways (is_there scene c.args.h.0) (row_gone scene c.args.h.0 c.in_default.ensures.value) there)

pub returns : goal.returns
returns c off there =
    sym (told-scrollable (scene_of c.args.store.now) c.args.h.0 (shown_row c.in-Some.row.now) (sym c.in-Some.ensures.value)) ∙ (sym c.is_on.ensures ∙ off)
