use Rattle.std.proofs.Common.{◌∙◌, sym}
use Rattle.scene_defs.specs.Row.{shown_row}
use Rattle.gui_store.specs.Views.{scene_of}
use Rattle.gui_layout.proofs.Bars.{not_scrollable, stands_or_not}
use Rattle.gui_layout.proofs.SceneBoxes.{row_found}
use Rattle.gui_layout.proofs.places.Places.scrollable_place.Goals as goal

pub returns-then-not-is_on : goal.returns-then-not-is_on
returns-then-not-is_on c = not_scrollable (scene_of c.args.store.now) c.args.h.0 (shown_row c.in_ok-row.row.now) c.in_ok-row.ensures.value (sym c.is_on.ensures ∙ c.if-not-is_on.true)

pub returns : goal.returns
returns c =
    let scene = scene_of c.args.store.now in
    stands_or_not scene c.args.h.0 c.place.result (row_found scene c.args.h.0 (shown_row c.in_ok-row.row.now) c.in_ok-row.ensures.value).0 (c.place.ensures.value ∙ c.requires c.args.h.0) c.place.ensures.near
