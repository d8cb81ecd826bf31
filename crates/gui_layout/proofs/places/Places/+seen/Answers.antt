use Rattle.std.proofs.Common.{◌∙◌, ◌<◌, sym, ap, length, rules}
use Rattle.std.specs.Prelude.{Some, None, option_map}
use Rattle.gui_base.specs.Corners.{rect_of}
use Rattle.gui_layout.specs.Scenes.{shown_panel}
use Rattle.gui_base.specs.Forest.{path_of}
use Rattle.scene_defs.specs.Scene.{handles_of}
use Rattle.scene_defs.specs.Row.{shown_row}
use Rattle.scene_defs.specs.Visible.{met, visible}
use Rattle.gui_store.specs.Views.{scene_of}
use Rattle.gui_layout.proofs.Seen.{gone_is, hidden_is, open_is, higher}
use Rattle.gui_layout.proofs.places.Places.+seen.Goals as goal

pub returns-in_err-row-clause-value : goal.returns-in_err-row-clause-value
returns-in_err-row-clause-value t c =
    ap (option_map rect_of) c.from_residual.ensures ∙ sym (gone_is (scene_of c.args.store.now) c.tree-tree.ensures.valid c.args.h.0 c.in_err-row.ensures.value)

pub returns-then-is_on-clause-value : goal.returns-then-is_on-clause-value
returns-then-is_on-clause-value t c =
    sym (hidden_is (scene_of c.args.store.now) c.tree-tree.ensures.valid c.args.h.0 (shown_row c.in_ok-row.row.now) c.in_ok-row.ensures.value (sym c.is_on.ensures ∙ c.if-is_on.true))

pub seen-requires : goal.seen-requires
seen-requires t c =
    let scene = scene_of c.args.store.now in
    let shorter : length (path_of (handles_of scene.trees) c.in-Some.parent.0) < length (path_of (handles_of scene.trees) c.args.h.0) =
    higher scene c.tree-tree.ensures.valid c.args.h c.in-Some.parent (shown_row c.in_ok-row.row.now) c.tree-tree.result.now.forest c.in_ok-row.ensures.value c.tree-tree.ensures.forest c.in-Some.ensures in
    (search rules, c.requires)

pub returns-in-Some-clause-value : goal.returns-in-Some-clause-value
returns-in-Some-clause-value t c =
    let scene = scene_of c.args.store.now in
    c.met.ensures.value
    ∙ (ap (λ clip. met clip (option_map rect_of c.place.result)) c.seen.ensures.value
    ∙ (ap (met (visible scene c.in-Some.parent.0)) (c.place.ensures.value ∙ c.requires c.args.h.0)
    ∙ sym (open_is scene c.tree-tree.ensures.valid c.args.h.0 (shown_row c.in_ok-row.row.now) c.tree-tree.result.now.forest (Some c.in-Some.parent) c.in_ok-row.ensures.value
    (sym c.is_on.ensures ∙ c.if-is_on.false) c.tree-tree.ensures.forest c.in-Some.ensures)))

pub returns-in-None-clause-value : goal.returns-in-None-clause-value
returns-in-None-clause-value t c =
    let scene = scene_of c.args.store.now in
    c.met-in-None.ensures.value
    ∙ (ap (λ clip. met clip (option_map rect_of c.place-in-None.result)) c.shown_panel.ensures
    ∙ (ap (met (shown_panel scene c.args.h.0)) (c.place-in-None.ensures.value ∙ c.requires c.args.h.0)
    ∙ sym (open_is scene c.tree-tree.ensures.valid c.args.h.0 (shown_row c.in_ok-row.row.now) c.tree-tree.result.now.forest None c.in_ok-row.ensures.value
    (sym c.is_on.ensures ∙ c.if-is_on.false) c.tree-tree.ensures.forest c.in-None.ensures)))
