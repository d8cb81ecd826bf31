use Rattle.std.proofs.Common.{◌∙◌, sym, ap, refl}
use Rattle.std.specs.Prelude.{Some, option_map}
use Rattle.gui_base.specs.Corners.{rect_of}
use Rattle.scene_defs.specs.Row.{shown_row}
use Rattle.scene_defs.specs.Scene.{handles_of}
use Rattle.scene_defs.specs.Visible.{met, visible}
use Rattle.gui_layout.proofs.Seen.{gone_is, hidden_is, open_is}
use Rattle.gui_store.specs.Views.{scene_of}
use Rattle.gui_debts.proofs.sighting.visible_below.Goals as goal

pub returns-in_default : goal.returns-in_default
returns-in_default c = sym (gone_is (scene_of c.args.store.now) c.tree-tree.ensures.valid c.args.h.0 c.in_default.ensures.value)

pub returns-then-is_on : goal.returns-then-is_on
returns-then-is_on c =
    sym (hidden_is (scene_of c.args.store.now) c.tree-tree.ensures.valid c.args.h.0 (shown_row c.in-Some.row.now) c.in-Some.ensures.value (sym c.is_on.ensures ∙ c.if-is_on.true))

pub returns : goal.returns
returns c =
    let scene = scene_of c.args.store.now in
    let parent = c.args.parent.now.h in
    c.met.ensures.value
    ∙ (ap (λ clip. met clip (option_map rect_of c.args.at)) c.requires.seen.visible
    ∙ (ap (met (visible scene parent.0)) c.requires.place
    ∙ sym (open_is scene c.tree-tree.ensures.valid c.args.h.0 (shown_row c.in-Some.row.now) (handles_of scene.trees) (Some parent) c.in-Some.ensures.value (sym c.is_on.ensures ∙ c.if-is_on.false) refl c.requires.parent)))
