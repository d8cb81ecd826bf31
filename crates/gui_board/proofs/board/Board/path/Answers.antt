use Rattle.std.proofs.Common.{◌∙◌, sym, ap, subst, refl, arith, ℕ, List}
use Rattle.std.specs.Prelude.{option_map}
use Rattle.scene_defs.specs.Row.{shown_row}
use Rattle.scene_defs.specs.Scene.{Scene, row_at}
use Rattle.scene_defs.specs.Valid.{IsValid}
use Rattle.gui_change.specs.Canvas.{scene_in}
use Rattle.gui_store.specs.Views.{scene_of}
use Rattle.gui_board.proofs.Bubbling.{Walks, WalksOn, goes_to, walk_start, walk_on, walk_end, walk_gone}
use Rattle.gui_board.proofs.board.Board.path.Goals as goal

pub up-init : goal.up-init
up-init c = walk_start _ _ _ (subst IsValid c.store-store.ensures.scene c.tree-tree.ensures.valid) c.new-path.ensures

pub returns : goal.returns
returns c = walk_end _ _ _ _ c.up.invariant c.in_default.is

pub returns-in_default-row : goal.returns-in_default-row
returns-in_default-row c =
    walk_gone _ _ _ _ _ c.up.invariant c.in-Some.is
    (sym (ap (option_map (λ r. shown_row r.now)) c.in_default-row.is) ∙ (c.row.ensures.value ∙ ap (λ (s : Scene). row_at s c.in-Some.h.0) c.store-store.ensures.scene))

pub push-requires : goal.push-requires
push-requires c =
    let on : WalksOn (scene_in c.args.self.now.canvas) c.args.target c.up.path.items c.in-Some.h.0 c.up.at (goes_to c.tree-tree.result.now.forest c.in-Some.h.0 (shown_row c.in-Some-row.row.now)) =
    walk_on _ (scene_of c.store-store.result.now) c.tree-tree.result.now.forest _ _ _ (shown_row c.in-Some-row.row.now) _ _ c.store-store.ensures.scene c.tree-tree.ensures.valid c.tree-tree.ensures.forest c.up.invariant c.in-Some.is
    (sym (ap (option_map (λ r. shown_row r.now)) c.in-Some-row.is) ∙ c.row.ensures.value) refl in
    (omega arith, on.room)

walks : (c : goal.After-bubbles_to-at) → WalksOn (scene_in c.args.self.now.canvas) c.args.target c.up.path.items c.in-Some.h.0 c.up.at c.bubbles_to-at.result
walks c =
    walk_on _ (scene_of c.store-store.result.now) c.tree-tree.result.now.forest _ _ _ (shown_row c.in-Some-row.row.now) _ _ c.store-store.ensures.scene c.tree-tree.ensures.valid c.tree-tree.ensures.forest c.up.invariant c.in-Some.is
    (sym (ap (option_map (λ r. shown_row r.now)) c.in-Some-row.is) ∙ c.row.ensures.value) c.bubbles_to-at.ensures

pub up-preserved : goal.up-preserved
up-preserved c = subst (λ (path : List ℕ). Walks (scene_in c.args.self.now.canvas) c.args.target path c.bubbles_to-at.result) (sym c.push.ensures.items) (walks c).walks

pub up-smaller : goal.up-smaller
up-smaller c = (walks c).shorter
