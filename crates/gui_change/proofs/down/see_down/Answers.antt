use Rattle.std.proofs.Common.{◌≡◌, ◌∙◌, ap, ℕ}
use Rattle.std.specs.Prelude.{option_map}
use Rattle.gui_concerns.specs.Handles.{number_of}
use Rattle.std.proofs.lemmas.Bool.{both_ways}
use Rattle.gui_base.specs.Forest.{Forest, children_of}
use Rattle.gui_layout.specs.Marked.{is_root}
use Rattle.gui_store.specs.Views.{scene_of}
use Rattle.gui_tree.specs.Walks.{Walk}
use Rattle.scene_defs.specs.Scene.{handles_of}
use Rattle.gui_change.proofs.Downward.{none-down, open-down}
use Rattle.gui_change.proofs.Kids.{parent-child}
use Rattle.gui_change.proofs.SeenAgain.{shown-still}
use Rattle.gui_change.proofs.down.see_down.Goals as goal

pub see_heads-requires-clause-shown : goal.see_heads-requires-clause-shown
see_heads-requires-clause-shown c =
    shown-still (scene_of c.args.after.now.store.now) c.args.table.now c.see_here.new.table c.see_here.ensures.sees.listing c.requires.shown

pub returns-then-see_here-clause-down : goal.returns-then-see_here-clause-down
returns-then-see_here-clause-down c =
    let scene = scene_of c.args.after.now.store.now in
    let h = c.args.h.0 in
    let kids : c.children.result.left ≡ children_of (handles_of scene.trees) h =
    ap (λ (w : Walk). w.left) c.children.ensures.walk ∙ ap (λ (f : Forest ℕ). children_of f h) c.tree-tree.ensures.forest in
    open-down (option_map number_of c.args.named) scene c.args.table.now c.see_here.new.table c.see_heads.new.table c.args.damage.now c.see_here.new.damage c.see_heads.new.damage h c.see_here.ensures.sees c.see_here.ensures.own c.see_here.ensures.rest c.see_heads.ensures.down
    (λ moved k up. c.see_heads.ensures.heads k (ap (λ (u : Forest ℕ). is_root k u) kids ∙ parent-child (handles_of scene.trees) k h c.tree-tree.ensures.valid.trees.once up))

pub returns-then-see_here-clause-own : goal.returns-then-see_here-clause-own
returns-then-see_here-clause-own c = c.see_heads.ensures.down.sees.seen c.args.h.0 c.see_here.ensures.own

pub returns-else-see_here-clause-down : goal.returns-else-see_here-clause-down
returns-else-see_here-clause-down c =
    let scene = scene_of c.args.after.now.store.now in
    open-down (option_map number_of c.args.named) scene c.args.table.now c.see_here.new.table c.see_here.new.table c.args.damage.now c.see_here.new.damage c.see_here.new.damage c.args.h.0 c.see_here.ensures.sees c.see_here.ensures.own c.see_here.ensures.rest
    (none-down scene c.see_here.new.table c.see_here.new.damage) (λ moved k up. absurd (both_ways _ moved (c.see_here.ensures.same c.if-see_here.false)))
