use Rattle.std.proofs.Common.{◌≡◌, ◌≤◌, ◌∙◌, ap, ◌++◌, ℕ, List, length, arith}
use Rattle.std.proofs.lemmas.Grind.{common_steps}
use Rattle.gui_base.specs.Forest.{Forest, size, preorder}
use Rattle.gui_base.specs.Limits.{Bounds}
use Rattle.gui_base.specs.declared.Handle.{Handle}
use Rattle.gui_tree.specs.Handles.{numbers}
use Rattle.scene_defs.specs.Scene.{handles_of}
use Rattle.gui_store.specs.Views.{scene_of}
use Rattle.gui_tree.specs.Walks.{Walk}
use Rattle.gui_layout.proofs.Entering.{few, proper}
use Rattle.gui_boxes.proofs.These.{length_is}
use Rattle.gui_layout.proofs.places.Places.enter.Goals as goal
use Rattle.gui_layout.proofs.places.Places.enter.Goals.{After-roots, After-list_trees}

all : (c : After-roots) → c.roots.result.left ≡ handles_of (scene_of c.args.store.now).trees
all c = ap (λ (w : Walk). w.left) c.roots.ensures.walk ∙ c.tree-tree.ensures.forest

pub list_trees-requires-clause-room : goal.list_trees-requires-clause-room
list_trees-requires-clause-room c =
    let scene = scene_of c.args.store.now in
    let fits : size (handles_of scene.trees) ≤ scene.limits.objects = few scene c.tree-tree.ensures.valid in
    let objects : c.args.self.now.limits.objects ≡ scene.limits.objects = ap (λ (b : Bounds). b.objects) c.requires in
    let room = c.args.self.now.found_room in
    let cleared = c.clear.ensures in
    rw (all (goal.at.list_trees-requires-clause-room c).After-roots) (omega arith)

listed : (c : After-list_trees) → numbers c.list_trees.new.listed.items ≡ preorder (handles_of (scene_of c.args.store.now).trees)
listed c =
    c.list_trees.ensures.listed
    ∙ (ap (λ (hs : List Handle). numbers hs ++ preorder c.roots.result.left) c.clear.ensures.items ∙ ap (λ (t : Forest ℕ). preorder t) (all (goal.at.After-list_trees c).After-roots))

pub replace_entries-requires-clause-proper : goal.replace_entries-requires-clause-proper
replace_entries-requires-clause-proper c =
    let d = (goal.at.replace_entries-requires-clause-proper c).After-list_trees in
    proper (scene_of c.args.store.now) c.tree-tree.ensures.valid c.list_trees.new.listed.items (listed d)

pub replace_entries-requires-clause-few : goal.replace_entries-requires-clause-few
replace_entries-requires-clause-few c =
    let d = (goal.at.replace_entries-requires-clause-few c).After-list_trees in
    let scene = scene_of c.args.store.now in
    let fits : size (handles_of scene.trees) ≤ scene.limits.objects = few scene c.tree-tree.ensures.valid in
    let objects : c.args.self.now.limits.objects ≡ scene.limits.objects = ap (λ (b : Bounds). b.objects) c.requires in
    let long : length c.list_trees.new.listed.items ≡ size (handles_of scene.trees) = length_is c.list_trees.new.listed.items (handles_of scene.trees) (listed d) in
    omega arith

pub invariant_of-self : goal.invariant_of-self
invariant_of-self c = grind (arith, common_steps)

pub invariant_of-self-2 : goal.invariant_of-self-2
invariant_of-self-2 c = grind (arith, common_steps)
