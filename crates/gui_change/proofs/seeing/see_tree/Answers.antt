use Rattle.std.proofs.Common.{◌≡◌, ◌∙◌, not, ◌<◌, ◌≤◌, sym, ap, ℕ, true, false, List, ◌++◌, None, refl, is_some, arith}
use Rattle.std.proofs.lemmas.Bool.{both_ways, false_from_ne_true}
use Rattle.gui_base.specs.Forest.{Forest, count, has, preorder, size, tree_at}
use Rattle.gui_base.specs.declared.Handle.{Handle}
use Rattle.gui_base.proofs.Visits.{count-has}
use Rattle.gui_store.specs.Views.{scene_of}
use Rattle.gui_tree.specs.Handles.{numbers}
use Rattle.scene_defs.specs.Scene.{handles_of}
use Rattle.scene_defs.specs.Visible.{shown_trees}
use Rattle.gui_boxes.specs.Listing.{times}
use Rattle.gui_layout.proofs.Entering.{few}
use Rattle.gui_tree.proofs.Parts.{there, found, distinct_once, size-part}
use Rattle.gui_boxes.proofs.InTrees.{tree-in}
use Rattle.gui_boxes.proofs.These.{has-times, times_is}
use Rattle.gui_change.specs.Again.{AreKnown}
use Rattle.gui_change.proofs.Reordering.{copied-some}
use Rattle.gui_change.proofs.SeenAgain.{hidden-again, listed-again, nothing-known, shown-has}
use Rattle.gui_change.proofs.ShownTrees.{count-tree, shown-below, shown-above}
use Rattle.gui_change.proofs.seeing.see_tree.Goals as goal
use Rattle.gui_change.proofs.seeing.see_tree.Goals.{After-is_none, After-as_slice}

-- whether something is known of the object tells whether it is shown
is_known : (c : After-is_none) → has (handles_of (shown_trees (scene_of c.args.after.now.store.now))) c.args.top.0 ≡ not c.is_none.result
is_known c =
    sym (shown-has (scene_of c.args.after.now.store.now) c.args.table.now c.requires.shown c.args.top.0)
    ∙ (ap is_some (sym c.get.ensures) ∙ (copied-some c.get.result ∙ c.is_none.ensures))

pub returns-then-is_none-clause-sees : goal.returns-then-is_none-clause-sees
returns-then-is_none-clause-sees c =
    let d = (goal.at.returns-then-is_none-clause-sees c).After-is_none in
    let scene = scene_of c.args.after.now.store.now in
    let none = shown-has scene c.args.table.now c.requires.shown c.args.top.0 ∙ (is_known d ∙ ap not c.if-is_none.true) in
    hidden-again scene None c.args.table.now c.requires.shown c.args.top.0 (λ k off. refl) c.args.damage.now none

pub returns-then-is_none-clause-all : goal.returns-then-is_none-clause-all
returns-then-is_none-clause-all c k inside =
    let d = (goal.at.returns-then-is_none-clause-all c).After-is_none in
    let scene = scene_of c.args.after.now.store.now in
    let shown = handles_of (shown_trees scene) in
    let out : has shown c.args.top.0 ≡ false = is_known d ∙ ap not c.if-is_none.true in
    let hidden : has shown k ≡ false =
    false_from_ne_true (has shown k) (λ is. both_ways (has shown c.args.top.0) out (shown-above scene c.tree-tree.ensures.valid c.args.top.0 k is inside)) in
    nothing-known scene c.args.table.now k (shown-has scene c.args.table.now c.requires.shown k ∙ hidden)

pub list_tree-requires-clause-room : goal.list_tree-requires-clause-room
list_tree-requires-clause-room c =
    let scene = scene_of c.args.after.now.store.now in
    let valid = c.tree-tree.ensures.valid in
    let f = handles_of scene.trees in
    let u = c.args.top.0 in
    let at = there f u c.requires.there in
    let known = found at.part (distinct_once f valid.trees.once) in
    let part = size-part at.part in
    let fits = few scene valid in
    let room = c.requires.room.room in
    let len = c.requires.room.len in
    let small : size (tree_at f u) ≤ size f = rw known.tree (omega arith) in
    rw c.tree-tree.ensures.forest (omega arith)

-- the listed objects are those of the tree
listed : (c : After-as_slice) → numbers c.as_slice.result.now ≡ preorder (tree_at (handles_of (scene_of c.args.after.now.store.now).trees) c.args.top.0)
listed c =
    ap numbers c.as_slice.ensures.value
    ∙ (c.list_tree.ensures.listed
    ∙ (ap (λ (hs : List Handle). numbers hs ++ preorder (tree_at c.tree-tree.result.now.forest c.args.top.0)) c.requires.room.empty
    ∙ ap (λ (f : Forest ℕ). preorder (tree_at f c.args.top.0)) c.tree-tree.ensures.forest))

inside : (c : After-as_slice) (k : ℕ) → 0 < times c.as_slice.result.now k → has (tree_at (handles_of (scene_of c.args.after.now.store.now).trees) c.args.top.0) k ≡ true
inside c k some = has-times c.as_slice.result.now (tree_at (handles_of (scene_of c.args.after.now.store.now).trees) c.args.top.0) (listed c) k some

once : (c : After-as_slice) (k : ℕ) → times c.as_slice.result.now k ≤ 1
once c k =
    let f = handles_of (scene_of c.args.after.now.store.now).trees in
    let u = c.args.top.0 in
    let is = times_is c.as_slice.result.now (tree_at f u) (listed c) k in
    let part = count-tree u k f in
    let most : count f k ≤ 1 = c.tree-tree.ensures.valid.trees.once k in
    omega arith

-- the tree is shown
some : (c : After-as_slice) → AreKnown c.args.table.now c.as_slice.result.now
some c k more =
    let scene = scene_of c.args.after.now.store.now in
    let shown = is_known (goal.at.After-as_slice c).After-is_none ∙ ap not c.if-is_none.false in
    shown-has scene c.args.table.now c.requires.shown k ∙ shown-below scene c.tree-tree.ensures.valid c.args.top.0 k shown (inside c k more)

pub see_all_again-requires-clause-there : goal.see_all_again-requires-clause-there
see_all_again-requires-clause-there c k more =
    tree-in c.args.top.0 k (handles_of (scene_of c.args.after.now.store.now).trees) (inside (goal.at.see_all_again-requires-clause-there c).After-as_slice k more)

pub see_all_again-requires-clause-once : goal.see_all_again-requires-clause-once
see_all_again-requires-clause-once c = once (goal.at.see_all_again-requires-clause-once c).After-as_slice

pub see_all_again-requires-clause-some : goal.see_all_again-requires-clause-some
see_all_again-requires-clause-some c = some (goal.at.see_all_again-requires-clause-some c).After-as_slice

pub returns-clause-sees : goal.returns-clause-sees
returns-clause-sees c =
    let d = (goal.at.returns-clause-sees c).After-as_slice in
    listed-again (scene_of c.args.after.now.store.now) c.tree-tree.ensures.valid None c.args.table.now c.see_all_again.new.table c.as_slice.result.now c.requires.shown (some d) (once d) (λ k off. refl)
    c.see_all_again.ensures.listing c.see_all_again.ensures.seen c.see_all_again.ensures.rest c.args.damage.now c.see_all_again.new.damage c.see_all_again.ensures.debt

pub returns-clause-all : goal.returns-clause-all
returns-clause-all c k in-tree s known =
    let d = (goal.at.returns-clause-all c).After-as_slice in
    let t = tree_at (handles_of (scene_of c.args.after.now.store.now).trees) c.args.top.0 in
    let is = times_is c.as_slice.result.now t (listed d) k in
    let more = count-has t k in-tree in
    c.see_all_again.ensures.seen k s (omega (arith, is, more)) known
