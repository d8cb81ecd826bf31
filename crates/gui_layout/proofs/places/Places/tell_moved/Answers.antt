use Rattle.std.proofs.Common.{◌≡◌, ◌∙◌, ◌≤◌, sym, ap, subst, ℕ, true, inl, inr, List, [], arith}
use Rattle.std.specs.Prelude.{vec_capacity}
use Rattle.std.proofs.lemmas.Bool.{cases_Bool}
use Rattle.gui_base.specs.Forest.{Forest, StandsOnce, has, size, tree_at}
use Rattle.gui_base.specs.Limits.{Bounds}
use Rattle.gui_base.specs.declared.Handle.{Handle}
use Rattle.gui_store.specs.Views.{scene_of}
use Rattle.scene_defs.specs.Scene.{handles_of}
use Rattle.gui_boxes.specs.Frames.{Encloses}
use Rattle.gui_boxes.specs.Pending.{is_first}
use Rattle.gui_boxes.specs.Tables.{AreListed, IsListed, Listing, listing_of, told}
use Rattle.gui_boxes.specs.Telling.{ListsLeft, Tells}
use Rattle.gui_boxes.specs.Touched.{is_touched}
use Rattle.gui_boxes.proofs.Reports.{calm-still, left-none, left-then, tells-then}
use Rattle.gui_boxes.proofs.These.{these_kept}
use Rattle.gui_layout.specs.Calm.{StandsOver}
use Rattle.gui_layout.specs.Moved.{AreClosed}
use Rattle.gui_layout.specs.Solved.{layout_of}
use Rattle.gui_layout.specs.Tops.{in_trees_at}
use Rattle.gui_layout.proofs.Entering.{few}
use Rattle.gui_layout.proofs.places.Places.tell_moved.Goals as goal
use Rattle.gui_layout.proofs.places.Places.tell_moved.Goals.{After-clear, After-tell_trees, After-tell_marked}

-- there is room for all objects
room : (c : After-clear) → size c.tree-tree.result.now.forest ≤ vec_capacity c.clear.new.self
room c =
    let scene = scene_of c.args.store.now in
    let fits : size (handles_of scene.trees) ≤ scene.limits.objects = few scene c.tree-tree.ensures.valid in
    let objects : c.args.self.now.limits.objects ≡ scene.limits.objects = ap (λ (b : Bounds). b.objects) c.requires.limits in
    let most = c.args.self.now.found_room in
    let cleared = c.clear.ensures.capacity in
    rw c.tree-tree.ensures.forest (omega arith)

left : (c : After-clear) → ListsLeft c.tree-tree.result.now.forest (is_touched (layout_of c.args.self.now)) c.clear.new.self.items
left c =
    let g = c.tree-tree.result.now.forest in
    let t = is_touched (layout_of c.args.self.now) in
    subst (λ (hs : List Handle). ListsLeft g t hs) (sym c.clear.ensures.items) (left-none g t)

pub tell_trees-requires-clause-once : goal.tell_trees-requires-clause-once
tell_trees-requires-clause-once c = subst (λ (f : Forest ℕ). StandsOnce f) (sym c.tree-tree.ensures.forest) c.tree-tree.ensures.valid.trees.once

pub tell_trees-requires-clause-there : goal.tell_trees-requires-clause-there
tell_trees-requires-clause-there c u some = subst (λ (f : Forest ℕ). has f u ≡ true) (sym c.tree-tree.ensures.forest) (c.requires.there u some)

pub tell_trees-requires-clause-listed : goal.tell_trees-requires-clause-listed
tell_trees-requires-clause-listed c u some = subst (λ (f : Forest ℕ). AreListed (listing_of c.args.self.now.entries) (tree_at f u)) (sym c.tree-tree.ensures.forest) (c.requires.trees u some)

pub tell_trees-requires-clause-closed : goal.tell_trees-requires-clause-closed
tell_trees-requires-clause-closed c = subst (λ (f : Forest ℕ). AreClosed f (is_touched (layout_of c.args.self.now)) c.args.tops.now) (sym c.tree-tree.ensures.forest) c.requires.closed

pub tell_trees-requires-clause-left : goal.tell_trees-requires-clause-left
tell_trees-requires-clause-left c = left (goal.at.tell_trees-requires-clause-left c).After-clear

pub tell_trees-requires-clause-room : goal.tell_trees-requires-clause-room
tell_trees-requires-clause-room c = room (goal.at.tell_trees-requires-clause-room c).After-clear

pub tell_marked-requires-clause-once : goal.tell_marked-requires-clause-once
tell_marked-requires-clause-once c = subst (λ (f : Forest ℕ). StandsOnce f) (sym c.tree-tree.ensures.forest) c.tree-tree.ensures.valid.trees.once

pub tell_marked-requires-clause-listed : goal.tell_marked-requires-clause-listed
tell_marked-requires-clause-listed c h some is k encloses there =
    let forest = c.tree-tree.ensures.forest in
    subst (λ (ks : Listing). IsListed ks k) (sym c.tell_trees.ensures.listed)
    (c.requires.above h k some (subst (λ (f : Forest ℕ). has f h ≡ true) forest is) (subst (λ (f : Forest ℕ). Encloses f k h) forest encloses) (subst (λ (f : Forest ℕ). has f k ≡ true) forest there))

pub tell_marked-requires-clause-left : goal.tell_marked-requires-clause-left
tell_marked-requires-clause-left c =
    let d = (goal.at.tell_marked-requires-clause-left c).After-clear in
    left-then c.tree-tree.result.now.forest (is_first c.args.pending.now) (layout_of c.args.self.now) (told c.tell_trees.new.entries) c.clear.new.self.items c.tell_trees.new.moved.items (left d) c.tell_trees.ensures.tells

pub tell_marked-requires-clause-room : goal.tell_marked-requires-clause-room
tell_marked-requires-clause-room c = rw c.tell_trees.ensures.capacity (room (goal.at.tell_marked-requires-clause-room c).After-clear)

pub invariant_of-self : goal.invariant_of-self
invariant_of-self c =
    let self = c.args.self.now in
    let found_room = self.found_room in
    record {
      kept = these_kept self.limits.objects self.entries c.tell_marked.new.entries self.listed.items (c.tell_marked.ensures.listed ∙ c.tell_trees.ensures.listed) self.kept;
      list_room = self.list_room;
      found_room = rw (c.tell_marked.ensures.capacity, c.tell_trees.ensures.capacity, c.clear.ensures.capacity) found_room;
      items_room = self.items_room;
    }

pub returns-clause-tells : goal.returns-clause-tells
returns-clause-tells c =
    let g = c.tree-tree.result.now.forest in
    let m = is_first c.args.pending.now in
    let a = layout_of c.args.self.now in
    let d = told c.tell_marked.new.entries in
    subst (λ (f : Forest ℕ). Tells f m a d [] c.tell_marked.new.moved.items) c.tree-tree.ensures.forest
    (subst (λ (hs : List Handle). Tells g m a d hs c.tell_marked.new.moved.items) c.clear.ensures.items
    (tells-then g m a (told c.tell_trees.new.entries) d c.clear.new.self.items c.tell_trees.new.moved.items c.tell_marked.new.moved.items c.tell_trees.ensures.tells c.tell_marked.ensures.tells))

pub returns-clause-own : goal.returns-clause-own
returns-clause-own c k over = c.tell_marked.ensures.own k (subst (λ (f : Forest ℕ). StandsOver f c.args.marked.now k) (sym c.tree-tree.ensures.forest) over)

pub returns-clause-inside : goal.returns-clause-inside
returns-clause-inside c k i =
    calm-still c.tree-tree.result.now.forest (is_first c.args.pending.now) (told c.tell_trees.new.entries) (told c.tell_marked.new.entries) c.tell_trees.new.moved.items c.tell_marked.new.moved.items k c.tell_marked.ensures.tells
    (c.tell_trees.ensures.own k (subst (λ (f : Forest ℕ). in_trees_at f c.args.tops.now k ≡ true) (sym c.tree-tree.ensures.forest) i))

pub returns-clause-within : goal.returns-clause-within
returns-clause-within c k on off =
    let forest = c.tree-tree.ensures.forest in
    elim (cases_Bool (is_touched (told c.tell_trees.new.entries) k)) [
      | inl still ↦ inl (subst (λ (f : Forest ℕ). StandsOver f c.args.marked.now k) forest (c.tell_marked.ensures.within k still off))
      | inr none ↦ inr (subst (λ (f : Forest ℕ). in_trees_at f c.args.tops.now k ≡ true) forest (c.tell_trees.ensures.within k on none))
    ]
