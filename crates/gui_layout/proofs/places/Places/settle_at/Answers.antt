use Rattle.std.proofs.Common.{◌≡◌, ◌∙◌, ◌≤◌, sym, ap, subst, ℕ, true, inl, inr, Some, option_map, arith}
use Rattle.gui_tree.proofs.Below.{own_tree}
use Rattle.gui_base.specs.Forest.{Forest, has, map_forest, parent_of, size, tree_at}
use Rattle.gui_base.specs.Limits.{Bounds}
use Rattle.gui_store.specs.Views.{scene_of}
use Rattle.gui_tree.specs.Handles.{as_handle}
use Rattle.scene_defs.specs.Scene.{handles_of}
use Rattle.gui_boxes.specs.Frames.{Encloses, IsFrameOf}
use Rattle.gui_boxes.specs.Layouts.{KeepsRest}
use Rattle.gui_layout.specs.Renewed.{AreRenewed, IsRenewed}
use Rattle.gui_layout.specs.Scenes.{scene_box}
use Rattle.gui_boxes.specs.Settled.{known_at, AllFit}
use Rattle.gui_layout.specs.Solved.{limits_of, layout_of}
use Rattle.gui_boxes.specs.Tables.{told}
use Rattle.gui_boxes.specs.Views.{box_at}
use Rattle.gui_boxes.specs.Scrolls.{HoldsScrolls}
use Rattle.gui_layout.proofs.Alike.{distinct-tree, tree-scrolled}
use Rattle.gui_tree.proofs.Parts.{distinct_once}
use Rattle.gui_layout.proofs.Climbing.{is_above}
use Rattle.gui_layout.proofs.Entering.{few, flat}
use Rattle.gui_layout.proofs.Stepping.{lets-stand, root-fills}
use Rattle.gui_boxes.proofs.These.{these_kept}
use Rattle.std.proofs.lemmas.Bool.{cases_Bool, false≢true}
use Rattle.gui_boxes.specs.Pending.{is_pending}
use Rattle.gui_boxes.specs.Touched.{is_touched}
use Rattle.gui_boxes.proofs.Touched.{calm_all}
use Rattle.gui_layout.specs.Calm.{IsCalm, MovesTouched}
use Rattle.gui_layout.specs.SettledBut.{in_marked}
use Rattle.gui_layout.proofs.ClosedUp.{closed_in}
use Rattle.gui_layout.proofs.Ready.{calm-at}
use Rattle.gui_layout.proofs.Readying.{marked-up}
use Rattle.gui_layout.proofs.Stepping.{mark-inside}
use Rattle.gui_layout.proofs.places.Places.settle_at.Goals as goal
use Rattle.gui_layout.proofs.places.Places.settle_at.Goals.{After-frame_of-frame}

pub frame_of-frame-requires-clause-listed : goal.frame_of-frame-requires-clause-listed
frame_of-frame-requires-clause-listed c k encloses there =
    let scene = scene_of c.args.store.now in
    let forest = c.tree-tree.ensures.forest in
    let is : has (handles_of scene.trees) k ≡ true = subst (λ (f : Forest ℕ). has f k ≡ true) forest there in
    c.requires.entries k (subst (λ (f : Forest ℕ). Encloses f k c.args.h.0) forest encloses) k (own_tree (handles_of scene.trees) k is)

pub solve_tree-requires-clause-boxes : goal.solve_tree-requires-clause-boxes
solve_tree-requires-clause-boxes c =
    let scene = scene_of c.args.store.now in
    let u = c.frame_of-frame.result.0.0 in
    let encloses : Encloses (handles_of scene.trees) u c.args.h.0 = subst (λ (g : Forest ℕ). Encloses g u c.args.h.0) c.tree-tree.ensures.forest c.frame_of-frame.ensures.encloses in
    subst (λ (g : Forest ℕ). AreRenewed scene (layout_of c.args.self.now).boxes (tree_at g u)) (sym c.tree-tree.ensures.forest) (c.requires.boxes u encloses)

pub solve_tree-requires-clause-listed : goal.solve_tree-requires-clause-listed
solve_tree-requires-clause-listed c k i =
    let u = c.frame_of-frame.result.0.0 in
    let forest = c.tree-tree.ensures.forest in
    let encloses : Encloses (handles_of (scene_of c.args.store.now).trees) u c.args.h.0 = subst (λ (g : Forest ℕ). Encloses g u c.args.h.0) forest c.frame_of-frame.ensures.encloses in
    c.requires.entries u encloses k (subst (λ (g : Forest ℕ). has (tree_at g u) k ≡ true) forest i)

pub solve_tree-requires-clause-few : goal.solve_tree-requires-clause-few
solve_tree-requires-clause-few c =
    let scene = scene_of c.args.store.now in
    let fits : size (handles_of scene.trees) ≤ scene.limits.objects = few scene c.tree-tree.ensures.valid in
    let objects : c.args.self.now.limits.objects ≡ scene.limits.objects = ap (λ (b : Bounds). b.objects) c.requires.limits in
    let most = c.args.self.now.limits.scene.most_objects in
    rw c.tree-tree.ensures.forest (omega arith)

pub solve_tree-requires-clause-low : goal.solve_tree-requires-clause-low
solve_tree-requires-clause-low c = let low = flat (scene_of c.args.store.now) c.tree-tree.ensures.valid in rw c.tree-tree.ensures.forest (omega arith)

pub solve_tree-requires-clause-enough : goal.solve_tree-requires-clause-enough
solve_tree-requires-clause-enough c =
    let scene = scene_of c.args.store.now in
    let fits : size (handles_of scene.trees) ≤ scene.limits.objects = few scene c.tree-tree.ensures.valid in
    let objects : c.args.self.now.limits.objects ≡ scene.limits.objects = ap (λ (b : Bounds). b.objects) c.requires.limits in
    let room = c.args.self.now.items_room in
    let long = c.as_mut_slice.ensures.len in
    rw c.tree-tree.ensures.forest (omega arith)

-- what lies in the trees above a marked object is looked at
encloses-top : (c : After-frame_of-frame) → Encloses (handles_of (scene_of c.args.store.now).trees) c.frame_of-frame.result.0.0 c.args.h.0
encloses-top c = subst (λ (g : Forest ℕ). Encloses g c.frame_of-frame.result.0.0 c.args.h.0) c.tree-tree.ensures.forest c.frame_of-frame.ensures.encloses

pub solve_tree-requires-clause-calm : goal.solve_tree-requires-clause-calm
solve_tree-requires-clause-calm c =
    let scene = scene_of c.args.store.now in
    let f = handles_of scene.trees in
    let l = layout_of c.args.self.now in
    let m = is_pending c.args.pending.now in
    let h = c.args.h.0 in
    let u = c.frame_of-frame.result.0.0 in
    let forest = c.tree-tree.ensures.forest in
    let encloses = encloses-top (goal.at.solve_tree-requires-clause-calm c).After-frame_of-frame in
    let is : has f u ≡ true = subst (λ (g : Forest ℕ). has g u ≡ true) forest c.frame_of-frame.ensures.there in
    let own = own_tree f h c.requires.there in
    subst (λ (g : Forest ℕ). IsCalm (scene_box scene) l (tree_at g u)) (sym forest)
    (calm-at (scene_box scene) l f (in_marked m scene) m u c.tree-tree.ensures.valid.trees.once is
    (λ k p there looked up. marked-up m k p f (distinct_once f c.tree-tree.ensures.valid.trees.once) there looked up) (λ k i. mark-inside m h u k f c.requires.marked (encloses h own) i) c.requires.ready)

-- and so the object at the top is touched
top-touched : (c : After-frame_of-frame) → is_touched (layout_of c.args.self.now) c.frame_of-frame.result.0.0 ≡ true
top-touched c =
    let f = handles_of (scene_of c.args.store.now).trees in
    let t = is_touched (layout_of c.args.self.now) in
    let u = c.frame_of-frame.result.0.0 in
    let h = c.args.h.0 in
    let is : has f u ≡ true = subst (λ (g : Forest ℕ). has g u ≡ true) c.tree-tree.ensures.forest c.frame_of-frame.ensures.there in
    let once = c.tree-tree.ensures.valid.trees.once in
    let m = is_pending c.args.pending.now in
    let s = in_marked m (scene_of c.args.store.now) in
    let inside : has (tree_at f u) h ≡ true = encloses-top c h (own_tree f h c.requires.there) in
    let closed = closed_in f s t u once (λ k p there looked up. marked-up m k p f (distinct_once f once) there looked up) c.requires.ready.closed (λ k i. mark-inside m h u k f c.requires.marked inside i) in
    elim (cases_Bool (t u)) [ inl on ↦ on | inr none ↦ absurd (false≢true (sym (calm_all t f u is closed none h inside) ∙ c.requires.own)) ]

pub solve_tree-requires-clause-own : goal.solve_tree-requires-clause-own
solve_tree-requires-clause-own c = top-touched (goal.at.solve_tree-requires-clause-own c).After-frame_of-frame

pub returns-clause-top : goal.returns-clause-top
returns-clause-top c = top-touched (goal.at.returns-clause-top c).After-frame_of-frame

pub returns-clause-moves : goal.returns-clause-moves
returns-clause-moves c =
    subst (λ (g : Forest ℕ). MovesTouched (scene_box (scene_of c.args.store.now)) (layout_of c.args.self.now) (told c.solve_tree.new.entries) (tree_at g c.frame_of-frame.result.0.0)) c.tree-tree.ensures.forest c.solve_tree.ensures.moves

pub invariant_of-self : goal.invariant_of-self
invariant_of-self c =
    let self = c.args.self.now in
    let done = c.solve_tree.ensures in
    record {
      kept = these_kept self.limits.objects self.entries c.solve_tree.new.entries self.listed.items done.listed self.kept;
      list_room = self.list_room;
      found_room = self.found_room;
      items_room = self.items_room;
    }

pub returns-clause-solves : goal.returns-clause-solves
returns-clause-solves c =
    let scene = scene_of c.args.store.now in
    let self = c.args.self.now in
    let now = c.solve_tree.new in
    let done = c.solve_tree.ensures in
    let box = scene_box scene in
    let f = handles_of scene.trees in
    let u = c.frame_of-frame.result.0.0 in
    let frame = c.frame_of-frame.result.1 in
    let framed = c.frame_of-frame.ensures in
    let l = layout_of self in
    let m = told now.entries in
    let forest : c.tree-tree.result.now.forest ≡ f = c.tree-tree.ensures.forest in
    let once = c.tree-tree.ensures.valid.trees.once in
    let there : has f u ≡ true = subst (λ (g : Forest ℕ). has g u ≡ true) forest framed.there in
    let encloses : Encloses f u c.args.h.0 = subst (λ (g : Forest ℕ). Encloses g u c.args.h.0) forest framed.encloses in
    let is_frame : IsFrameOf scene.limits (known_at (box_at l.boxes) l) (parent_of f u) frame =
    subst (λ (b : Bounds). IsFrameOf b (known_at (box_at l.boxes) l) (parent_of f u) frame) c.requires.limits
    (subst (λ (g : Forest ℕ). IsFrameOf (limits_of self) (known_at (box_at l.boxes) l) (parent_of g u) frame) forest framed.frame) in
    let renewed : (q : ℕ) → parent_of f u ≡ Some q → IsRenewed scene l.boxes q =
    λ q up.
    let above = is_above f u (as_handle q) once there (sym (ap (option_map as_handle) up)) in
    c.requires.boxes q (λ k i. above.encloses k (encloses k i)) q (own_tree f q above.there) in
    record {
      there = there;
      encloses = encloses;
      fit = subst (λ (g : Forest ℕ). AllFit (map_forest (known_at box m) (tree_at g u))) forest done.fit;
      scrolled = λ k i.
          let distinct = distinct_once f once in
          tree-scrolled box m f u k distinct (distinct-tree f u distinct there) (subst (λ (g : Forest ℕ). HoldsScrolls box m.widths m.natural_heights m.slots m.scrolls (tree_at g u)) forest done.scrolled) i;
      keeps = subst (λ (g : Forest ℕ). KeepsRest l m (tree_at g u)) forest done.others;
      lets = lets-stand scene l.boxes l m u scene.limits frame (parent_of f u) done.stands is_frame renewed;
      fills = root-fills scene l.boxes l m u scene.limits frame (parent_of f u) done.stands is_frame;
      boxes = done.boxes;
      listed = done.listed;
      limits = c.requires.limits ∙ sym c.requires.limits;
    }
