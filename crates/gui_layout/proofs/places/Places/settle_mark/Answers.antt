use Rattle.std.proofs.Common.{◌≡◌, ◌∙◌, sym, subst, ℕ, Bool, true, false, ◌∷◌, []}
use Rattle.gui_tree.proofs.Below.{own_tree}
use Rattle.gui_base.specs.Forest.{Forest, has, tree_at}
use Rattle.gui_store.specs.Views.{scene_of}
use Rattle.scene_defs.specs.Scene.{Scene, handles_of}
use Rattle.gui_boxes.specs.Pending.{is_pending}
use Rattle.gui_layout.proofs.Stepping.{mark-inside, settles-none, settles-one}
use Rattle.gui_layout.proofs.Overs.{scrolls-none, scrolls-one}
use Rattle.gui_layout.proofs.Tops.{solves-none, solves-one}
use Rattle.gui_boxes.specs.Settled.{Layout, known_at}
use Rattle.gui_boxes.specs.Tables.{IsListed, Listing}
use Rattle.gui_boxes.specs.Touched.{IsClosed, is_touched}
use Rattle.gui_boxes.proofs.InTrees.{tree-in}
use Rattle.gui_layout.specs.Scenes.{scene_box}
use Rattle.gui_layout.specs.Moved.{Propagates}
use Rattle.gui_layout.specs.Settles.{Settles}
use Rattle.gui_layout.proofs.Spreading.{propagates-none, propagates-one}
use Rattle.gui_layout.specs.SettledBut.{in_marked}
use Rattle.gui_layout.specs.Solved.{layout_of}
use Rattle.gui_tree.proofs.Parts.{distinct_once}
use Rattle.gui_layout.proofs.Before.{marked-closed}
use Rattle.gui_layout.proofs.Marking.{all-fewer}
use Rattle.gui_layout.proofs.Readying.{ready-then}
use Rattle.gui_layout.proofs.Stepping.{marked-fewer}
use Rattle.gui_layout.proofs.places.Places.settle_mark.Goals as goal
use Rattle.gui_layout.proofs.places.Places.settle_mark.Goals.{After-finish_touched, After-settle_at-top}

pub settle_at-top-requires-clause-boxes : goal.settle_at-top-requires-clause-boxes
settle_at-top-requires-clause-boxes c u encloses k i =
    let f = handles_of (scene_of c.args.store.now).trees in
    let h = c.args.h.0 in
    let there : has f h ≡ true = subst (λ (g : Forest ℕ). has g h ≡ true) c.tree-tree.ensures.forest (sym c.has.ensures ∙ c.if-not-has.false) in
    let own = own_tree f h there in
    c.requires.boxes k (mark-inside (is_pending c.args.pending.now) h u k f (sym c.is_pending.ensures ∙ c.if-not-is_pending.false) (encloses h own) i)

pub settle_at-top-requires-clause-entries : goal.settle_at-top-requires-clause-entries
settle_at-top-requires-clause-entries c u encloses k i =
    let f = handles_of (scene_of c.args.store.now).trees in
    let h = c.args.h.0 in
    let there : has f h ≡ true = subst (λ (g : Forest ℕ). has g h ≡ true) c.tree-tree.ensures.forest (sym c.has.ensures ∙ c.if-not-has.false) in
    let own = own_tree f h there in
    c.requires.entries k (mark-inside (is_pending c.args.pending.now) h u k f (sym c.is_pending.ensures ∙ c.if-not-is_pending.false) (encloses h own) i)

pub settle_at-top-requires-clause-marked : goal.settle_at-top-requires-clause-marked
settle_at-top-requires-clause-marked c = sym c.is_pending.ensures ∙ c.if-not-is_pending.false

pub settle_at-top-requires-clause-own : goal.settle_at-top-requires-clause-own
settle_at-top-requires-clause-own c =
    let there : has (handles_of (scene_of c.args.store.now).trees) c.args.h.0 ≡ true = subst (λ (g : Forest ℕ). has g c.args.h.0 ≡ true) c.tree-tree.ensures.forest (sym c.has.ensures ∙ c.if-not-has.false) in
    c.requires.ready.marked c.args.h.0 there (sym c.is_pending.ensures ∙ c.if-not-is_pending.false)

-- the top's tree is there, and its entries are
module _ (c : After-settle_at-top) where
  abbrev f : Forest ℕ
  f = handles_of (scene_of c.args.store.now).trees

  abbrev u : ℕ
  u = c.settle_at-top.result.0

  abbrev mid : Layout
  mid = layout_of c.settle_at-top.new.self

  abbrev g : Forest ℕ
  g = c.tree-tree.result.now.forest

  forest : g ≡ f
  forest = c.tree-tree.ensures.forest

  pending_h : is_pending c.args.pending.now c.args.h.0 ≡ true
  pending_h = sym c.is_pending.ensures ∙ c.if-not-is_pending.false

  h_there : has f c.args.h.0 ≡ true
  h_there = subst (λ (k : Forest ℕ). has k c.args.h.0 ≡ true) forest (sym c.has.ensures ∙ c.if-not-has.false)

  h_inside : has (tree_at f u) c.args.h.0 ≡ true
  h_inside = c.settle_at-top.ensures.solves.encloses c.args.h.0 (own_tree f c.args.h.0 h_there)

  in_tree : (k : ℕ) → has (tree_at g u) k ≡ true → has (tree_at f u) k ≡ true
  in_tree k i = subst (λ (t : Forest ℕ). has (tree_at t u) k ≡ true) forest i

pub finish_touched-requires-clause-there : goal.finish_touched-requires-clause-there
finish_touched-requires-clause-there c =
    let d = (goal.at.finish_touched-requires-clause-there c).After-settle_at-top in
    subst (λ (k : Forest ℕ). has k (u d) ≡ true) (sym (forest d)) c.settle_at-top.ensures.solves.there

pub finish_touched-requires-clause-listed : goal.finish_touched-requires-clause-listed
finish_touched-requires-clause-listed c k i =
    let d = (goal.at.finish_touched-requires-clause-listed c).After-settle_at-top in
    subst (λ (ks : Listing). IsListed ks k) (sym c.settle_at-top.ensures.solves.listed) (c.requires.entries k (mark-inside (is_pending c.args.pending.now) c.args.h.0 (u d) k (f d) (pending_h d) (h_inside d) (in_tree d k i)))

pub finish_touched-requires-clause-closed : goal.finish_touched-requires-clause-closed
finish_touched-requires-clause-closed c =
    let d = (goal.at.finish_touched-requires-clause-closed c).After-settle_at-top in
    subst (λ (t : Forest ℕ). IsClosed (is_touched (mid d)) (tree_at t (u d))) (sym (forest d)) c.settle_at-top.ensures.moves.closed

pub finish_touched-requires-clause-marked : goal.finish_touched-requires-clause-marked
finish_touched-requires-clause-marked c k i is =
    let d = (goal.at.finish_touched-requires-clause-marked c).After-settle_at-top in
    c.settle_at-top.ensures.moves.more k (c.requires.ready.marked k (tree-in (u d) k (f d) (in_tree d k i)) is)

-- once the marks of the tree are settled
module _ (c : After-finish_touched) where
  abbrev e : After-settle_at-top
  e = (goal.at.After-finish_touched c).After-settle_at-top

  abbrev scene : Scene
  scene = scene_of c.args.store.now

  abbrev m : ℕ → Bool
  m = is_pending c.args.pending.now

  abbrev n : ℕ → Bool
  n = is_pending c.finish_touched.new.pending

  own : (k : ℕ) → has (tree_at (f e) (u e)) k ≡ true → n k ≡ false
  own k i = c.finish_touched.ensures.own k (subst (λ (t : Forest ℕ). has (tree_at t (u e)) k ≡ true) (sym (forest e)) i)

  others : (k : ℕ) → has (tree_at (f e) (u e)) k ≡ false → n k ≡ m k
  others k i = c.finish_touched.ensures.others k (subst (λ (t : Forest ℕ). has (tree_at t (u e)) k ≡ false) (sym (forest e)) i)

  settles : Settles c.args.self.now c.settle_at-top.new.self scene m n
  settles = settles-one scene c.tree-tree.ensures.valid.trees.once c.args.self.now c.settle_at-top.new.self m n c.args.h.0 (u e) (pending_h e) (own_tree (f e) c.args.h.0 (h_there e)) c.settle_at-top.ensures.solves own others

  moves : Propagates (scene_box scene) (f e) (in_marked m scene) (layout_of c.args.self.now) (mid e) (c.settle_at-top.result ∷ [])
  moves =
      propagates-one (scene_box scene) (f e) (in_marked m scene) c.tree-tree.ensures.valid.trees.once (layout_of c.args.self.now) (mid e) c.settle_at-top.result c.settle_at-top.ensures.moves c.settle_at-top.ensures.top
      (λ k i. mark-inside m c.args.h.0 (u e) k (f e) (pending_h e) (h_inside e) i)

pub returns-then-not-is_pending-clause-settles : goal.returns-then-not-is_pending-clause-settles
returns-then-not-is_pending-clause-settles c = settles-none (scene_of c.args.store.now) c.args.self.now (is_pending c.args.pending.now)

pub returns-then-not-has-clause-settles : goal.returns-then-not-has-clause-settles
returns-then-not-has-clause-settles c = settles-none (scene_of c.args.store.now) c.args.self.now (is_pending c.args.pending.now)

pub returns-then-not-is_pending-clause-solves : goal.returns-then-not-is_pending-clause-solves
returns-then-not-is_pending-clause-solves c = solves-none (scene_of c.args.store.now) c.args.self.now (is_pending c.args.pending.now)

pub returns-then-not-has-clause-solves : goal.returns-then-not-has-clause-solves
returns-then-not-has-clause-solves c = solves-none (scene_of c.args.store.now) c.args.self.now (is_pending c.args.pending.now)

pub returns-then-not-is_pending-clause-scrolls : goal.returns-then-not-is_pending-clause-scrolls
returns-then-not-is_pending-clause-scrolls c = scrolls-none (scene_of c.args.store.now) c.args.self.now (is_pending c.args.pending.now)

pub returns-then-not-has-clause-scrolls : goal.returns-then-not-has-clause-scrolls
returns-then-not-has-clause-scrolls c = scrolls-none (scene_of c.args.store.now) c.args.self.now (is_pending c.args.pending.now)

pub returns-then-not-is_pending-clause-moves : goal.returns-then-not-is_pending-clause-moves
returns-then-not-is_pending-clause-moves c =
    let scene = scene_of c.args.store.now in
    propagates-none (scene_box scene) (handles_of scene.trees) (in_marked (is_pending c.args.pending.now) scene) (layout_of c.args.self.now)

pub returns-then-not-has-clause-moves : goal.returns-then-not-has-clause-moves
returns-then-not-has-clause-moves c =
    let scene = scene_of c.args.store.now in
    propagates-none (scene_box scene) (handles_of scene.trees) (in_marked (is_pending c.args.pending.now) scene) (layout_of c.args.self.now)

pub returns-clause-scrolls : goal.returns-clause-scrolls
returns-clause-scrolls c =
    let d = (goal.at.returns-clause-scrolls c).After-settle_at-top in
    scrolls-one (scene_of c.args.store.now) c.tree-tree.ensures.valid.trees.once c.args.self.now c.settle_at-top.new.self (is_pending c.args.pending.now) c.args.h.0 c.settle_at-top.result (pending_h d) (h_there d) c.settle_at-top.ensures.solves

pub returns-clause-solves : goal.returns-clause-solves
returns-clause-solves c =
    let d = (goal.at.returns-clause-solves c).After-finish_touched in
    solves-one (scene_of c.args.store.now) c.args.self.now c.settle_at-top.new.self (m d) (n d) c.args.h.0 c.settle_at-top.result c.settle_at-top.ensures.solves (others d)

pub returns-clause-settles : goal.returns-clause-settles
returns-clause-settles c = settles (goal.at.returns-clause-settles c).After-finish_touched

pub returns-clause-moves : goal.returns-clause-moves
returns-clause-moves c = moves (goal.at.returns-clause-moves c).After-finish_touched

pub returns-clause-own : goal.returns-clause-own
returns-clause-own c there =
    let d = (goal.at.returns-clause-own c).After-finish_touched in
    own d c.args.h.0 (c.settle_at-top.ensures.solves.encloses c.args.h.0 (own_tree (handles_of (scene_of c.args.store.now).trees) c.args.h.0 there))

pub returns-clause-ready : goal.returns-clause-ready
returns-clause-ready c =
    let d = (goal.at.returns-clause-ready c).After-finish_touched in
    let g = f (e d) in
    let once = c.tree-tree.ensures.valid.trees.once in
    let was = c.requires.ready in
    let fewer : (k : ℕ) → in_marked (n d) (scene d) k ≡ true → in_marked (m d) (scene d) k ≡ true = λ k i. marked-fewer (m d) (n d) k g (settles d).fewer i in
    ready-then (scene_box (scene d)) g once (layout_of c.args.self.now) (mid (e d)) (in_marked (m d) (scene d)) (in_marked (n d) (scene d)) (m d) (n d) (u (e d)) c.settle_at-top.ensures.moves c.settle_at-top.ensures.top
    (moves d).closed (own d) (others d) fewer (λ j k looked kid. marked-closed (m d) k j g (distinct_once g once) looked kid)
    was (all-fewer (in_marked (m d) (scene d)) (in_marked (n d) (scene d)) (n d) (known_at (scene_box (scene d)) (mid (e d))) g fewer ((settles d).fit (in_marked (m d) (scene d)) was.fit)) c.settle_at-top.ensures.solves.scrolled
