use Rattle.std.proofs.Common.{◌≡◌, ◌∙◌, refl, sym, ap, subst, ℕ, ◌||◌, eqb, true, false, None, inl, inr}
use Rattle.std.proofs.lemmas.Bool.{eqb-true, false≢true, or_cases, or_left, or_right}
use Rattle.gui_base.specs.Forest.{Forest, children_of, has, tree_at}
use Rattle.gui_store.specs.Views.{scene_of}
use Rattle.gui_tree.specs.Walks.{Walk}
use Rattle.gui_tree.proofs.Below.{tree_is}
use Rattle.gui_tree.proofs.Steps.{IsChild, child_in}
use Rattle.scene_defs.specs.Scene.{handles_of, is_there}
use Rattle.gui_change.specs.Sees.{IsSeenIn}
use Rattle.gui_change.proofs.Downward.{none-down}
use Rattle.gui_change.proofs.SeenAgain.{hidden-again, shown-still, then-again}
use Rattle.gui_change.proofs.SeenBelow.{below-tree, gone-below, gone-unknown}
use Rattle.gui_change.proofs.seeing.see_beneath.Goals as goal
use Rattle.gui_change.proofs.seeing.see_beneath.Goals.{In-Some}

-- the children are those of the scene's object
kids : (f g : Forest ℕ) (h : ℕ) → f ≡ g → children_of f h ≡ children_of g h
kids f g h same = ap (λ (t : Forest ℕ). children_of t h) same

pub returns-then-not-has-clause-sees : goal.returns-then-not-has-clause-sees
returns-then-not-has-clause-sees c =
    let scene = scene_of c.args.after.now.store.now in
    let gone : is_there scene c.args.h.0 ≡ false = ap (λ (f : Forest ℕ). has f c.args.h.0) (sym c.tree-tree.ensures.forest) ∙ (sym c.has.ensures ∙ c.if-not-has.true) in
    hidden-again scene None c.args.table.now c.requires.shown c.args.h.0 (λ k off. refl) c.args.damage.now (gone-unknown scene c.tree-tree.ensures.valid c.args.h.0 c.args.table.now c.requires.shown gone)

pub returns-then-not-has-clause-all : goal.returns-then-not-has-clause-all
returns-then-not-has-clause-all c =
    let scene = scene_of c.args.after.now.store.now in
    let gone : is_there scene c.args.h.0 ≡ false = ap (λ (f : Forest ℕ). has f c.args.h.0) (sym c.tree-tree.ensures.forest) ∙ (sym c.has.ensures ∙ c.if-not-has.true) in
    gone-below scene c.tree-tree.ensures.valid c.args.h.0 c.args.table.now c.requires.shown gone

pub loop-child-init : goal.loop-child-init
loop-child-init c =
    let walk = c.children-child-items.ensures.walk in
    let left = ap (λ (w : Walk). w.left) walk ∙ kids c.tree-tree.result.now.forest (handles_of (scene_of c.args.after.now.store.now).trees) c.args.h.0 c.tree-tree.ensures.forest in
    rw c.into_iter-child-iterator.ensures.into_iter_gives (record {
      room = c.requires.room;
      same = ap (λ (w : Walk). w.forest) walk ∙ c.tree-tree.ensures.forest;
      sees = (none-down (scene_of c.args.after.now.store.now) c.args.table.now c.args.damage.now).sees;
      done = λ k inside. inl (ap (λ (f : Forest ℕ). has f k) left ∙ inside);
    })

child : (c : In-Some) → IsChild (handles_of (scene_of c.args.after.now.store.now).trees) c.loop-child.child-iterator c.in-Some.child.0 c.next.new.self
child c = child_in (handles_of (scene_of c.args.after.now.store.now).trees) c.loop-child.child-iterator c.next.new.self c.in-Some.child.0 c.loop-child.invariant.same c.in-Some.ensures.steps

pub see_tree-requires-clause-known : goal.see_tree-requires-clause-known
see_tree-requires-clause-known c = c.loop-child.invariant.sees.keeps c.args.after.now.painted c.requires.known

pub see_tree-requires-clause-shown : goal.see_tree-requires-clause-shown
see_tree-requires-clause-shown c = shown-still (scene_of c.args.after.now.store.now) c.args.table.now c.loop-child.table c.loop-child.invariant.sees.listing c.requires.shown

pub see_tree-requires-clause-there : goal.see_tree-requires-clause-there
see_tree-requires-clause-there c = (child (goal.at.see_tree-requires-clause-there c).In-Some).there

pub loop-child-preserved : goal.loop-child-preserved
loop-child-preserved c =
    let d = (goal.at.loop-child-preserved c).In-Some in
    let scene = scene_of c.args.after.now.store.now in
    let f = handles_of scene.trees in
    let u = c.in-Some.child.0 in
    let g = child d in
    let inv = c.loop-child.invariant in
    record {
      room = c.see_tree.ensures.room;
      same = g.forest;
      sees = then-again None scene c.args.table.now c.loop-child.table c.see_tree.new.table c.args.damage.now c.loop-child.damage c.see_tree.new.damage inv.sees c.see_tree.ensures.sees;
      done = λ k inside. elim (inv.done k inside) [
        | inl later ↦
            let all : (eqb u k || (has g.children k || has c.next.new.self.left k)) ≡ true = rw g.left at later in
            let in-tree : has (tree_at f u) k ≡ true → IsSeenIn c.see_tree.new.table scene k = c.see_tree.ensures.all k in
            elim (or_cases (eqb u k) (has g.children k || has c.next.new.self.left k) all) [
              | inl own ↦ inr (in-tree (ap (λ (t : Forest ℕ). has t k) g.tree ∙ or_left (eqb u k) (has g.children k || false) own))
              | inr rest ↦ elim (or_cases (has g.children k) (has c.next.new.self.left k) rest) [
                | inl below ↦ inr (in-tree (ap (λ (t : Forest ℕ). has t k) g.tree ∙ or_right (eqb u k) (has g.children k || false) (or_left (has g.children k) false below)))
                | inr beside ↦ inl beside
              ]
            ]
        | inr seen ↦ inr (c.see_tree.ensures.sees.seen k seen)
      ];
    }

pub returns-clause-all : goal.returns-clause-all
returns-clause-all c k below =
    let scene = scene_of c.args.after.now.store.now in
    let f = handles_of scene.trees in
    let h = c.args.h.0 in
    let there : is_there scene h ≡ true = ap (λ (t : Forest ℕ). has t h) (sym c.tree-tree.ensures.forest) ∙ (sym c.has.ensures ∙ c.if-not-has.false) in
    let inside : (eqb h k || (has (children_of f h) k || false)) ≡ true = ap (λ (t : Forest ℕ). has t k) (sym (tree_is f h there)) ∙ below-tree scene c.tree-tree.ensures.valid h there k below in
    elim (or_cases (eqb h k) (has (children_of f h) k || false) inside) [
      | inl own ↦ subst (IsSeenIn c.loop-child.table scene) (eqb-true h k own) (c.loop-child.invariant.sees.seen h c.requires.own)
      | inr in-kids ↦ elim (or_cases (has (children_of f h) k) false in-kids) [
        | inl kid ↦ elim (c.loop-child.invariant.done k kid) [
          | inl later ↦ absurd (false≢true (ap (λ (t : Forest ℕ). has t k) (sym c.in-None.ensures.steps.0) ∙ later))
          | inr seen ↦ seen
        ]
        | inr nothing ↦ absurd (false≢true nothing)
      ]
    ]
