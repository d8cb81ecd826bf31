use Rattle.std.proofs.Common.{None, ◌≡◌, ◌<◌, ◌≤◌, ◌∙◌, sym, ap, subst, ℕ, eqb, ◌||◌, true, false, inl, inr, arith, rules}
use Rattle.std.proofs.lemmas.Bool.{both_ways, cases_Bool, eqb-true, false≢true}
use Rattle.gui_base.specs.Forest.{Forest, Tree, children_of, size}
use Rattle.gui_layout.specs.Marked.{is_root}
use Rattle.gui_store.specs.Views.{scene_of}
use Rattle.gui_tree.specs.Walks.{Walk}
use Rattle.gui_tree.proofs.Steps.{IsChild, child_in}
use Rattle.scene_defs.specs.Scene.{handles_of}
use Rattle.gui_change.specs.Sees.{IsSeenIn, KnowsShown}
use Rattle.gui_change.proofs.Downward.{none-down, open-down, then-down}
use Rattle.gui_change.proofs.Kids.{parent-child}
use Rattle.gui_change.proofs.SeenAgain.{shown-still}
use Rattle.gui_change.proofs.down.+see_heads.Goals as goal
use Rattle.gui_change.proofs.down.+see_heads.Goals.{After-children, In-Some}

child : (t : ℕ) (c : In-Some t) → IsChild (handles_of (scene_of c.args.after.now.store.now).trees) c.loop-h.h-iterator c.in-Some.h.0 c.next.new.self
child t c = child_in (handles_of (scene_of c.args.after.now.store.now).trees) c.loop-h.h-iterator c.next.new.self c.in-Some.h.0 c.loop-h.invariant.same c.in-Some.ensures.steps

-- the children that are seen next
kids : (t : ℕ) (c : After-children t) → c.children.result.left ≡ children_of (handles_of (scene_of c.args.after.now.store.now).trees) c.in-Some.h.0
kids t c = ap (λ (w : Walk). w.left) c.children.ensures.walk ∙ ap (λ (f : Forest ℕ). children_of f c.in-Some.h.0) c.tree-tree.ensures.forest

known-here : (t : ℕ) (c : In-Some t) → KnowsShown c.loop-h.table (scene_of c.args.after.now.store.now)
known-here t c = shown-still (scene_of c.args.after.now.store.now) c.args.table.now c.loop-h.table c.loop-h.invariant.down.sees.listing c.requires.shown

pub loop-h-init : goal.loop-h-init
loop-h-init t c = rw c.into_iter-h-iterator.ensures.into_iter_gives (record {
  nearby = c.requires.nearby;
  same = c.requires.same;
  fewer = omega arith;
  down = none-down (scene_of c.args.after.now.store.now) c.args.table.now c.args.damage.now;
  heads = λ k is. inl is;
})

pub see_here-requires-clause-shown : goal.see_here-requires-clause-shown
see_here-requires-clause-shown t c = known-here t (goal.at.see_here-requires-clause-shown t c).In-Some

pub see_heads-requires : goal.see_heads-requires
see_heads-requires t c =
    let d = (goal.at.see_heads-requires t c).In-Some in
    let g = child t d in
    let scene = scene_of c.args.after.now.store.now in
    let inv = c.loop-h.invariant in
    let below : c.children.result.left ≡ g.children = kids t (goal.at.see_heads-requires t c).After-children ∙ g.below in
    let fewer : size (Tree c.in-Some.h.0 g.children c.next.new.self.left) ≤ size c.args.trees.left = rw g.left at inv.fewer in
    let smaller : size c.children.result.left < size c.args.trees.left = rw below (omega arith) in
    let same = ap (λ (w : Walk). w.forest) c.children.ensures.walk ∙ c.tree-tree.ensures.forest in
    let kept = c.see_here.ensures.sees.keeps c.args.after.now.painted (inv.down.sees.keeps c.args.after.now.painted c.requires.known) in
    let shown = shown-still scene c.loop-h.table c.see_here.new.table c.see_here.ensures.sees.listing (known-here t d) in
    (search rules, (c.see_here.ensures.nearby, (same, (kept, shown))))

-- the next head is seen
module _ (t : ℕ) (c : In-Some t) where
  next-heads : (k : ℕ) → is_root k c.loop-h.h-iterator.left ≡ true → eqb c.in-Some.h.0 k ≡ false → is_root k c.next.new.self.left ≡ true
  next-heads k is other =
      let g = child t c in
      let all : (eqb c.in-Some.h.0 k || is_root k c.next.new.self.left) ≡ true = rw g.left at is in
      rw other at all

pub loop-h-preserved-then-see_here : goal.loop-h-preserved-then-see_here
loop-h-preserved-then-see_here t c =
    let d = (goal.at.loop-h-preserved-then-see_here t c).In-Some in
    let scene = scene_of c.args.after.now.store.now in
    let f = handles_of scene.trees in
    let h = c.in-Some.h.0 in
    let g = child t d in
    let inv = c.loop-h.invariant in
    let fewer : size (Tree h g.children c.next.new.self.left) ≤ size c.args.trees.left = rw g.left at inv.fewer in
    let below = c.see_heads.ensures.down in
    let left = kids t (goal.at.loop-h-preserved-then-see_here t c).After-children in
    let now = open-down None scene c.loop-h.table c.see_here.new.table c.see_heads.new.table c.loop-h.damage c.see_here.new.damage c.see_heads.new.damage h c.see_here.ensures.sees c.see_here.ensures.own c.see_here.ensures.rest below
    (λ moved k up. c.see_heads.ensures.heads k (ap (λ (u : Forest ℕ). is_root k u) left ∙ parent-child f k h c.tree-tree.ensures.valid.trees.once up)) in
    let own : IsSeenIn c.see_heads.new.table scene h = below.sees.seen h c.see_here.ensures.own in
    record {
      nearby = c.see_heads.ensures.nearby;
      same = g.forest;
      fewer = omega (arith, fewer);
      down = then-down None scene c.args.table.now c.loop-h.table c.see_heads.new.table c.args.damage.now c.loop-h.damage c.see_heads.new.damage inv.down now;
      heads = λ k is. elim (inv.heads k is) [
        | inl later ↦ elim (cases_Bool (eqb h k)) [
          | inl same ↦ inr (subst (λ (n : ℕ). IsSeenIn c.see_heads.new.table scene n) (eqb-true h k same) own)
          | inr other ↦ inl (next-heads t d k later other)
        ]
        | inr done ↦ inr (now.sees.seen k done)
      ];
    }

pub loop-h-preserved : goal.loop-h-preserved
loop-h-preserved t c =
    let d = (goal.at.loop-h-preserved t c).In-Some in
    let scene = scene_of c.args.after.now.store.now in
    let h = c.in-Some.h.0 in
    let g = child t d in
    let inv = c.loop-h.invariant in
    let fewer : size (Tree h g.children c.next.new.self.left) ≤ size c.args.trees.left = rw g.left at inv.fewer in
    let now = open-down None scene c.loop-h.table c.see_here.new.table c.see_here.new.table c.loop-h.damage c.see_here.new.damage c.see_here.new.damage h c.see_here.ensures.sees c.see_here.ensures.own c.see_here.ensures.rest
    (none-down scene c.see_here.new.table c.see_here.new.damage) (λ moved k up. absurd (both_ways _ moved (c.see_here.ensures.same c.if-see_here.false))) in
    record {
      nearby = c.see_here.ensures.nearby;
      same = g.forest;
      fewer = omega (arith, fewer);
      down = then-down None scene c.args.table.now c.loop-h.table c.see_here.new.table c.args.damage.now c.loop-h.damage c.see_here.new.damage inv.down now;
      heads = λ k is. elim (inv.heads k is) [
        | inl later ↦ elim (cases_Bool (eqb h k)) [
          | inl same ↦ inr (subst (λ (n : ℕ). IsSeenIn c.see_here.new.table scene n) (eqb-true h k same) c.see_here.ensures.own)
          | inr other ↦ inl (next-heads t d k later other)
        ]
        | inr done ↦ inr (now.sees.seen k done)
      ];
    }

pub returns-clause-heads : goal.returns-clause-heads
returns-clause-heads t c k is = elim (c.loop-h.invariant.heads k is) [
  | inl later ↦ absurd (false≢true (ap (is_root k) (sym c.in-None.ensures.steps.0) ∙ later))
  | inr done ↦ done
]

pub returns-clause-nearby : goal.returns-clause-nearby
returns-clause-nearby t c = c.loop-h.invariant.nearby
