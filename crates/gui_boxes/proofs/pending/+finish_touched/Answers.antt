use Rattle.std.proofs.Common.{◌≡◌, ◌∙◌, sym, subst, ℕ, Bool, true, false, eqb, rules}
use Rattle.std.proofs.lemmas.Bool.{both_ways, eqb-true, false≢true, false_from_ne_true, or_left, or_right}
use Rattle.gui_base.specs.Forest.{Forest, Empty, Tree, children_of, has, tree_at}
use Rattle.gui_tree.proofs.Below.{begins_below, own_tree, steps_below, tree_is, whole_tree}
use Rattle.gui_boxes.specs.Pending.{is_pending}
use Rattle.gui_boxes.specs.Tables.{AreListed, listing_of, told}
use Rattle.gui_boxes.specs.Touched.{is_touched, IsClosed}
use Rattle.gui_boxes.proofs.Rests.{Clears, clears_none, clears_first, clears_top}
use Rattle.gui_boxes.proofs.Each.{tree_first}
use Rattle.gui_boxes.proofs.Keeps.{elsewhere}
use Rattle.gui_boxes.proofs.Touched.{calm_all, closed_kids}
use Rattle.gui_boxes.proofs.pending.+finish_touched.Goals as goal
use Rattle.gui_boxes.proofs.pending.+finish_touched.Goals.{In-None}

pub is_touched-requires : goal.is_touched-requires
is_touched-requires t c = c.requires.listed c.args.h.0 (own_tree c.args.tree.now.forest c.args.h.0 c.requires.there)

pub loop-child-init : goal.loop-child-init
loop-child-init t c =
    let f = c.args.tree.now.forest in
    let h = c.args.h.0 in
    let now = told c.args.entries.now in
    let out = (whole_tree f h c.children-child-items.ensures.once c.requires.there).out in
    let other : (k : ℕ) → has (children_of f h) k ≡ true → eqb h k ≡ false =
    λ k i. false_from_ne_true (eqb h k) (λ e. both_ways _ out (subst (λ m. has (children_of f h) m ≡ true) (sym (eqb-true h k e)) i)) in
    let inside : (k : ℕ) → has (children_of f h) k ≡ true → has (tree_at f h) k ≡ true =
    λ k i. subst (λ (g : Forest ℕ). has g k ≡ true) (sym (tree_is f h c.requires.there)) (or_right (eqb h k) _ (or_left (has (children_of f h) k) _ i)) in
    let begins = begins_below f h _ (c.into_iter-child-iterator.ensures.into_iter_gives ∙ c.children-child-items.ensures.walk) in
    record {
      below = begins.is;
      marks = c.finish.ensures.listed;
      first = c.finish.ensures.first;
      closed = rw begins.all (closed_kids (is_touched now) f h c.requires.there c.requires.closed);
      marked = λ k i is.
          let j : has (children_of f h) k ≡ true = subst (λ (g : Forest ℕ). has g k ≡ true) begins.all i in
          c.requires.marked k (inside k j) (sym (c.finish.ensures.rest k (other k j)) ∙ is);
      pending = λ (u : ℕ → Bool) clears. subst (Clears (is_pending c.finish.new.pending) u) begins.all clears;
    }

pub finish_touched-requires : goal.finish_touched-requires
finish_touched-requires t c =
    let inv = c.loop-child.invariant in
    let f = c.args.tree.now.forest in
    let touched = is_touched (told c.args.entries.now) in
    let trees = c.next.new.self.left in
    let g = steps_below f c.args.h.0 _ _ _ inv.below c.in-Some.ensures.steps in
    let h = c.in-Some.child.0 in
    let fewer = g.fewer in
    let listed : AreListed (listing_of c.args.entries.now) (tree_at f h) = λ k i. c.requires.listed k (g.inside k i) in
    let closed : IsClosed touched (Tree h g.children trees) = subst (IsClosed touched) g.left inv.closed in
    let among : (k : ℕ) → has (tree_at f h) k ≡ true → has c.loop-child.child-iterator.left k ≡ true =
    λ k i. subst (λ (g : Forest ℕ). has g k ≡ true) (sym g.left) (tree_first h g.children trees k (subst (λ (g : Forest ℕ). has g k ≡ true) g.tree i)) in
    (search rules, (g.there, (listed, (subst (IsClosed touched) (sym g.tree) (closed.0, closed.1, tt), λ k i is. inv.marked k (among k i) is))))

pub loop-child-preserved : goal.loop-child-preserved
loop-child-preserved t c =
    let inv = c.loop-child.invariant in
    let done = c.finish_touched.ensures in
    let f = c.args.tree.now.forest in
    let trees = c.next.new.self.left in
    let g = steps_below f c.args.h.0 _ _ _ inv.below c.in-Some.ensures.steps in
    let h = c.in-Some.child.0 in
    let a = is_touched (told c.args.entries.now) in
    let p = is_pending c.loop-child.pending in
    let q = is_pending c.finish_touched.new.pending in
    let clears : Clears p q (Tree h g.children Empty) = subst (Clears p q) g.tree (record { none = done.own; others = done.others }) in
    let out : (k : ℕ) → has trees k ≡ true → has (Tree h g.children Empty) k ≡ false = λ k i. false_from_ne_true (has (Tree h g.children Empty) k) (λ j. elsewhere h g.children trees g.once k j i) in
    let ahead : IsClosed a (Tree h g.children trees) = subst (IsClosed a) g.left inv.closed in
    record {
      below = g.is;
      marks = done.marks ∙ inv.marks;
      first = λ k. done.first k ∙ inv.first k;
      closed = ahead.2;
      marked = λ k i is.
          let j : has c.loop-child.child-iterator.left k ≡ true = subst (λ (g : Forest ℕ). has g k ≡ true) (sym g.left) (or_right (eqb h k) _ (or_right (has g.children k) _ i)) in
          inv.marked k j (sym (clears.others k (out k i)) ∙ is);
      pending = λ (u : ℕ → Bool) later. inv.pending u (subst (Clears p u) (sym g.left) (clears_first p q u h g.children trees g.once clears later));
    }

all_pending : (t : ℕ) (c : In-None t) → Clears (is_pending c.args.pending.now) (is_pending c.loop-child.pending) (tree_at c.args.tree.now.forest c.args.h.0)
all_pending t c =
    let f = c.args.tree.now.forest in
    let top = c.args.h.0 in
    let u = is_pending c.loop-child.pending in
    let out = (whole_tree f top c.children-child-items.ensures.once c.requires.there).out in
    subst (Clears (is_pending c.args.pending.now) u) (sym (tree_is f top c.requires.there))
    (clears_top (is_pending c.args.pending.now) (is_pending c.finish.new.pending) u top (children_of f top) out c.finish.ensures.own c.finish.ensures.rest (c.loop-child.invariant.pending u (rw c.in-None.ensures.steps.0 (clears_none u))))

pub returns-clause-own : goal.returns-clause-own
returns-clause-own t c = (all_pending t (goal.at.returns-clause-own t c).In-None).none

pub returns-clause-others : goal.returns-clause-others
returns-clause-others t c = (all_pending t (goal.at.returns-clause-others t c).In-None).others

-- an object that is not touched
pub returns-then-not-is_touched-clause-own : goal.returns-then-not-is_touched-clause-own
returns-then-not-is_touched-clause-own t c =
    let touched = is_touched (told c.args.entries.now) in
    let none : touched c.args.h.0 ≡ false = search rules in
    λ k i. false_from_ne_true (is_pending c.args.pending.now k) (λ is. false≢true (sym (calm_all touched c.args.tree.now.forest c.args.h.0 c.requires.there c.requires.closed none k i) ∙ c.requires.marked k i is))
