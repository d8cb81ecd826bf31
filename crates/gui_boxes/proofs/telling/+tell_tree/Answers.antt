use Rattle.std.proofs.Common.{◌≡◌, ◌∙◌, sym, subst, ℕ, Bool, true, false, eqb, rules, arith}
use Rattle.std.proofs.lemmas.Bool.{both_ways, eqb-true, false_from_ne_true}
use Rattle.gui_base.specs.Forest.{Forest, Empty, Tree, children_of, has, tree_at}
use Rattle.gui_tree.proofs.Below.{begins_below, own_tree, steps_below, tree_is, whole_tree}
use Rattle.gui_boxes.specs.Pending.{is_first}
use Rattle.gui_boxes.specs.Tables.{AreListed, IsListed, Listing, listing_of, told}
use Rattle.gui_boxes.specs.Telling.{ListsLeft, Tells}
use Rattle.gui_boxes.specs.Touched.{is_touched, IsClosed}
use Rattle.gui_boxes.proofs.Adding.{left-fewer}
use Rattle.gui_boxes.proofs.Rests.{Clears, clears_none, clears_first, clears_top}
use Rattle.gui_boxes.proofs.Keeps.{elsewhere}
use Rattle.gui_boxes.proofs.Reports.{left-then, tells-none, tells-one, tells-then}
use Rattle.gui_boxes.proofs.Touched.{calm_all, closed_agree, closed_kids}
use Rattle.gui_boxes.proofs.telling.+tell_tree.Goals as goal
use Rattle.gui_boxes.proofs.telling.+tell_tree.Goals.{After-tell, In-None}

pub is_touched-requires : goal.is_touched-requires
is_touched-requires t c = c.requires.listed c.args.h.0 (own_tree c.args.tree.now.forest c.args.h.0 c.requires.there)

pub tell-requires-clause-listed : goal.tell-requires-clause-listed
tell-requires-clause-listed t c = c.requires.listed c.args.h.0 (own_tree c.args.tree.now.forest c.args.h.0 c.requires.there)

-- a touched object that is there is not listed yet, so fewer are than there are objects
pub tell-requires-clause-room : goal.tell-requires-clause-room
tell-requires-clause-room t c =
    let f = c.args.tree.now.forest in
    let left = c.requires.left in
    let on : is_touched (told c.args.entries.now) c.args.h.0 ≡ true = search rules in
    let fewer = left-fewer c.args.moved.now.items c.args.h f left.once left.there c.requires.there (left.left c.args.h.0 on) in
    let room = c.requires.room in
    omega arith

-- the object itself is told
module _ (t : ℕ) (c : After-tell t) where
  abbrev f : Forest ℕ
  f = c.args.tree.now.forest

  abbrev h : ℕ
  h = c.args.h.0

  first : Tells f (is_first c.args.pending.now) (told c.args.entries.now) (told c.tell.new.entries) c.args.moved.now.items c.tell.new.moved.items
  first = tells-one f (is_first c.args.pending.now) (told c.args.entries.now) (told c.tell.new.entries) c.args.moved.now.items c.tell.new.moved.items h c.requires.there c.tell.ensures.own c.tell.ensures.others c.tell.ensures.rest

  let_own : is_touched (told c.tell.new.entries) h ≡ false
  let_own = c.tell.ensures.own.rests.untouched

  let_others : (k : ℕ) → eqb h k ≡ false → is_touched (told c.tell.new.entries) k ≡ is_touched (told c.args.entries.now) k
  let_others k other = (c.tell.ensures.others k other).touched

pub loop-child-init : goal.loop-child-init
loop-child-init t c =
    let f = c.args.tree.now.forest in
    let h = c.args.h.0 in
    let was = told c.args.entries.now in
    let d = (goal.at.loop-child-init t c).After-tell in
    let out = (whole_tree f h c.children-child-items.ensures.once c.requires.there).out in
    let other : (k : ℕ) → has (children_of f h) k ≡ true → eqb h k ≡ false =
    λ k i. false_from_ne_true (eqb h k) (λ e. both_ways _ out (subst (λ m. has (children_of f h) m ≡ true) (sym (eqb-true h k e)) i)) in
    let begins = begins_below f h _ (c.into_iter-child-iterator.ensures.into_iter_gives ∙ c.children-child-items.ensures.walk) in
    let begun = is_touched (told c.tell.new.entries) in
    record {
      below = begins.is;
      listed = c.tell.ensures.listed;
      capacity = c.tell.ensures.capacity;
      tells = first t d;
      closed = rw begins.all (closed_agree (is_touched was) begun (children_of f h) (λ k i. let_others t d k (other k i)) (closed_kids (is_touched was) f h c.requires.there c.requires.closed));
      touched = λ (u : ℕ → Bool) clears. subst (Clears begun u) begins.all clears;
    }

pub tell_tree-requires : goal.tell_tree-requires
tell_tree-requires t c =
    let inv = c.loop-child.invariant in
    let f = c.args.tree.now.forest in
    let touched = is_touched (told c.loop-child.entries) in
    let trees = c.next.new.self.left in
    let g = steps_below f c.args.h.0 _ _ _ inv.below c.in-Some.ensures.steps in
    let h = c.in-Some.child.0 in
    let fewer = g.fewer in
    let listed : AreListed (listing_of c.loop-child.entries) (tree_at f h) = λ k i. subst (λ (ks : Listing). IsListed ks k) (sym inv.listed) (c.requires.listed k (g.inside k i)) in
    let closed : IsClosed touched (Tree h g.children trees) = subst (IsClosed touched) g.left inv.closed in
    let tree : IsClosed touched (tree_at f h) = subst (IsClosed touched) (sym g.tree) (closed.0, closed.1, tt) in
    let left : ListsLeft f touched c.loop-child.moved.items = left-then f (is_first c.args.pending.now) (told c.args.entries.now) (told c.loop-child.entries) c.args.moved.now.items c.loop-child.moved.items c.requires.left inv.tells in
    let capacity = inv.capacity in
    let room = c.requires.room in
    (search rules, (g.there, (listed, (tree, (left, omega arith)))))

pub loop-child-preserved : goal.loop-child-preserved
loop-child-preserved t c =
    let inv = c.loop-child.invariant in
    let done = c.tell_tree.ensures in
    let f = c.args.tree.now.forest in
    let trees = c.next.new.self.left in
    let g = steps_below f c.args.h.0 _ _ _ inv.below c.in-Some.ensures.steps in
    let h = c.in-Some.child.0 in
    let a = is_touched (told c.loop-child.entries) in
    let b = is_touched (told c.tell_tree.new.entries) in
    let clears_touched : Clears a b (Tree h g.children Empty) = subst (Clears a b) g.tree (record { none = done.rests; others = done.others }) in
    let out : (k : ℕ) → has trees k ≡ true → has (Tree h g.children Empty) k ≡ false = λ k i. false_from_ne_true (has (Tree h g.children Empty) k) (λ j. elsewhere h g.children trees g.once k j i) in
    let ahead : IsClosed a (Tree h g.children trees) = subst (IsClosed a) g.left inv.closed in
    record {
      below = g.is;
      listed = done.listed ∙ inv.listed;
      capacity = done.capacity ∙ inv.capacity;
      tells = tells-then f (is_first c.args.pending.now) (told c.args.entries.now) (told c.loop-child.entries) (told c.tell_tree.new.entries) c.args.moved.now.items c.loop-child.moved.items c.tell_tree.new.moved.items inv.tells done.tells;
      closed = closed_agree a b trees (λ k i. clears_touched.others k (out k i)) ahead.2;
      touched = λ (u : ℕ → Bool) clears. inv.touched u (subst (Clears a u) (sym g.left) (clears_first a b u h g.children trees g.once clears_touched clears));
    }

all_touched : (t : ℕ) (c : In-None t) → Clears (is_touched (told c.args.entries.now)) (is_touched (told c.loop-child.entries)) (tree_at c.args.tree.now.forest c.args.h.0)
all_touched t c =
    let d = (goal.at.In-None t c).After-tell in
    let f = c.args.tree.now.forest in
    let top = c.args.h.0 in
    let u = is_touched (told c.loop-child.entries) in
    let out = (whole_tree f top c.children-child-items.ensures.once c.requires.there).out in
    subst (Clears (is_touched (told c.args.entries.now)) u) (sym (tree_is f top c.requires.there))
    (clears_top (is_touched (told c.args.entries.now)) (is_touched (told c.tell.new.entries)) u top (children_of f top) out (let_own t d) (let_others t d) (c.loop-child.invariant.touched u (rw c.in-None.ensures.steps.0 (clears_none u))))

pub returns-clause-rests : goal.returns-clause-rests
returns-clause-rests t c = (all_touched t (goal.at.returns-clause-rests t c).In-None).none

pub returns-clause-others : goal.returns-clause-others
returns-clause-others t c = (all_touched t (goal.at.returns-clause-others t c).In-None).others

-- an object that is not touched
pub returns-then-not-is_touched-clause-rests : goal.returns-then-not-is_touched-clause-rests
returns-then-not-is_touched-clause-rests t c = calm_all (is_touched (told c.args.entries.now)) c.args.tree.now.forest c.args.h.0 c.requires.there c.requires.closed (search rules)

pub returns-then-not-is_touched-clause-tells : goal.returns-then-not-is_touched-clause-tells
returns-then-not-is_touched-clause-tells t c = tells-none c.args.tree.now.forest (is_first c.args.pending.now) (told c.args.entries.now) c.args.moved.now.items
