use Rattle.std.proofs.Common.{◌≡◌, ◌∙◌, refl, sym, subst, eqb, true, get_or, inl, inr, arith}
use Rattle.std.proofs.lemmas.Bool.{cases_Bool, eqb-true, false≢true}
use Rattle.gui_base.specs.Forest.{has, tree_at}
use Rattle.gui_boxes.specs.Pending.{is_first}
use Rattle.gui_boxes.specs.Tables.{IsListed, Listing, told}
use Rattle.gui_boxes.specs.Touched.{is_touched}
use Rattle.gui_boxes.proofs.Entered.{nothing, first-times, next-times, none-left}
use Rattle.gui_boxes.proofs.Reports.{calm-still, left-then, tells-none, tells-then}
use Rattle.gui_layout.proofs.Lifting.{closed-at, closed-cleared, in-tree, tree-of}
use Rattle.gui_layout.proofs.telling.tell_trees.Goals as goal

pub loop-top-init : goal.loop-top-init
loop-top-init c = record {
  tells = tells-none c.args.tree.now.forest (is_first c.args.pending.now) (told c.args.entries.now) c.args.moved.now.items;
  closed = c.requires.closed;
  own = λ u k some left i. absurd (omega arith);
  within = λ k on off. absurd (false≢true (sym off ∙ on));
  capacity = refl;
  listed = refl;
}

pub tell_tree-requires-clause-there : goal.tell_tree-requires-clause-there
tell_tree-requires-clause-there c = c.requires.there (get_or c.args.tops.now c.loop-top.top-index nothing).0 (first-times c.args.tops.now c.loop-top.top-index c.loop-top-test.true)

pub tell_tree-requires-clause-listed : goal.tell_tree-requires-clause-listed
tell_tree-requires-clause-listed c k i =
    let us = c.args.tops.now in
    let n = c.loop-top.top-index in
    subst (λ (ks : Listing). IsListed ks k) (sym c.loop-top.invariant.listed) (c.requires.listed (get_or us n nothing).0 (first-times us n c.loop-top-test.true) k i)

pub tell_tree-requires-clause-closed : goal.tell_tree-requires-clause-closed
tell_tree-requires-clause-closed c =
    let us = c.args.tops.now in
    let n = c.loop-top.top-index in
    closed-at c.args.tree.now.forest (is_touched (told c.loop-top.entries)) us (get_or us n nothing).0 c.requires.once c.loop-top.invariant.closed (first-times us n c.loop-top-test.true)

pub tell_tree-requires-clause-left : goal.tell_tree-requires-clause-left
tell_tree-requires-clause-left c = left-then c.args.tree.now.forest (is_first c.args.pending.now) (told c.args.entries.now) (told c.loop-top.entries) c.args.moved.now.items c.loop-top.moved.items c.requires.left c.loop-top.invariant.tells

pub tell_tree-requires-clause-room : goal.tell_tree-requires-clause-room
tell_tree-requires-clause-room c = rw c.loop-top.invariant.capacity c.requires.room

pub loop-top-preserved : goal.loop-top-preserved
loop-top-preserved c =
    let f = c.args.tree.now.forest in
    let m = is_first c.args.pending.now in
    let us = c.args.tops.now in
    let n = c.loop-top.top-index in
    let u = get_or us n nothing in
    let inv = c.loop-top.invariant in
    let done = c.tell_tree.ensures in
    let was = told c.loop-top.entries in
    let now = told c.tell_tree.new.entries in
    record {
      tells = tells-then f m (told c.args.entries.now) was now c.args.moved.now.items c.loop-top.moved.items c.tell_tree.new.moved.items inv.tells done.tells;
      closed = closed-cleared f (is_touched was) (is_touched now) us u.0 c.requires.once done.rests done.others inv.closed;
      own = λ v k some left i. elim (cases_Bool (eqb u.0 v)) [
        | inl is ↦ done.rests k (subst (λ j. has (tree_at f j) k ≡ true) (sym (eqb-true u.0 v is)) i)
        | inr other ↦ calm-still f m was now c.loop-top.moved.items c.tell_tree.new.moved.items k done.tells (inv.own v k some (next-times us n v c.loop-top-test.true other ∙ left) i)
      ];
      within = λ k on off. elim (cases_Bool (is_touched was k)) [
        | inl still ↦ elim (cases_Bool (has (tree_at f u.0) k)) [
          | inl i ↦ in-tree f us u.0 k (first-times us n c.loop-top-test.true) i
          | inr out ↦ absurd (false≢true (sym off ∙ (done.others k out ∙ still)))
        ]
        | inr none ↦ inv.within k on none
      ];
      capacity = done.capacity ∙ inv.capacity;
      listed = done.listed ∙ inv.listed;
    }

pub returns-clause-own : goal.returns-clause-own
returns-clause-own c k i =
    let o = tree-of c.args.tree.now.forest c.args.tops.now k i in
    c.loop-top.invariant.own o.top k o.listed (none-left c.args.tops.now c.loop-top.top-index o.top c.loop-top-test.false) o.inside
