use Rattle.std.proofs.Common.{◌≡◌, ◌∙◌, refl, sym, subst, eqb, true, get_or, inl, inr, arith}
use Rattle.std.proofs.lemmas.Bool.{cases_Bool, eqb-true, false≢true}
use Rattle.gui_base.specs.Forest.{has}
use Rattle.gui_boxes.specs.Pending.{is_first}
use Rattle.gui_boxes.specs.Tables.{IsListed, Listing, told}
use Rattle.gui_boxes.specs.Touched.{is_touched}
use Rattle.gui_boxes.proofs.Entered.{nothing, first-times, next-times, none-left}
use Rattle.gui_boxes.proofs.Reports.{calm-still, left-then, tells-none, tells-then}
use Rattle.gui_layout.specs.Calm.{is_up}
use Rattle.gui_layout.proofs.telling.tell_marked.Goals as goal

pub loop-h-init : goal.loop-h-init
loop-h-init c = record {
  tells = tells-none c.args.tree.now.forest (is_first c.args.pending.now) (told c.args.entries.now) c.args.moved.now.items;
  own = λ k j some left there up. absurd (omega arith);
  within = λ k on off. absurd (false≢true (sym off ∙ on));
  capacity = refl;
  listed = refl;
}

pub tell_there-requires-clause-listed : goal.tell_there-requires-clause-listed
tell_there-requires-clause-listed c there k encloses is =
    let hs = c.args.marked.now in
    let i = c.loop-h.h-index in
    let h = get_or hs i nothing in
    subst (λ (ks : Listing). IsListed ks k) (sym c.loop-h.invariant.listed) (c.requires.listed h.0 (first-times hs i c.loop-h-test.true) there k encloses is)

pub tell_there-requires-clause-left : goal.tell_there-requires-clause-left
tell_there-requires-clause-left c = left-then c.args.tree.now.forest (is_first c.args.pending.now) (told c.args.entries.now) (told c.loop-h.entries) c.args.moved.now.items c.loop-h.moved.items c.requires.left c.loop-h.invariant.tells

pub tell_there-requires-clause-room : goal.tell_there-requires-clause-room
tell_there-requires-clause-room c = rw c.loop-h.invariant.capacity c.requires.room

pub loop-h-preserved : goal.loop-h-preserved
loop-h-preserved c =
    let f = c.args.tree.now.forest in
    let m = is_first c.args.pending.now in
    let hs = c.args.marked.now in
    let i = c.loop-h.h-index in
    let h = get_or hs i nothing in
    let inv = c.loop-h.invariant in
    let done = c.tell_there.ensures in
    let was = told c.loop-h.entries in
    let now = told c.tell_there.new.entries in
    record {
      tells = tells-then f m (told c.args.entries.now) was now c.args.moved.now.items c.loop-h.moved.items c.tell_there.new.moved.items inv.tells done.tells;
      own = λ k j some left there up. elim (cases_Bool (eqb h.0 k)) [
        | inl is ↦
            let same = eqb-true h.0 k is in
            done.own (subst (λ i. has f i ≡ true) (sym same) there) j (subst (λ i. is_up f j i ≡ true) (sym same) up)
        | inr other ↦ calm-still f m was now c.loop-h.moved.items c.tell_there.new.moved.items j done.tells (inv.own k j some (next-times hs i k c.loop-h-test.true other ∙ left) there up)
      ];
      within = λ k on off. elim (cases_Bool (is_touched was k)) [
        | inl still ↦ record { low = h.0; listed = first-times hs i c.loop-h-test.true; there = done.some k still off; up = done.within k still off }
        | inr none ↦ inv.within k on none
      ];
      capacity = done.capacity ∙ inv.capacity;
      listed = done.listed ∙ inv.listed;
    }

pub returns-clause-own : goal.returns-clause-own
returns-clause-own c k over = c.loop-h.invariant.own over.low k over.listed (none-left c.args.marked.now c.loop-h.h-index over.low c.loop-h-test.false) over.there over.up
