use Rattle.std.proofs.Common.{◌≡◌, ◌∙◌, refl, sym, ap, subst, eqb, true, get_or, inl, inr, arith}
use Rattle.std.proofs.lemmas.Bool.{cases_Bool, eqb-true, false≢true}
use Rattle.gui_base.specs.Forest.{has}
use Rattle.gui_boxes.specs.Settled.{Layout}
use Rattle.gui_boxes.specs.Tables.{IsListed, Listing, told}
use Rattle.gui_boxes.specs.Touched.{is_touched}
use Rattle.gui_boxes.proofs.Entered.{nothing, first-times, next-times, none-left}
use Rattle.gui_layout.proofs.touching.touch_marked.Goals as goal

pub loop-h-init : goal.loop-h-init
loop-h-init c = record { closed = λ s was. was; above = λ k was is. absurd (false≢true (sym was ∙ is)); own = λ k some left there. absurd (omega arith); more = λ k is. is; rest = refl; listed = refl }

pub touch_there-requires-clause-listed : goal.touch_there-requires-clause-listed
touch_there-requires-clause-listed c there k encloses is =
    let hs = c.args.marked.now in
    let i = c.loop-h.h-index in
    let h = get_or hs i nothing in
    subst (λ (ks : Listing). IsListed ks k) (sym c.loop-h.invariant.listed) (c.requires.listed h.0 (first-times hs i c.loop-h-test.true) there k encloses is)

pub loop-h-preserved : goal.loop-h-preserved
loop-h-preserved c =
    let f = c.args.tree.now.forest in
    let hs = c.args.marked.now in
    let i = c.loop-h.h-index in
    let h = get_or hs i nothing in
    let inv = c.loop-h.invariant in
    let done = c.touch_there.ensures in
    let now = told c.touch_there.new.entries in
    record {
      closed = λ s was. done.closed s (inv.closed s was);
      above = λ k was is. elim (cases_Bool (is_touched (told c.loop-h.entries) k)) [
        | inl before ↦ inv.above k was before
        | inr before ↦ record { low = h.0; listed = first-times hs i c.loop-h-test.true; there = done.there k before is; up = done.above k before is }
      ];
      own = λ k some left there. elim (cases_Bool (eqb h.0 k)) [
        | inl is ↦
            let same = eqb-true h.0 k is in
            subst (λ j. is_touched now j ≡ true) same (done.own (subst (λ j. has f j ≡ true) (sym same) there))
        | inr other ↦ done.more k (inv.own k some (next-times hs i k c.loop-h-test.true other ∙ left) there)
      ];
      more = λ k is. done.more k (inv.more k is);
      rest = done.rest ∙ ap (λ (l : Layout). record l { touched = now.touched }) inv.rest;
      listed = done.listed ∙ inv.listed;
    }

pub returns-clause-own : goal.returns-clause-own
returns-clause-own c k some there = c.loop-h.invariant.own k some (none-left c.args.marked.now c.loop-h.h-index k c.loop-h-test.false) there
