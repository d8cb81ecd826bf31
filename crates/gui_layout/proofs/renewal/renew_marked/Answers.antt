use Rattle.std.proofs.Common.{◌≡◌, ◌∙◌, refl, sym, ap, subst, true, eqb, get_or, inl, inr, arith}
use Rattle.std.proofs.lemmas.Bool.{cases_Bool, eqb-true}
use Rattle.gui_base.specs.Forest.{has}
use Rattle.gui_base.specs.declared.Handle.{Handle}
use Rattle.gui_store.specs.Views.{scene_of}
use Rattle.gui_boxes.specs.Pending.{is_pending}
use Rattle.gui_layout.specs.Renewed.{IsRenewed}
use Rattle.gui_boxes.specs.Settled.{Layout}
use Rattle.gui_boxes.specs.Tables.{Listing, IsListed, told}
use Rattle.gui_boxes.proofs.Entered.{first-times, next-times, none-left}
use Rattle.gui_layout.proofs.renewal.renew_marked.Goals as goal

abbrev none : Handle
none = record { 0 = 0 }

pub loop-h-init : goal.loop-h-init
loop-h-init c = record {
  own = λ k some left on there. absurd (omega arith);
  kept = λ k is. is;
  rest = refl;
  listed = refl;
}

pub renew_pending-requires : goal.renew_pending-requires
renew_pending-requires c on there =
    let hs = c.args.marked.now in
    let i = c.loop-h.h-index in
    let h = get_or hs i none in
    subst (λ (ks : Listing). IsListed ks h.0) (sym c.loop-h.invariant.listed) (c.requires h.0 (first-times hs i c.loop-h-test.true) on there)

pub loop-h-preserved : goal.loop-h-preserved
loop-h-preserved c =
    let hs = c.args.marked.now in
    let i = c.loop-h.h-index in
    let h = get_or hs i none in
    let inv = c.loop-h.invariant in
    let done = c.renew_pending.ensures in
    let scene = scene_of c.args.store.now in
    let boxes = (told c.renew_pending.new.entries).boxes in
    record {
      own = λ k some left on there. elim (cases_Bool (eqb h.0 k)) [
        | inl is ↦
            let same = eqb-true h.0 k is in
            subst (λ j. IsRenewed scene boxes j) same (done.own (subst (λ j. is_pending c.args.pending.now j ≡ true) (sym same) on) (subst (λ j. has c.args.tree.now.forest j ≡ true) (sym same) there))
        | inr other ↦ done.kept k (inv.own k some (next-times hs i k c.loop-h-test.true other ∙ left) on there)
      ];
      kept = λ k is. done.kept k (inv.kept k is);
      rest = done.rest ∙ ap (λ (l : Layout). record l { boxes = (told c.renew_pending.new.entries).boxes }) inv.rest;
      listed = done.listed ∙ inv.listed;
    }

pub returns-clause-own : goal.returns-clause-own
returns-clause-own c k some on there = c.loop-h.invariant.own k some (none-left c.args.marked.now c.loop-h.h-index k c.loop-h-test.false) on there
