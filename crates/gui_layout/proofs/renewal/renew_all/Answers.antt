use Rattle.std.proofs.Common.{◌∙◌, refl, sym, subst, eqb, get_or, inl, inr, arith}
use Rattle.std.proofs.lemmas.Bool.{cases_Bool, eqb-true}
use Rattle.gui_store.specs.Views.{scene_of}
use Rattle.gui_layout.specs.Renewed.{IsRenewed}
use Rattle.gui_boxes.specs.Tables.{Listing, IsListed, told}
use Rattle.gui_boxes.proofs.Entered.{nothing, first-times, next-times, none-left}
use Rattle.gui_layout.proofs.renewal.renew_all.Goals as goal

pub loop-h-init : goal.loop-h-init
loop-h-init c = record { own = λ k some left. absurd (omega arith); listed = refl }

pub renew_box-requires : goal.renew_box-requires
renew_box-requires c =
    let hs = c.args.listed.now in
    let i = c.loop-h.h-index in
    let h = get_or hs i nothing in
    subst (λ (ks : Listing). IsListed ks h.0) (sym c.loop-h.invariant.listed) (c.requires h.0 (first-times hs i c.loop-h-test.true))

pub loop-h-preserved : goal.loop-h-preserved
loop-h-preserved c =
    let hs = c.args.listed.now in
    let i = c.loop-h.h-index in
    let h = get_or hs i nothing in
    let inv = c.loop-h.invariant in
    let done = c.renew_box.ensures in
    record {
      own = λ k some left. elim (cases_Bool (eqb h.0 k)) [
        | inl is ↦ subst (λ j. IsRenewed (scene_of c.args.store.now) (told c.renew_box.new.entries).boxes j) (eqb-true h.0 k is) done.own
        | inr other ↦ done.kept k (inv.own k some (next-times hs i k c.loop-h-test.true other ∙ left))
      ];
      listed = done.listed ∙ inv.listed;
    }

pub returns-clause-own : goal.returns-clause-own
returns-clause-own c k some = c.loop-h.invariant.own k some (none-left c.args.listed.now c.loop-h.h-index k c.loop-h-test.false)
