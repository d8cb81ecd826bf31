use Rattle.std.proofs.Common.{◌≡◌, ◌∙◌, refl, sym, ap, subst, false, eqb, eq-eqb, get_or, inl, inr, arith}
use Rattle.std.proofs.lemmas.Bool.{both_ways, cases_Bool, eqb-true}
use Rattle.std.proofs.lemmas.List.{get_or-set_other, get_or-set_same}
use Rattle.gui_boxes.specs.Layouts.{ButTold}
use Rattle.gui_boxes.specs.Settled.{Layout}
use Rattle.gui_boxes.specs.Standing.{not_standing, reported_at}
use Rattle.gui_boxes.specs.Tables.{IsListed, Listing, listing_of, reported_or, told, touched_or}
use Rattle.gui_boxes.specs.Touched.{IsAtRest, is_touched, standing_at}
use Rattle.gui_boxes.proofs.Entered.{nothing, first-times, next-times, none-left}
use Rattle.gui_boxes.proofs.Listed.{told_short}
use Rattle.gui_boxes.proofs.Reports.{rests-apart}
use Rattle.gui_layout.proofs.touching.rest_all.Goals as goal

pub loop-h-init : goal.loop-h-init
loop-h-init c = record { own = λ k some left. absurd (omega arith); rest = refl; listed = refl }

pub let_rest-requires : goal.let_rest-requires
let_rest-requires c =
    let hs = c.args.listed.now in
    let i = c.loop-h.h-index in
    let h = get_or hs i nothing in
    subst (λ (ks : Listing). IsListed ks h.0) (sym c.loop-h.invariant.listed) (c.requires h.0 (first-times hs i c.loop-h-test.true))

pub loop-h-preserved : goal.loop-h-preserved
loop-h-preserved c =
    let hs = c.args.listed.now in
    let i = c.loop-h.h-index in
    let h = get_or hs i nothing in
    let inv = c.loop-h.invariant in
    let t = c.loop-h.entries in
    let was = told t in
    let now = told c.let_rest.new.entries in
    let at : IsListed (listing_of t) h.0 = subst (λ (ks : Listing). IsListed ks h.0) (sym inv.listed) (c.requires h.0 (first-times hs i c.loop-h-test.true)) in
    let done = c.let_rest.ensures.set in
    let own : IsAtRest now h.0 = record {
      untouched = ap (λ (l : Layout). is_touched l h.0) done ∙ get_or-set_same was.touched h.0 false false (told_short touched_or t h.0 at);
      told = ap (λ (l : Layout). reported_at l.reported h.0) done ∙ (get_or-set_same was.reported h.0 (standing_at was h.0) not_standing (told_short reported_or t h.0 at) ∙ sym (ap (λ (l : Layout). standing_at l h.0) done));
    } in
    let but : ButTold was now =
    done ∙ (λ j. record was { touched = sym (ap (λ (l : Layout). l.touched) done) j; reported = sym (ap (λ (l : Layout). l.reported) done) j }) in
    record {
      own = λ k some left. elim (cases_Bool (eqb h.0 k)) [
        | inl same ↦ subst (λ j. IsAtRest now j) (eqb-true h.0 k same) own
        | inr other ↦
            let apart : k ≡ h.0 → ⊥ = λ e. both_ways (eqb h.0 k) other (eq-eqb h.0 k (sym e)) in
            rests-apart was now k but (ap (λ (l : Layout). is_touched l k) done ∙ get_or-set_other was.touched h.0 k false false apart)
            (ap (λ (l : Layout). reported_at l.reported k) done ∙ get_or-set_other was.reported h.0 k (standing_at was h.0) not_standing apart)
            (inv.own k some (next-times hs i k c.loop-h-test.true other ∙ left))
      ];
      rest = but ∙ ap (λ (l : Layout). record l { touched = now.touched; reported = now.reported }) inv.rest;
      listed = c.let_rest.ensures.listed ∙ inv.listed;
    }

pub returns-clause-own : goal.returns-clause-own
returns-clause-own c k some = c.loop-h.invariant.own k some (none-left c.args.listed.now c.loop-h.h-index k c.loop-h-test.false)
