use Rattle.std.proofs.Common.{◌≡◌, ◌∙◌, ◌∷◌, ◌+◌, refl, sym, ap, ℕ, eqb, eq-eqb, drop, get_or, List, false, inl, inr, arith}
use Rattle.std.specs.Prelude.{option_map}
use Rattle.std.specs.List.{flat_map}
use Rattle.std.proofs.lemmas.Bool.{cases_Bool}
use Rattle.std.proofs.lemmas.List.{drop_all}
use Rattle.gui_base.specs.declared.Handle.{Handle}
use Rattle.gui_damage.specs.Gridded.{added_all_in}
use Rattle.gui_boxes.specs.Listing.{times}
use Rattle.gui_boxes.proofs.Entered.{now as next_of, nothing as nobody}
use Rattle.gui_pool.specs.Table.{value_at}
use Rattle.gui_tree.specs.Handles.{numbers}
use Rattle.gui_change.specs.Gone.{owed_gone}
use Rattle.gui_concerns.specs.Handles.{number_of}
use Rattle.gui_change.proofs.Forgetting.{knows-less, taken, times-drop}
use Rattle.gui_change.proofs.Renewing.{one_gone}
use Rattle.gui_change.proofs.gone.forget.Goals as goal

pub loop-h-init : goal.loop-h-init
loop-h-init c = record {
  none = λ k less. absurd (omega (arith, less));
  rest = λ k same. refl;
  some = λ objects hs these. record { known = hs; these = these; within = λ k some. some };
  owed = refl;
}

pub loop-h-preserved : goal.loop-h-preserved
loop-h-preserved c =
    let hs = c.args.gone.now in
    let i = c.loop-h.h-index in
    let h = get_or hs i nobody in
    let t = c.loop-h.table in
    let later = drop (i + 1) hs in
    let owes = owed_gone (option_map number_of c.args.named) c.args.table.now in
    let next : drop i hs ≡ h ∷ later = next_of hs i c.loop-h-test.true in
    let counts = λ (k : ℕ). ap (λ (l : List Handle). times l k) next in
    let at = taken t c.remove.new.self h c.remove.result c.remove.ensures.value c.remove.ensures.removes c.remove.ensures.absent in
    let others = λ (k : ℕ) (other : eqb h.0 k ≡ false). at k ∙ rw other refl in
    let inv = c.loop-h.invariant in
    let own : times (drop i hs) h.0 ≡ 1 + times later h.0 = counts h.0 ∙ rw (eq-eqb h.0 h.0 refl) refl in
    let most = times-drop i hs h.0 in
    let once = c.requires.once h.0 in
    let still : value_at t h.0 ≡ value_at c.args.table.now h.0 = inv.rest h.0 (omega (arith, own, most, once)) in
    record {
      none = λ k less. elim (cases_Bool (eqb h.0 k)) [
        | inl here ↦ at k ∙ rw here refl
        | inr other ↦
            let same : times (drop i hs) k ≡ 0 + times later k = counts k ∙ rw other refl in
            others k other ∙ inv.none k (omega (arith, same, less))
      ];
      rest = λ k same. elim (cases_Bool (eqb h.0 k)) [
        | inl here ↦
            let more : times (drop i hs) k ≡ 1 + times later k = counts k ∙ rw here refl in
            let all = times-drop i hs k in
            absurd (omega (arith, more, all, same))
        | inr other ↦
            let left : times (drop i hs) k ≡ 0 + times later k = counts k ∙ rw other refl in
            others k other ∙ inv.rest k (omega (arith, left, same))
      ];
      some = λ objects ks these. knows-less t c.remove.new.self h c.remove.result c.remove.ensures.value c.remove.ensures.removes c.remove.ensures.absent objects ks (inv.some objects ks these);
      owed = one_gone owes h later c.loop-h.damage c.owe.new.damage _
          (ap (λ (ks : List Handle). added_all_in c.loop-h.damage (flat_map owes (numbers ks))) (sym next) ∙ inv.owed)
          (rw (c.is_named.ensures, c.get.ensures, still) at c.owe.ensures);
    }

pub returns-clause-none : goal.returns-clause-none
returns-clause-none c k some =
    let left = ap (λ (l : List Handle). times l k) (drop_all c.loop-h.h-index c.args.gone.now c.loop-h-test.false) in
    c.loop-h.invariant.none k (omega (arith, left, some))

pub returns-clause-rest : goal.returns-clause-rest
returns-clause-rest c k none =
    let left = ap (λ (l : List Handle). times l k) (drop_all c.loop-h.h-index c.args.gone.now c.loop-h-test.false) in
    c.loop-h.invariant.rest k (omega (arith, left, none))

pub returns-clause-some : goal.returns-clause-some
returns-clause-some c = c.loop-h.invariant.some

pub returns-clause-debt : goal.returns-clause-debt
returns-clause-debt c =
    let none = drop_all c.loop-h.h-index c.args.gone.now c.loop-h-test.false in
    ap (λ (xs : List Handle). added_all_in c.loop-h.damage (flat_map (owed_gone (option_map number_of c.args.named) c.args.table.now) (numbers xs))) (sym none) ∙ c.loop-h.invariant.owed
