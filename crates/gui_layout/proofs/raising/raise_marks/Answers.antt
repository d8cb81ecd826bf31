use Rattle.std.proofs.Common.{◌≡◌, ◌∙◌, refl, sym, subst, ℕ, true, false, eqb, get_or, inl, inr, arith}
use Rattle.std.proofs.lemmas.Bool.{cases_Bool, eqb-true, both_ways, false_from_ne_true}
use Rattle.gui_base.specs.declared.Handle.{Handle}
use Rattle.gui_boxes.specs.Pending.{is_partly, is_pending}
use Rattle.gui_layout.specs.Raised.{Rests}
use Rattle.gui_boxes.proofs.Entered.{next-times, none-left}
use Rattle.gui_layout.proofs.raising.raise_marks.Goals as goal

abbrev none : Handle
none = record { 0 = 0 }

pub loop-h-init : goal.loop-h-init
loop-h-init c = record {
  own = λ k some left part off. absurd (omega arith);
  more = λ k is. is;
  still = λ k part off. part;
  any = λ k. refl;
  first = λ k. refl;
  listed = refl;
}

pub loop-h-preserved : goal.loop-h-preserved
loop-h-preserved c =
    let hs = c.args.marked.now in
    let i = c.loop-h.h-index in
    let h = get_or hs i none in
    let inv = c.loop-h.invariant in
    let done = c.raise.ensures in
    let t = c.loop-h.pending in
    let u = c.raise.new.pending in
    let was_off : (k : ℕ) → is_pending u k ≡ false → is_pending t k ≡ false = λ k off. false_from_ne_true (is_pending t k) (λ on. both_ways (is_pending u k) off (done.more k on)) in
    record {
      own = λ k some left part off. elim (cases_Bool (eqb h.0 k)) [
        | inl is ↦
            let same = eqb-true h.0 k is in
            subst (λ j. Rests c.args.tree.now.forest c.args.entries.now j) same
            (done.own (subst (λ j. is_partly t j ≡ true) (sym same) (inv.still k part (was_off k off))) (subst (λ j. is_pending u j ≡ false) (sym same) off))
        | inr other ↦ inv.own k some (next-times hs i k c.loop-h-test.true other ∙ left) part (was_off k off)
      ];
      more = λ k is. done.more k (inv.more k is);
      still = λ k part off. done.still k (inv.still k part (was_off k off)) off;
      any = λ k. done.any k ∙ inv.any k;
      first = λ k. done.first k ∙ inv.first k;
      listed = done.listed ∙ inv.listed;
    }

pub returns-clause-own : goal.returns-clause-own
returns-clause-own c k some part off = c.loop-h.invariant.own k some (none-left c.args.marked.now c.loop-h.h-index k c.loop-h-test.false) part off
