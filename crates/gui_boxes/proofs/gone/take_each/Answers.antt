use Rattle.std.proofs.Common.{◌≡◌, ◌∙◌, refl, sym, subst, false, eqb, get_or, inl, inr, arith}
use Rattle.std.specs.Prelude.{is_some}
use Rattle.std.proofs.lemmas.Bool.{cases_Bool, eqb-true}
use Rattle.gui_base.specs.Forest.{has}
use Rattle.gui_pool.specs.Table.{value_at}
use Rattle.gui_boxes.proofs.Entered.{next-times, none-left, nothing}
use Rattle.gui_boxes.proofs.gone.take_each.Goals as goal

pub loop-h-init : goal.loop-h-init
loop-h-init c = record {
  these = λ objects had. had;
  gone = λ k some left. absurd (omega arith);
  kept = λ k there. refl;
  none = λ k was. was;
  capacity = refl;
}

pub loop-h-preserved : goal.loop-h-preserved
loop-h-preserved c =
    let f = c.args.tree.now.forest in
    let hs = c.args.marked.now in
    let i = c.loop-h.h-index in
    let h = get_or hs i nothing in
    let inv = c.loop-h.invariant in
    let done = c.take_one.ensures in
    let now = c.take_one.new.entries in
    record {
      these = λ objects had. done.these objects (inv.these objects had);
      gone = λ k some left out. elim (cases_Bool (eqb h.0 k)) [
        | inl is ↦
            let same = eqb-true h.0 k is in
            subst (λ j. is_some (value_at now j) ≡ false) same (done.own (subst (λ j. has f j ≡ false) (sym same) out))
        | inr other ↦ done.none k (inv.gone k some (next-times hs i k c.loop-h-test.true other ∙ left) out)
      ];
      kept = λ k there. done.kept k there ∙ inv.kept k there;
      none = λ k was. done.none k (inv.none k was);
      capacity = done.capacity ∙ inv.capacity;
    }

pub returns-clause-gone : goal.returns-clause-gone
returns-clause-gone c k some = c.loop-h.invariant.gone k some (none-left c.args.marked.now c.loop-h.h-index k c.loop-h-test.false)
