use Rattle.std.proofs.Common.{◌≡◌, ◌∙◌, refl, sym, ap, subst, true, false, eqb, get_or, inl, inr, arith}
use Rattle.std.specs.Prelude.{is_some}
use Rattle.std.proofs.lemmas.Bool.{cases_Bool, eqb-true, false_from_ne_true}
use Rattle.gui_base.specs.Forest.{has}
use Rattle.gui_base.specs.declared.Handle.{Handle}
use Rattle.gui_pool.specs.Table.{value_at}
use Rattle.gui_store.specs.Views.{scene_of}
use Rattle.scene_defs.specs.Scene.{handles_of}
use Rattle.gui_boxes.specs.Listing.{times}
use Rattle.gui_boxes.proofs.Entered.{first-times, next-times, none-left}
use Rattle.gui_layout.proofs.places.Places.enter_marked.Goals as goal

abbrev none : Handle
none = record { 0 = 0 }

pub loop-h-init : goal.loop-h-init
loop-h-init c = record {
  own = λ k some left there. absurd (omega arith);
  kept = λ k there was. refl;
  others = λ k there off. refl;
  calm = λ k there was. was;
  none = λ k out was. was;
  limits = refl;
}

pub enter_one-requires : goal.enter_one-requires
enter_one-requires c = record { limits = c.loop-h.invariant.limits ∙ c.requires.limits }

pub loop-h-preserved : goal.loop-h-preserved
loop-h-preserved c =
    let hs = c.args.marked.now in
    let i = c.loop-h.h-index in
    let h = get_or hs i none in
    let inv = c.loop-h.invariant in
    let done = c.enter_one.ensures in
    let f = handles_of (scene_of c.args.store.now).trees in
    let now = c.enter_one.new.self in
    record {
      own = λ k some left there. elim (cases_Bool (eqb h.0 k)) [
        | inl is ↦
            let same = eqb-true h.0 k is in
            subst (λ j. is_some (value_at now.entries j) ≡ true) same (done.own (subst (λ j. has f j ≡ true) (sym same) there))
        | inr other ↦
            let was = inv.own k some (next-times hs i k c.loop-h-test.true other ∙ left) there in
            ap is_some (done.kept k there was) ∙ was
      ];
      kept = λ k there was.
          let first = inv.kept k there was in
          done.kept k there (ap is_some first ∙ was) ∙ first;
      others = λ k there off.
          let other : eqb k h.0 ≡ false = false_from_ne_true (eqb k h.0) (λ e.
          let some = first-times hs i c.loop-h-test.true in
          let no : times hs h.0 ≡ 0 = subst (λ j. times hs j ≡ 0) (eqb-true k h.0 e) off in absurd (omega arith)) in
          done.others k there other ∙ inv.others k there off;
      calm = λ k there was. done.calm k there (inv.calm k there was);
      none = λ k out was. done.none k out (inv.none k out was);
      limits = done.limits ∙ inv.limits;
    }

pub returns-clause-own : goal.returns-clause-own
returns-clause-own c k some there = c.loop-h.invariant.own k some (none-left c.args.marked.now c.loop-h.h-index k c.loop-h-test.false) there
