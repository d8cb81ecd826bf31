use Rattle.std.proofs.Common.{◌<◌, ◌∙◌, sym, subst, eqb, get_or, inl, inr, arith}
use Rattle.std.proofs.lemmas.Bool.{cases_Bool, eqb-true}
use Rattle.gui_base.specs.declared.Handle.{Handle}
use Rattle.gui_boxes.specs.Gone.{HasLeft}
use Rattle.gui_boxes.proofs.Entered.{first-times, next-times, none-left}
use Rattle.gui_boxes.proofs.gone.have_left.Goals as goal

abbrev none : Handle
none = record { 0 = 0 }

pub loop-h-preserved : goal.loop-h-preserved
loop-h-preserved c = λ rest.
    let hs = c.args.listed.now in
    let i = c.loop-h.h-index in
    let h = get_or hs i none in
    c.loop-h.invariant (λ k some. elim (cases_Bool (eqb h.0 k)) [
      | inl is ↦ subst (λ j. HasLeft c.args.tree.now.forest c.args.entries.now j) (eqb-true h.0 k is) (c.has_left.ensures.left c.if-not-has_left.false)
      | inr other ↦ rest k (subst (λ n. 0 < n) (next-times hs i k c.loop-h-test.true other) some)
    ])

pub returns-clause-left : goal.returns-clause-left
returns-clause-left c = λ is. c.loop-h.invariant (λ k some. absurd (let none = none-left c.args.listed.now c.loop-h.h-index k c.loop-h-test.false in omega arith))

-- an entry that is left is one of these
pub returns-then-not-has_left-clause-known : goal.returns-then-not-has_left-clause-known
returns-then-not-has_left-clause-known c all =
    let hs = c.args.listed.now in
    let i = c.loop-h.h-index in
    let own : HasLeft c.args.tree.now.forest c.args.entries.now (get_or hs i none).0 = all (get_or hs i none).0 (first-times hs i c.loop-h-test.true) in
    sym c.if-not-has_left.true ∙ c.has_left.ensures.known own
