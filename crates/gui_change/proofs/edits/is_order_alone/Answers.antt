use Rattle.std.proofs.Common.{◌≡◌, ◌∙◌, refl, sym, ap, ◌==◌, true, List, [], ◌∷◌, length, arith}
use Rattle.std.proofs.lemmas.Bool.{eqb-true}
use Rattle.gui_base.specs.declared.Handle.{Handle}
use Rattle.gui_boxes.specs.Marks.{solved_in}
use Rattle.gui_change.proofs.Owing.{not-so}
use Rattle.gui_change.proofs.edits.is_order_alone.Goals as goal

no-items : (us : List Handle) → (length us == 0) ≡ true → us ≡ []
no-items [] is = refl
no-items (u ∷ us) is = let none : length (u ∷ us) ≡ 0 = eqb-true (length (u ∷ us)) 0 is in absurd (omega (arith, none))

pub returns-clause-none : goal.returns-clause-none
returns-clause-none c is =
    no-items (solved_in c.args.marks.now) (ap (λ (us : List Handle). length us == 0) (sym c.solved.ensures) ∙ (sym c.is_empty.ensures ∙ c.if-not-is_empty.false))

pub returns-clause-still : goal.returns-clause-still
returns-clause-still c is there = c.is_scrollable.ensures (not-so c.is_scrollable.result is) there
