use Rattle.std.proofs.Common.{◌≡◌, ◌∙◌, ◌<◌, ◌+◌, not, sym, ap, subst, refl, ℕ, true, false, eqb, eq-eqb, [], ◌∷◌, is_some, inl, inr, arith}
use Rattle.std.specs.Prelude.{option_map}
use Rattle.std.proofs.lemmas.Bool.{cases_Bool, eqb-true}
use Rattle.gui_pool.specs.Table.{value_at}
use Rattle.gui_store.specs.Views.{scene_of}
use Rattle.scene_defs.specs.Scene.{is_there}
use Rattle.gui_concerns.specs.Handles.{number_of}
use Rattle.gui_change.proofs.Orders.{shown_there}
use Rattle.gui_change.proofs.Reordering.{copied-some}
use Rattle.gui_change.proofs.SeenAgain.{hidden-again, listed-again, shown-has}
use Rattle.gui_change.proofs.seeing.see_one.Goals as goal
use Rattle.gui_change.proofs.seeing.see_one.Goals.{After-is_none}

-- whether something is known of it
known : (c : After-is_none) → is_some (value_at c.args.table.now c.args.h.0) ≡ not c.is_none.result
known c = ap is_some (sym c.get.ensures) ∙ (copied-some c.get.result ∙ c.is_none.ensures)

pub returns-then-is_none-clause-sees : goal.returns-then-is_none-clause-sees
returns-then-is_none-clause-sees c =
    let d = (goal.at.returns-then-is_none-clause-sees c).After-is_none in
    hidden-again (scene_of c.args.after.now.store.now) (option_map number_of c.args.named) c.args.table.now c.requires.shown c.args.h.0 c.requires.named c.args.damage.now (known d ∙ ap not c.if-is_none.true)

is-shown : (c : After-is_none) → c.is_none.result ≡ false → is_some (value_at c.args.table.now c.args.h.0) ≡ true
is-shown c some = known c ∙ ap not some

pub see_all_again-requires-clause-there : goal.see_all_again-requires-clause-there
see_all_again-requires-clause-there c k listed =
    let d = (goal.at.see_all_again-requires-clause-there c).After-is_none in
    let scene = scene_of c.args.after.now.store.now in
    let h = c.args.h.0 in
    let there : is_there scene h ≡ true = shown_there scene c.tree-tree.ensures.valid h (sym (shown-has scene c.args.table.now c.requires.shown h) ∙ is-shown d c.if-is_none.false) in
    elim (cases_Bool (eqb h k)) [
      | inl is ↦ subst (λ (j : ℕ). is_there scene j ≡ true) (eqb-true h k is) there
      | inr other ↦ absurd (let none : 0 < 0 + 0 = rw other at listed in omega (arith, none))
    ]

pub returns-clause-sees : goal.returns-clause-sees
returns-clause-sees c =
    let d = (goal.at.returns-clause-sees c).After-is_none in
    let scene = scene_of c.args.after.now.store.now in
    let h = c.args.h.0 in
    let one = c.args.h ∷ [] in
    listed-again scene c.tree-tree.ensures.valid (option_map number_of c.args.named) c.args.table.now c.see_all_again.new.table one c.requires.shown
    (λ k listed. elim (cases_Bool (eqb h k)) [
      | inl is ↦ subst (λ (j : ℕ). is_some (value_at c.args.table.now j) ≡ true) (eqb-true h k is) (is-shown d c.if-is_none.false)
      | inr other ↦ absurd (let none : 0 < 0 + 0 = rw other at listed in omega (arith, none))
    ])
    (λ k. elim (cases_Bool (eqb h k)) [ inl is ↦ rw is (omega arith) | inr other ↦ rw other (omega arith) ])
    (λ k off. c.requires.named k (elim (cases_Bool (eqb h k)) [
      | inl is ↦ absurd (let zero = rw is at off in omega (arith, zero))
      | inr other ↦ other
    ]))
    c.see_all_again.ensures.listing c.see_all_again.ensures.seen c.see_all_again.ensures.rest c.args.damage.now c.see_all_again.new.damage c.see_all_again.ensures.debt

pub returns-clause-own : goal.returns-clause-own
returns-clause-own c s found =
    let h = c.args.h.0 in
    c.see_all_again.ensures.seen h s (rw (eq-eqb h h refl) (omega arith)) found

pub returns-clause-rest : goal.returns-clause-rest
returns-clause-rest c k other = c.see_all_again.ensures.rest k (rw other refl)
