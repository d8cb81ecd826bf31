use Rattle.std.proofs.Common.{◌≡◌, ◌∙◌, refl, sym, ap, Bool, true, not, List, [], ◌∷◌, Option, None, is_some, inl, inr}
use Rattle.std.proofs.lemmas.Bool.{cases_Bool, false≢true}
use Rattle.gui_base.specs.Refusing.{Test, first_of, Unknown}
use Rattle.gui_base.specs.declared.refusal.Refusal.{Refusal}
use Rattle.run_defs.specs.declared.Command.TheVariants as ask
use Rattle.run_defs.specs.Step.{full_for, var_tests}
use Rattle.scene_defs.specs.Scene.{is_there}
use Rattle.gui_board.specs.Boards.{machine_of}
use Rattle.gui_board.proofs.board.Board.anim_refusal.Goals as goal

-- the first refusal of some tests, whatever comes after them
first-kept : (tests : List Test) (later : Option Refusal) → is_some (first_of tests None) ≡ true → first_of tests None ≡ first_of tests later
first-kept [] later some = absurd (false≢true some)
first-kept (test ∷ tests) later some = elim (cases_Bool test.0) [
  | inl is ↦ rw is refl
  | inr isnt ↦ rw isnt (first-kept tests later (rw isnt at some))
]

pub returns-then-is_some : goal.returns-then-is_some
returns-then-is_some c =
    let machine = machine_of c.args.self.now in
    let spec = c.args.spec in
    let tests = var_tests machine.scene spec.var spec.h in
    let full = full_for machine (ask.Anim spec) in
    let there : is_there machine.scene spec.h.0 ≡ true = sym c.has.ensures ∙ c.if-not-has.false in
    let some : is_some (first_of tests None) ≡ true = ap is_some (sym c.var_refusal-refusal.ensures) ∙ (sym c.is_some.ensures ∙ c.if-is_some.true) in
    c.var_refusal-refusal.ensures ∙ (first-kept tests full some ∙ ap (λ (b : Bool). first_of ((not b, Unknown) ∷ tests) full) (sym there))
