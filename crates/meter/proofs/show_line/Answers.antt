use Rattle.std.proofs.Common.{◌≡◌, ◌∙◌, sym, subst, ℤ, Some, None, FitsSigned, w32, to_z, of_z}
use Rattle.std.proofs.lemmas.Int.{to_z-of_z}
use Rattle.gui_core.specs.Machines.{machine_of}
use Rattle.meter.specs.Commands.{refusal_of_all}
use Rattle.meter.specs.Lines.{IsNumberOf, SaysNumber, number_in}
use Rattle.meter.specs.Numbers.{number_commands}
use Rattle.meter.proofs.show_line.Goals as goal
use Rattle.meter.proofs.show_line.Goals.{After-show_number}

-- what is shown is the number that the line says
module _ (g : _) (c : After-show_number g) where
  says : SaysNumber c.args.text.now × (c.in-Some.number ≡ number_in c.args.text.now)
  says = subst (IsNumberOf c.args.text.now) c.in-Some.is c.number_of.ensures

  shown : to_z w32 (of_z w32 c.in-Some.number) ≡ number_in c.args.text.now
  shown =
      let fits : FitsSigned w32 c.in-Some.number = subst (λ (n : ℤ). FitsSigned w32 n) (sym says.1) says.0.fits in
      to_z-of_z w32 c.in-Some.number fits ∙ says.1

pub returns-in-Some-clause-refused : goal.returns-in-Some-clause-refused
returns-in-Some-clause-refused g c = λ refusal said refused.
    let at = (goal.at.returns-in-Some-clause-refused g c).After-show_number in
    c.show_number.ensures.refused refusal (subst (λ (n : ℤ). refusal_of_all (machine_of c.args.gui.now) (number_commands n) ≡ Some refusal) (sym (shown g at)) refused)

pub returns-in-Some-clause-refused_panel : goal.returns-in-Some-clause-refused_panel
returns-in-Some-clause-refused_panel g c = λ refusal said refused.
    let at = (goal.at.returns-in-Some-clause-refused_panel g c).After-show_number in
    c.show_number.ensures.refused_panel refusal (subst (λ (n : ℤ). refusal_of_all (machine_of c.args.gui.now) (number_commands n) ≡ Some refusal) (sym (shown g at)) refused)

pub returns-in-Some-clause-hinders : goal.returns-in-Some-clause-hinders
returns-in-Some-clause-hinders g c = λ said none.
    let at = (goal.at.returns-in-Some-clause-hinders g c).After-show_number in
    c.show_number.ensures.hinders (subst (λ (n : ℤ). refusal_of_all (machine_of c.args.gui.now) (number_commands n) ≡ None) (sym (shown g at)) none)

pub returns-in-Some-clause-other : goal.returns-in-Some-clause-other
returns-in-Some-clause-other g c = λ none. absurd (none (says g (goal.at.returns-in-Some-clause-other g c).After-show_number).0)

pub returns-in-Some-clause-other_machine : goal.returns-in-Some-clause-other_machine
returns-in-Some-clause-other_machine g c = λ none. absurd (none (says g (goal.at.returns-in-Some-clause-other_machine g c).After-show_number).0)

pub returns-in-Some-clause-other_panel : goal.returns-in-Some-clause-other_panel
returns-in-Some-clause-other_panel g c = λ none. absurd (none (says g (goal.at.returns-in-Some-clause-other_panel g c).After-show_number).0)
