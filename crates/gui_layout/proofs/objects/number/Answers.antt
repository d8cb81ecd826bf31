use Rattle.std.proofs.Common.{◌≡◌, ◌∙◌, sym, true, subst, ℤ, FitsSigned, w32, rules}
use Rattle.std.proofs.lemmas.Int.{to_z-of_z}
use Rattle.gui_base.specs.Props.{is_value}
use Rattle.gui_layout.proofs.Naturals.{natural_value}
use Rattle.gui_layout.proofs.objects.number.Goals as goal

pub returns-clause-value : goal.returns-clause-value
returns-clause-value c =
    let fits : FitsSigned w32 c.value_by_row.result = search rules in
    let absolute = simp to_z-of_z at c.unsigned_abs.ensures.value in
    sym c.value_by_row.ensures.value ∙ natural_value c.args.prop _ _ c.value_by_row.ensures.in_range absolute

pub returns-clause-in_range : goal.returns-clause-in_range
returns-clause-in_range c =
    subst (λ (v : ℤ). is_value c.args.prop v ≡ true) (c.value_by_row.ensures.value ∙ returns-clause-value c) c.value_by_row.ensures.in_range
