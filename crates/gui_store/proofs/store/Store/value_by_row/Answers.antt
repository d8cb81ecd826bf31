use Rattle.gui_store.proofs.Common.{◌≡◌, ◌∙◌, sym, refl, subst, true, Some, None, SFits, w32, rules, shown_row, parts_of, scene_of}
use Rattle.std.proofs.Common.{to_z, of_z}
use Rattle.std.proofs.lemmas.Int.{to_z-of_z}
use Rattle.scene_defs.specs.Scene.{value}
use Rattle.gui_store.proofs.Kept.{read-row}
use Rattle.gui_store.proofs.Values.{value-is}
use Rattle.gui_base.specs.Props.{is_value}
use Rattle.scene_defs.proofs.Values.{values_in_range}
use Rattle.gui_store.proofs.store.Store.value_by_row.Goals as goal
use Rattle.gui_store.proofs.store.Store.value_by_row.Goals.{In-Some}

pub given-requires : goal.given-requires
given-requires c =
    c.requires ∙ sym (read-row (parts_of c.args.self.now) c.args.self.now.kept c.args.h.0 _ refl)

given_value : (c : In-Some) → to_z w32 (of_z w32 c.in-Some.value) ≡ value (scene_of c.args.self.now) c.args.h.0 c.args.part c.args.prop
given_value c =
    let fits : SFits w32 c.in-Some.value = search rules in
    to_z-of_z w32 c.in-Some.value fits
    ∙ value-is (parts_of c.args.self.now) c.args.self.now.kept c.args.h.0 c.args.part c.args.prop (shown_row c.args.row.now) (Some c.in-Some.value)
    (c.requires ∙ sym (read-row (parts_of c.args.self.now) c.args.self.now.kept c.args.h.0 _ refl)) (sym c.in-Some.is ∙ c.given.ensures)

pub returns-in-Some-clause-value : goal.returns-in-Some-clause-value
returns-in-Some-clause-value c = given_value c

pub returns-in-Some-clause-in_range : goal.returns-in-Some-clause-in_range
returns-in-Some-clause-in_range c =
    subst (λ n. is_value c.args.prop n ≡ true) (sym (given_value c)) (values_in_range (scene_of c.args.self.now) c.args.h.0 c.args.part c.args.prop c.args.self.now.kept.valid)

pub returns-in-None-clause-value : goal.returns-in-None-clause-value
returns-in-None-clause-value c =
    let fits : SFits w32 c.default_in.result = search rules in
    to_z-of_z w32 c.default_in.result fits ∙ c.default_in.ensures
    ∙ value-is (parts_of c.args.self.now) c.args.self.now.kept c.args.h.0 c.args.part c.args.prop (shown_row c.args.row.now) None
    (c.requires ∙ sym (read-row (parts_of c.args.self.now) c.args.self.now.kept c.args.h.0 _ refl)) (sym c.in-None.is ∙ c.given.ensures)

pub returns-in-None-clause-in_range : goal.returns-in-None-clause-in_range
returns-in-None-clause-in_range c =
    let fits : SFits w32 c.default_in.result = search rules in
    let is : to_z w32 (of_z w32 c.default_in.result) ≡ value (scene_of c.args.self.now) c.args.h.0 c.args.part c.args.prop =
    to_z-of_z w32 c.default_in.result fits ∙ c.default_in.ensures
    ∙ value-is (parts_of c.args.self.now) c.args.self.now.kept c.args.h.0 c.args.part c.args.prop (shown_row c.args.row.now) None
    (c.requires ∙ sym (read-row (parts_of c.args.self.now) c.args.self.now.kept c.args.h.0 _ refl)) (sym c.in-None.is ∙ c.given.ensures) in
    subst (λ n. is_value c.args.prop n ≡ true) (sym is) (values_in_range (scene_of c.args.self.now) c.args.h.0 c.args.part c.args.prop c.args.self.now.kept.valid)
