use Rattle.gui_store.proofs.Common.{rules, arith, nat_tests, refl, sym, ◌≡◌, ◌∙◌, SFits, w32}
use mir.Val.{to_z, of_z}
use Rattle.std.proofs.lemmas.Int.{to_z-of_z}
use Rattle.std.proofs.lemmas.Bool.{and_parts}
use Rattle.gui_store.proofs.Calls.{answered, refused, prop-told, local-told}
use Rattle.scene_defs.specs.Styling.{font_tests}
use Rattle.gui_store.proofs.styling.restyle.Goals as goal
use Rattle.gui_store.proofs.styling.restyle.Goals.{In-Set, In-Local}

-- the value of a change, as a call passes it on
set_is : (c : In-Set) → to_z w32 (of_z w32 c.in-Set.value) ≡ c.in-Set.value
set_is c = let fits : SFits w32 c.in-Set.value = search rules in to_z-of_z w32 c.in-Set.value fits

local_is : (c : In-Local) → to_z w32 (of_z w32 c.in-Local.value) ≡ c.in-Local.value
local_is c = let fits : SFits w32 c.in-Local.value = search rules in to_z-of_z w32 c.in-Local.value fits

pub returns-in_default-font_fault : goal.returns-in_default-font_fault
returns-in_default-font_fault c =
    let e = c.style_prop.ensures in
    let same = set_is (goal.at.returns-in_default-font_fault c).In-Set in
    let font = rw same at (sym c.font_fault.ensures ∙ c.in_default-font_fault.is) in
    rw c.in-Set.is (answered c.args.styles.now c.style_prop.new.self _ _ c.style_prop.result _ e.answer (rw same at e.ok) e.refused (prop-told c.args.styles.now _ _ (font_tests c.args.fonts.now.fonts c.in-Set.prop c.in-Set.value) font) (λ ok. record {
      book = refl;
      slots = record { styles = refl; entries = grind (arith, nat_tests, ok); uses = refl };
    }))

pub returns-in_default-font_fault-2 : goal.returns-in_default-font_fault-2
returns-in_default-font_fault-2 c =
    let e = c.set_local.ensures in
    let same = local_is (goal.at.returns-in_default-font_fault-2 c).In-Local in
    let font = rw same at (sym c.font_fault-in-Local.ensures ∙ c.in_default-font_fault-2.is) in
    rw c.in-Local.is (answered c.args.styles.now c.set_local.new.self _ _ c.set_local.result _ e.answer (rw same at e.ok) e.refused (local-told c.args.styles.now _ (font_tests c.args.fonts.now.fonts c.in-Local.prop c.in-Local.value) font) (λ ok. record {
      book = refl;
      slots = record { styles = refl; entries = grind (arith, nat_tests, ok); uses = refl };
    }))

pub returns-in-Unset : goal.returns-in-Unset
returns-in-Unset c =
    let e = c.unset_prop.ensures in
    rw c.in-Unset.is (answered c.args.styles.now c.unset_prop.new.self _ _ c.unset_prop.result _ e.answer e.ok e.refused (grind (arith, nat_tests)) (λ ok. record {
      book = refl;
      slots = record { styles = refl; entries = omega arith; uses = refl };
    }))

pub returns-in-Style : goal.returns-in-Style
returns-in-Style c =
    let e = c.style.ensures in
    rw c.in-Style.is (answered c.args.styles.now c.style.new.self _ _ c.style.result _ e.answer e.ok e.refused (grind (arith, nat_tests)) (λ ok. record {
      book = refl;
      slots = record { styles = grind (arith, nat_tests, ok); entries = refl; uses = refl };
    }))

pub returns-in-Use : goal.returns-in-Use
returns-in-Use c =
    let e = c.add_style.ensures in
    rw c.in-Use.is (answered c.args.styles.now c.add_style.new.self _ _ c.add_style.result _ e.answer e.ok e.refused (grind (arith, nat_tests)) (λ ok. record {
      book = refl;
      slots = record { styles = refl; entries = refl; uses = grind (arith, nat_tests, ok) };
    }))

pub returns-in-Unuse : goal.returns-in-Unuse
returns-in-Unuse c =
    let e = c.remove_style.ensures in
    rw c.in-Unuse.is (answered c.args.styles.now c.remove_style.new.self _ _ c.remove_style.result _ e.answer e.ok e.refused (grind (arith, nat_tests)) (λ ok. record {
      book = refl;
      slots = record { styles = refl; entries = refl; uses = omega arith };
    }))

pub returns-in-Unlocal : goal.returns-in-Unlocal
returns-in-Unlocal c =
    let e = c.unset_local.ensures in
    rw c.in-Unlocal.is (answered c.args.styles.now c.unset_local.new.self _ _ c.unset_local.result _ e.answer e.ok e.refused (grind (arith, nat_tests)) (λ ok. record {
      book = refl;
      slots = record { styles = refl; entries = omega arith; uses = refl };
    }))

pub returns-then-not-has_style : goal.returns-then-not-has_style
returns-then-not-has_style c = rw c.in-Set.is (refused c.args.styles.now _ _ (rw (sym c.has_style.ensures ∙ c.if-not-has_style.true) refl))

pub font_fault-requires : goal.font_fault-requires
font_fault-requires c =
    rw (set_is (goal.at.font_fault-requires c).In-Set) (and_parts _ _ (rw c.in-Set.is at c.requires)).1

pub font_fault-requires-in-Local : goal.font_fault-requires-in-Local
font_fault-requires-in-Local c =
    rw (local_is (goal.at.font_fault-requires-in-Local c).In-Local) (and_parts _ _ (rw c.in-Local.is at c.requires)).1

pub returns-in-Some : goal.returns-in-Some
returns-in-Some c =
    let font = rw (set_is (goal.at.returns-in-Some c).In-Set) at (sym c.font_fault.ensures ∙ c.in-Some.is) in
    rw c.in-Set.is (refused c.args.styles.now _ _ (rw (sym c.has_style.ensures ∙ c.if-not-has_style.false) font))

pub returns-in-Some-font_fault : goal.returns-in-Some-font_fault
returns-in-Some-font_fault c =
    let font = rw (local_is (goal.at.returns-in-Some-font_fault c).In-Local) at (sym c.font_fault-in-Local.ensures ∙ c.in-Some-font_fault.is) in
    rw c.in-Local.is (refused c.args.styles.now _ _ font)
