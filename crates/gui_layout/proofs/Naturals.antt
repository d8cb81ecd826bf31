-- The values of properties are natural numbers.
use Rattle.std.proofs.Common.{◌≡◌, refl, ℕ, true, ℤ, pos, negsuc, arith}
use Rattle.std.specs.Int.RustNames.{unsigned_abs}
use Rattle.std.proofs.lemmas.Bool.Decides.{nat_tests}
use Rattle.std.proofs.lemmas.Int.{ints}
use Rattle.gui_base.specs.Props.{is_value, values_of}
use Rattle.gui_base.specs.declared.props.Prop.{Prop}

lowest : (prop : Prop) → (values_of prop).low ≡ pos 0
lowest prop = grind arith

pub natural_value : (prop : Prop) (v : ℤ) (n : ℕ) → is_value prop v ≡ true → n ≡ unsigned_abs v → v ≡ pos n
natural_value prop (pos m) n e is = rw is refl
natural_value prop (negsuc m) n e is = absurd (grind (arith, ints, nat_tests, e, lowest prop))
