use Rattle.std.proofs.Common.{◌≡◌, ◌∙◌, refl, ap, arith, rules, FitsSigned, w32}
use Rattle.std.proofs.lemmas.Int.{ints, to_z-of_z}
use Rattle.std.specs.Prelude.{ℤ, pos, negsuc, ◌≤ℤ◌}
use Rattle.std.specs.Int.RustNames.{unsigned_abs}
use Rattle.gui_base.specs.Area.{nat_of}
use Rattle.gui_font.proofs.lines.pixels.Goals as goal

abs_is : (w : ℤ) → pos 0 ≤ℤ w → unsigned_abs w ≡ nat_of w
abs_is (pos n) h = refl
abs_is (negsuc n) h = absurd (omega (arith, ints))

pub returns : goal.returns
returns c = let fits : FitsSigned w32 c.args.width = search rules in c.unsigned_abs.ensures.value ∙ ap unsigned_abs (to_z-of_z w32 c.args.width fits) ∙ abs_is c.args.width c.requires
