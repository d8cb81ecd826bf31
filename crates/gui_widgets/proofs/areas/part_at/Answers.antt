use Rattle.std.proofs.Common.{◌≡◌, refl, arith, ℤ}
use Rattle.std.proofs.lemmas.Int.{ints}
use Rattle.gui_base.specs.Area.{Rect}
use Rattle.gui_widgets.proofs.areas.part_at.Goals as goal

same : (x1 y1 x2 y2 a b c d : ℤ) → x1 ≡ a → y1 ≡ b → x2 ≡ c → y2 ≡ d → ◌≡◌ {A = Rect} (record { x1 = x1; y1 = y1; x2 = x2; y2 = y2 }) (record { x1 = a; y1 = b; x2 = c; y2 = d })
same x1 y1 x2 y2 a b c d p q r s = rw (p, q, r, s) refl

pub returns : goal.returns
returns c = same _ _ _ _ _ _ _ _ (omega (arith, ints)) (omega (arith, ints)) (omega (arith, ints)) (omega (arith, ints))

pub invariant_of-result : goal.invariant_of-result
invariant_of-result c =
    record {
      x1_fits = omega (arith, ints);
      y1_fits = omega (arith, ints);
      x2_fits = omega (arith, ints);
      y2_fits = omega (arith, ints);
    }
