-- Whole lines are a rounding.
use Rattle.std.proofs.Common.{◌≡◌, refl, ap, ◌*◌, false, arith}
use Rattle.std.proofs.lemmas.Int.{ints}
use Rattle.gui_base.specs.Area.{Rect, is_empty}
use Rattle.gui_base.specs.Lined.{lined, lines_of}
use Rattle.gui_base.specs.Lines.{top_lines, lines_below}
use Rattle.gui_base.specs.Rounding.{IsRounding}
use Rattle.gui_base.proofs.Areas.{corners_around}
use Rattle.gui_base.proofs.Insides.{inside_of, of_inside}

pub lines_sound : (panel : Rect) → is_empty panel ≡ false → IsRounding (lines_of panel)
lines_sound panel some = record {
  some = some;
  least = omega arith;
  inside = λ area h.
      let i = inside_of panel area h in
      let a = i.around in
      of_inside panel (lined panel area) (record {
        across = omega (arith, ints, a.left, a.right, i.across);
        down = i.down;
        around = record { left = omega (arith, ints); right = omega (arith, ints); top = a.top; bottom = a.bottom };
      });
  holds = λ area h.
      let a = (inside_of panel area h).around in
      corners_around (lined panel area) area (record { left = a.left; right = a.right; top = omega (arith, ints); bottom = omega (arith, ints) });
  again = λ area h. refl;
  cut = λ area steps h round some few. (ap (λ (r : Rect). top_lines r (steps * 1)) round, ap (λ (r : Rect). lines_below r (steps * 1)) round);
}
