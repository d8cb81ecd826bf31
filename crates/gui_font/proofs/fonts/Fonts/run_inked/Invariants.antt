use Rattle.std.proofs.Common.{◌≡◌, ◌*◌, ◌-◌, take}
use Rattle.std.specs.Prelude.{pos, ◌≤ℤ◌, ◌-ℤ◌}
use Rattle.std.specs.Str.{chars}
use Rattle.text_defs.specs.Ink.{run_inked}
use Rattle.gui_font.specs.Sets.{face_in}
use Rattle.gui_font.proofs.fonts.Fonts.run_inked.Given as goal

abbrev pub invariant-cells : goal.invariant-cells
invariant-cells l = record {
  still : run_inked (face_in l.self l.look.font) l.look.letter (take l.count (chars l.text)) l.fn.at.x l.fn.at.y
      ≡ run_inked (face_in l.self l.look.font) l.look.letter (take (l.count - l._i) (chars l.pen.rest.now)) l.pen.at.x l.pen.at.y;
  low : (l.fn.at.x -ℤ pos (510 * l._i)) ≤ℤ l.pen.at.x;
  high : l.pen.at.x ≤ℤ l.fn.at.x;
}
