use Rattle.std.proofs.Common.{◌≡◌, ◌*◌, ◌-◌, ◌+◌, ◌≤◌, length}
use Rattle.std.specs.Prelude.{pos, ◌≤ℤ◌, ◌-ℤ◌}
use Rattle.text_defs.specs.Ink.{lines_inked}
use Rattle.gui_font.specs.LinesLeft.{runs_left, setting_of}
use Rattle.gui_font.specs.Sets.{face_in}
use Rattle.gui_font.proofs.fonts.Fonts.lines_inked.Given as goal

abbrev pub invariant-lines : goal.invariant-lines
invariant-lines l =
    let s = setting_of l.fn.lines in
    let pitch = (face_in l.self l.look.font).height + l.look.line in
    record {
      same : setting_of l.lines ≡ s;
      still : lines_inked s l.look.align pitch l.whole (runs_left l.fn.lines) l.fn.at.x l.fn.at.y
          ≡ lines_inked s l.look.align pitch l.whole (runs_left l.lines) l.point.x l.point.y;
      few : length (runs_left l.lines) ≤ 1001;
      x_is : l.point.x ≡ l.fn.at.x;
      low : (l.fn.at.y -ℤ pos (510 * (1001 - length (runs_left l.lines)))) ≤ℤ l.point.y;
      high : l.point.y ≤ℤ l.fn.at.y;
    }

abbrev pub decreases-lines : goal.decreases-lines
decreases-lines l = length (runs_left l.lines)
