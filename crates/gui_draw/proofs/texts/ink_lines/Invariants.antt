use Rattle.gui_draw.proofs.Common.{◌≡◌, ◌+◌, length, rect_of, face_in}
use Rattle.gui_font.specs.LinesLeft.{runs_left, setting_of}
use Rattle.gui_draw.proofs.Lining.{Lining}
use Rattle.gui_draw.proofs.texts.ink_lines.Given as goal

abbrev pub invariant-lines : goal.invariant-lines
invariant-lines g l = record {
  same : setting_of l.lines ≡ setting_of l.fn.lines;
  lining : Lining (setting_of l.fn.lines) l.lettering.look.align ((face_in l.lettering.fonts.now l.lettering.look.font).height + l.lettering.look.line) l.whole (runs_left l.fn.lines) (rect_of l.brush.part) l.brush.fg l.brush.opa l.initial.buf l.buf l.initial.steps l.steps l.initial.at.x l.initial.at.y (runs_left l.lines) l.at.x l.at.y;
}

abbrev pub decreases-lines : goal.decreases-lines
decreases-lines g l = length (runs_left l.lines)
