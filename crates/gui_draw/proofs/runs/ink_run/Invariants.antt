use Rattle.gui_draw.proofs.Common.{chars, rect_of, face_in}
use Rattle.gui_draw.proofs.Running.{Running}
use Rattle.gui_draw.proofs.runs.ink_run.Given as goal

abbrev pub invariant-cells : goal.invariant-cells
invariant-cells g l =
    Running (face_in l.lettering.fonts.now l.lettering.look.font) l.lettering.look.letter (chars l.run.text.now) (rect_of l.brush.part) l.brush.fg l.brush.opa l.initial.buf l.buf l.initial.steps l.steps l.fn.start.x l.fn.start.y l.counter (chars l.at.left.now) l.at.cell.x l.at.cell.y
