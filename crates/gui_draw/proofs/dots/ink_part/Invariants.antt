use Rattle.gui_draw.proofs.Common.{rect_of, within, only, plain, Draws, dots_in}
use Rattle.gui_draw.proofs.Lines.{first_lines}
use Rattle.gui_draw.proofs.dots.ink_part.Given as goal

abbrev pub invariant-loop-line : goal.invariant-loop-line
invariant-loop-line g l = Draws l.initial.buf l.buf l.initial.steps l.steps (within (first_lines (rect_of l.brush.part) l.line) (only (dots_in l.dots (rect_of l.brush.part)) (plain l.brush.fg l.brush.opa)))
