use Rattle.gui_draw.proofs.Common.{pos, ◌-ℤ◌, rect_of, within, only, plain, Draws, cell_at}
use Rattle.text_defs.specs.BuiltIn.{built_in}
use Rattle.gui_draw.proofs.Lines.{first_lines}
use Rattle.gui_draw.proofs.stamps.stamp_lines.Given as goal

abbrev pub invariant-loop-line : goal.invariant-loop-line
invariant-loop-line g l =
    Draws l.initial.buf l.buf l.initial.steps l.steps (within (first_lines (rect_of l.stamp.part) l.line) (only (cell_at built_in l.c l.stamp.part.x1 (l.stamp.part.y1 -ℤ pos l.first)) (plain l.stamp.fg l.stamp.opa)))
