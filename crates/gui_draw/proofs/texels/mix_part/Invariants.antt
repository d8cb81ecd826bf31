use Rattle.gui_draw.proofs.Common.{rect_of, within, Draws}
use Rattle.gui_draw.proofs.Lines.{first_lines}
use Rattle.gui_draw.specs.Texels.{texels_in}
use Rattle.gui_draw.proofs.texels.mix_part.Given as goal

abbrev pub invariant-loop-line : goal.invariant-loop-line
invariant-loop-line g l = Draws l.initial.buf l.buf l.initial.steps l.steps (within (first_lines (rect_of l.part) l.line) (texels_in l.texels (rect_of l.part)))
