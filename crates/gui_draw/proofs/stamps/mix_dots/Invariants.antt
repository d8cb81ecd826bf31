use Rattle.text_defs.specs.Bits.{bit}
use Rattle.text_defs.specs.BuiltIn.{column_of}
use Rattle.gui_draw.proofs.Common.{masked}
use Rattle.gui_color.proofs.Changing.{Changed}
use Rattle.gui_draw.proofs.stamps.mix_dots.Given as goal

abbrev pub invariant-loop-x : goal.invariant-loop-x
invariant-loop-x l = Changed (λ k. masked (bit (column_of l.c k) l.y) l.fg l.opa) l.x l.initial.row l.row
