use Rattle.gui_draw.proofs.Common.{if◌then◌else◌}
use Rattle.text_defs.specs.Bits.{bit}
use Rattle.text_defs.specs.BuiltIn.{column_of}
use Rattle.gui_color.proofs.Changing.{Changed}
use Rattle.gui_draw.proofs.stamps.cover_dots.Given as goal

abbrev pub invariant-loop-x : goal.invariant-loop-x
invariant-loop-x l = Changed (λ k bg. if bit (column_of l.c k) l.y then l.fg else bg) l.x l.initial.row l.row
