use Rattle.gui_draw.proofs.Common.{◌≡◌, ◌+◌, sum_below, one_if}
use Rattle.text_defs.specs.Bits.{bit}
use Rattle.text_defs.specs.BuiltIn.{column_of}
use Rattle.gui_draw.proofs.stamps.tick_dots.Given as goal

abbrev pub invariant-loop-x : goal.invariant-loop-x
invariant-loop-x g l = l.steps ≡ l.initial.steps + sum_below l.x (λ k. one_if (bit (column_of l.c k) l.y))
