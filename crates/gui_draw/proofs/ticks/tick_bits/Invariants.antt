use Rattle.gui_draw.proofs.Common.{◌≡◌, ◌+◌, sum_below, one_if, mask_bit}
use Rattle.gui_draw.proofs.ticks.tick_bits.Given as goal

abbrev pub invariant-loop-i : goal.invariant-loop-i
invariant-loop-i g l = l.steps ≡ l.initial.steps + sum_below l.i (λ k. one_if (mask_bit l.bits (l.first + k)))
