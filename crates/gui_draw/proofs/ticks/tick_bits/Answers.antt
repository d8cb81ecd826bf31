use Rattle.gui_draw.proofs.Common.{◌+◌, ap, arith, mask_bit, one_if}
use Rattle.gui_draw.proofs.Counts.{sum_more, sum_start}
use Rattle.gui_draw.proofs.ticks.tick_bits.Goals as goal

pub loop-i-init : goal.loop-i-init
loop-i-init g c = omega (arith, sum_start (λ k. one_if (mask_bit c.args.bits.now (c.args.first + k))))

pub loop-i-preserved : goal.loop-i-preserved
loop-i-preserved g c =
    omega (arith, sum_more c.loop-i.i (λ k. one_if (mask_bit c.args.bits.now (c.args.first + k))), c.tick_if.ensures, c.loop-i.invariant, ap one_if c.mask_bit.ensures)
