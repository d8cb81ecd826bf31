use Rattle.std.proofs.Common.{◌==◌, ap}
use Rattle.gui_color.specs.Masks.{mask_bit}
use Rattle.gui_color.proofs.Bits.{bit_of_row}
use Rattle.gui_color.proofs.lanes.bits_from.Goals as goal

pub returns-clause-value : goal.returns-clause-value
unfolding mask_bit
returns-clause-value c k h =
    rw (c.byte_at-high.ensures.value, c.byte_at-low.ensures.value)
    (ap (λ z. z == 1) (bit_of_row c.args.bits.now c.args.at k (λ j. (c.type_inv.bits j).fits) h))
