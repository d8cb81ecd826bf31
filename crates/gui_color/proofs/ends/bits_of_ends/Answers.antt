use Rattle.std.proofs.Common.{◌-◌, ◌/◌, ◌%◌, ◌^◌, ◌==◌, ap, arith}
use Rattle.gui_color.proofs.Bits.{first_bits, last_bits}
use Rattle.gui_color.proofs.ends.bits_of_ends.Goals as goal

pub returns-clause-first : goal.returns-clause-first
returns-clause-first c k h =
    ap (λ z. z == 1) (first_bits c.args.byte (c.args.byte / 2 ^ (8 - c.args.count) % 16) k (omega arith) h)

pub returns-clause-last : goal.returns-clause-last
returns-clause-last c k h = ap (λ z. z == 1) (last_bits c.args.byte c.args.count k c.requires.count.0 c.requires.count.1 h)
