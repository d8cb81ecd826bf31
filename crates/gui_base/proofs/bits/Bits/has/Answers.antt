use Rattle.std.proofs.Common.{ap, nat_eq}
use Rattle.std.proofs.lemmas.Nat.Bits.{shr_and_one}
use Rattle.gui_base.specs.Bits.{has_bit}
use Rattle.gui_base.proofs.bits.Bits.has.Goals as goal

pub returns : goal.returns
unfolding has_bit
returns c = ap (λ b. nat_eq b 1) (shr_and_one c.args.self.0 c.args.bit)
