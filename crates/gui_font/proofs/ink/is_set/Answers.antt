use Rattle.std.proofs.Common.{ap, ℕ, eqb, ◌/◌, ◌^◌, ◌-◌, ◌%◌, get_or}
use Rattle.std.proofs.lemmas.Nat.{and_mask}
use Rattle.text_defs.specs.Bits.{bit_of}
use Rattle.gui_font.proofs.ink.is_set.Goals as goal

pub returns : goal.returns
unfolding bit_of
returns c = ap (λ (n : ℕ). eqb n 1) (and_mask (get_or c.args.row.now (c.args.column / 8) 0 / 2 ^ (7 - c.args.column % 8)) 1)
