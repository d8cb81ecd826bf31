use Rattle.std.proofs.Common.{◌∙◌, ap, ℕ, eqb, ◌/◌, ◌^◌, ◌-◌, ◌%◌}
use Rattle.std.proofs.lemmas.Nat.{and_mask}
use Rattle.gui_color.proofs.masks.mask_bit.Goals as goal
use Rattle.gui_color.specs.Masks.{mask_bit}

pub returns : goal.returns
unfolding mask_bit
returns c =
    ap (λ (n : ℕ). eqb n 1) (and_mask (c.from.result / 2 ^ (7 - c.args.k % 8)) 1 ∙ ap (λ (b : ℕ). b / 2 ^ (7 - c.args.k % 8) % 2) c.from.ensures)
