use Rattle.std.proofs.Common.{arith}
use Rattle.std.proofs.lemmas.Grind.{elements}
use Rattle.gui_color.proofs.masks.mask_groups.Goals as goal

pub loop-i-preserved : goal.loop-i-preserved
loop-i-preserved c = record { done = λ k h. grind (arith, elements); left = λ k h. grind (arith, elements) }
