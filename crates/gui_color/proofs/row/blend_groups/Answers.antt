use Rattle.std.proofs.Common.{arith}
use Rattle.std.proofs.lemmas.Grind.{elements}
use Rattle.gui_color.proofs.row.blend_groups.Goals as goal

pub loop-i-preserved : goal.loop-i-preserved
loop-i-preserved c = record { done = λ k h. grind (arith, elements); left = λ k h. grind (arith, elements) }

pub loop-j-preserved : goal.loop-j-preserved
loop-j-preserved c = record { done = λ k h. grind (arith, elements); left = λ k h. grind (arith, elements) }

pub returns : goal.returns
returns c = λ k h. grind (arith, elements)
