use Rattle.gui_draw.proofs.Common.{arith}
use Rattle.std.proofs.lemmas.Grind.{elements}
use Rattle.gui_draw.proofs.texel_rows.mix_shades.Goals as goal

pub loop-i-preserved : goal.loop-i-preserved
loop-i-preserved c = record { done = λ k h. grind (arith, elements); left = λ k h. grind (arith, elements) }

pub returns : goal.returns
returns c = λ k h. grind (arith, elements)
