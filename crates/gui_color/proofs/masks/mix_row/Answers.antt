use Rattle.std.proofs.Common.{arith}
use Rattle.std.proofs.lemmas.Grind.{elements}
use Rattle.gui_color.proofs.masks.mix_row.Goals as goal

pub groups-preserved : goal.groups-preserved
groups-preserved c = record { done = λ k h. grind (arith, elements); left = λ k h. grind (arith, elements) }

pub rest-preserved : goal.rest-preserved
rest-preserved c = record { done = λ k h. grind (arith, elements); left = λ k h. grind (arith, elements) }

pub returns : goal.returns
returns c = λ k h. grind (arith, elements)
