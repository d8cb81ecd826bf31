use Rattle.std.proofs.Common.{arith}
use Rattle.std.proofs.lemmas.Grind.{common_steps}
use Rattle.std.proofs.lemmas.Int.{ints}
use Rattle.gui_edge.proofs.screen.panel_area.Goals as goal

pub invariant_of-result : goal.invariant_of-result
invariant_of-result c = record {
  x1_fits = (omega (arith, ints), omega (arith, ints));
  y1_fits = (omega (arith, ints), omega (arith, ints));
  x2_fits = (omega (arith, ints), omega (arith, ints));
  y2_fits = (omega (arith, ints), omega (arith, ints));
}

pub returns-clause-corners : goal.returns-clause-corners
returns-clause-corners c = grind (arith, common_steps)

pub returns-clause-size : goal.returns-clause-size
returns-clause-size c = grind (arith, common_steps)
