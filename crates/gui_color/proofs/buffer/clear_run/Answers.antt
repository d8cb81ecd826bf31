use Rattle.std.proofs.Common.{arith}
use Rattle.gui_base.specs.Color.{black}
use Rattle.gui_color.proofs.Runs.{filled_more}
use Rattle.gui_color.proofs.buffer.clear_run.Goals as goal

pub loop-pixel-preserved : goal.loop-pixel-preserved
loop-pixel-preserved g c = record {
  black = rw c.loop-pixel.invariant.black (filled_more c.args.row.now c.loop-pixel.pixel-index black c.loop-pixel-test.true);
  steps = omega arith;
}
