use Rattle.std.proofs.Common.{◌≡◌, ◌+◌, ◌++◌, replicate, drop}
use Rattle.gui_base.specs.Color.{black}
use Rattle.gui_color.proofs.buffer.clear_run.Given as goal

abbrev pub invariant-loop-pixel : goal.invariant-loop-pixel
invariant-loop-pixel g l = record {
  black : l.row ≡ replicate l.pixel-index black ++ drop l.pixel-index l.fn.row;
  steps : l.steps ≡ l.fn.steps + l.pixel-index;
}
