use Rattle.std.proofs.Common.{◌≡◌, ℕ, ◌<◌, length, slice_index, slice_index_or}
use Rattle.gui_base.specs.Color.{black}
use Rattle.gui_color.proofs.Kernel.{rgb}
use Rattle.gui_color.proofs.lanes.lanes_of.Given as goal

abbrev pub invariant-loop-k : goal.invariant-loop-k
invariant-loop-k l = record {
  len : length l.numbers ≡ 8;
  done : (j : ℕ) → j < l.k → rgb (slice_index l.numbers j) ≡ slice_index_or l.group j black;
}
