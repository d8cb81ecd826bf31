use Rattle.std.proofs.Common.{◌≡◌, ℕ, ◌<◌, slice_index, slice_index_or}
use Rattle.gui_base.specs.Color.{black}
use Rattle.gui_color.proofs.Kernel.{rgb}
use Rattle.gui_color.proofs.lanes.write_lanes.Given as goal

abbrev pub invariant-loop-k : goal.invariant-loop-k
invariant-loop-k l = (j : ℕ) → j < l.k → slice_index_or l.group j black ≡ rgb (slice_index l.numbers j)
