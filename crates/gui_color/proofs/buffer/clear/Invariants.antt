use Rattle.std.proofs.Common.{◌≡◌, ℕ, ◌+◌, ◌*◌, ◌<◌, min, length, slice_index_or}
use Rattle.gui_base.specs.Color.{black}
use Rattle.gui_color.proofs.buffer.clear.Given as goal

abbrev pub invariant-loop-i : goal.invariant-loop-i
invariant-loop-i g l = record {
  black : (k : ℕ) → k < l.i * 512 → slice_index_or l.row k black ≡ black;
  steps : l.steps ≡ l.fn.steps + min (l.i * 512) (length l.fn.row);
}
