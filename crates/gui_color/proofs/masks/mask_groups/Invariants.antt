use Rattle.std.proofs.Common.{◌≡◌, ℕ, ◌<◌, ◌≤◌, ◌+◌, ◌*◌, slice_index_or}
use Rattle.gui_base.specs.Color.{black}
use Rattle.gui_color.specs.Masks.{mask_bit, masked}
use Rattle.gui_color.proofs.masks.mask_groups.Given as goal

abbrev pub invariant-loop-i : goal.invariant-loop-i
invariant-loop-i l = record {
  done : (k : ℕ) → k < l.i * 8 → slice_index_or l.row k black ≡ masked (mask_bit l.bits (l.first + k)) l.fg l.opa (slice_index_or l.fn.row k black);
  left : (k : ℕ) → l.i * 8 ≤ k → slice_index_or l.row k black ≡ slice_index_or l.fn.row k black;
}
