use Rattle.std.proofs.Common.{◌≡◌, ℕ, ◌<◌, ◌≤◌, ◌*◌, slice_index, slice_index_or}
use Rattle.gui_base.specs.Color.{mix, black}
use Rattle.gui_color.proofs.masks.mix_row.Given as goal

abbrev pub invariant-groups : goal.invariant-groups
invariant-groups l = record {
  done : (k : ℕ) → k < l.i * 8 → slice_index_or l.row k black ≡ mix (slice_index_or l.src k black) (slice_index_or l.fn.row k black) (slice_index l.opas k);
  left : (k : ℕ) → l.i * 8 ≤ k → slice_index_or l.row k black ≡ slice_index_or l.fn.row k black;
}

abbrev pub invariant-rest : goal.invariant-rest
invariant-rest l = record {
  done : (k : ℕ) → k < l.i → slice_index_or l.row k black ≡ mix (slice_index_or l.src k black) (slice_index_or l.fn.row k black) (slice_index l.opas k);
  left : (k : ℕ) → l.i ≤ k → slice_index_or l.row k black ≡ slice_index_or l.fn.row k black;
}
