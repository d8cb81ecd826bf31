use Rattle.std.proofs.Common.{◌≡◌, ℕ, ◌<◌, ◌+◌, ◌-◌, length, slice_index_or}
use Rattle.gui_base.specs.Color.{black}
use Rattle.gui_color.proofs.ends.ends_of.Given as goal

abbrev pub invariant-loop-k : goal.invariant-loop-k
invariant-loop-k l = record {
  len : length l.group ≡ 8;
  first : (j : ℕ) → j < l.k → slice_index_or l.group j black ≡ slice_index_or l.row j black;
  last : (j : ℕ) → j < l.k → slice_index_or l.group (4 + j) black ≡ slice_index_or l.row (length l.row - 4 + j) black;
}
