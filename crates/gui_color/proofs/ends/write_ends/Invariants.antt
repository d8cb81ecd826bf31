use Rattle.std.proofs.Common.{◌≡◌, ℕ, ◌<◌, ◌+◌, ◌-◌, length, slice_index_or}
use Rattle.gui_base.specs.Color.{black}
use Rattle.gui_color.proofs.ends.write_ends.Given as goal

abbrev pub invariant-first : goal.invariant-first
invariant-first l = (j : ℕ) → j < l.k → slice_index_or l.row j black ≡ slice_index_or l.group j black

abbrev pub invariant-last : goal.invariant-last
invariant-last l = record {
  first : (j : ℕ) → j < 4 → j + 4 < length l.row → slice_index_or l.row j black ≡ slice_index_or l.group j black;
  last : (j : ℕ) → j < l.k → slice_index_or l.row (length l.row - 4 + j) black ≡ slice_index_or l.group (4 + j) black;
}
