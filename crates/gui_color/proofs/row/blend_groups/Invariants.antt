use Rattle.std.proofs.Common.{◌≡◌, ℕ, ◌<◌, ◌≤◌, ◌+◌, ◌*◌, slice_index_or}
use Rattle.gui_base.specs.Color.{mix, black}
use Rattle.gui_color.proofs.row.blend_groups.Given as goal

abbrev pub invariant-loop-i : goal.invariant-loop-i
invariant-loop-i l = record {
  done : (k : ℕ) → k < l.i * 32 → slice_index_or l.row k black ≡ mix l.fg (slice_index_or l.fn.row k black) l.opa;
  left : (k : ℕ) → l.i * 32 ≤ k → slice_index_or l.row k black ≡ slice_index_or l.fn.row k black;
}

abbrev pub invariant-loop-j : goal.invariant-loop-j
invariant-loop-j l = record {
  done : (k : ℕ) → k < l.from + l.j * 8 → slice_index_or l.row k black ≡ mix l.fg (slice_index_or l.fn.row k black) l.opa;
  left : (k : ℕ) → l.from + l.j * 8 ≤ k → slice_index_or l.row k black ≡ slice_index_or l.fn.row k black;
}
