use Rattle.std.proofs.Common.{◌≡◌, ℕ, ◌<◌, ◌≤◌, ◌*◌, slice_index_or}
use Rattle.gui_base.specs.Color.{mix, black}
use Rattle.gui_color.proofs.row.blend_turn.Given as goal

abbrev pub invariant-loop-i : goal.invariant-loop-i
invariant-loop-i l = record {
  done : (k : ℕ) → k < l.i * 8 → slice_index_or l.groups k black ≡ mix l.fg (slice_index_or l.fn.groups k black) l.opa;
  left : (k : ℕ) → l.i * 8 ≤ k → slice_index_or l.groups k black ≡ slice_index_or l.fn.groups k black;
}
