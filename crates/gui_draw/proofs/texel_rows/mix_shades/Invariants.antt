use Rattle.gui_draw.proofs.Common.{◌≡◌, ℕ, ◌<◌, ◌≤◌, ◌+◌, ◌*◌, slice_index_or, black}
use Rattle.gui_base.specs.declared.words.Format.TheVariants as format
use Rattle.gui_draw.specs.Texels.{row_over}
use Rattle.gui_draw.proofs.texel_rows.mix_shades.Given as goal

abbrev pub invariant-loop-i : goal.invariant-loop-i
invariant-loop-i l = record {
  done : (k : ℕ) → k < l.i * 32 → slice_index_or l.row k black ≡ row_over format.Rgb565Alpha l.bytes black l.opa (l.first + k) (slice_index_or l.fn.row k black);
  left : (k : ℕ) → l.i * 32 ≤ k → slice_index_or l.row k black ≡ slice_index_or l.fn.row k black;
}
