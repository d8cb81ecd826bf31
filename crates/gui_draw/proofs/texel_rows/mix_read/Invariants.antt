use Rattle.gui_draw.proofs.Common.{◌≡◌, ℕ, ◌<◌, ◌+◌, ◌*◌, ◌/◌, length, slice_index_or, black}
use Rattle.std.specs.List.{slice_index}
use Rattle.text_defs.specs.Images.{color_at}
use Rattle.gui_draw.proofs.texel_rows.mix_read.Given as goal

abbrev pub invariant-loop-i : goal.invariant-loop-i
invariant-loop-i l = record {
  room : (length l.colors ≡ 32) × (length l.opas ≡ 32);
  colors : (k : ℕ) → k < l.i → slice_index_or l.colors k black ≡ color_at l.bytes ((l.first + k) * 3);
  opas : (k : ℕ) → k < l.i → slice_index l.opas k ≡ slice_index l.bytes ((l.first + k) * 3 + 2) * l.opa / 255;
}
