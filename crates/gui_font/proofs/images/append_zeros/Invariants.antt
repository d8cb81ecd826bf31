use Rattle.std.proofs.Common.{◌≡◌, ◌+◌, ◌++◌, replicate, vec_len}
use Rattle.std.specs.Prelude.{vec_capacity}
use Rattle.gui_font.proofs.images.append_zeros.Given as goal

abbrev pub invariant-loop-i : goal.invariant-loop-i
invariant-loop-i l = record {
  items : l.bytes.items ≡ l.initial.bytes.items ++ replicate l._i 0;
  len : vec_len l.bytes ≡ vec_len l.initial.bytes + l._i;
  capacity : vec_capacity l.bytes ≡ vec_capacity l.initial.bytes;
}
