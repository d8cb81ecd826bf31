use Rattle.std.proofs.Common.{◌≡◌, ◌+◌, ◌*◌, ◌≤◌, ◌++◌, take}
use Rattle.arrayvec.specs.ArrayVec.{array_vec_len}
use Rattle.line_texts.specs.Quoting.{inside_quotes}
use Rattle.scene_ask.proofs.adding.push_inside.Given as goal

-- what stands for the bytes so far was added
abbrev pub invariant-loop-byte : goal.invariant-loop-byte
invariant-loop-byte l = record {
  items : l.text.items ≡ l.initial.text.items ++ inside_quotes (take l.byte-index l.said);
  len : array_vec_len l.text ≤ array_vec_len l.initial.text + 2 * l.byte-index;
}
