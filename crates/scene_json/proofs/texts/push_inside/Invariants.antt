use Rattle.std.proofs.Common.{◌≡◌, ◌++◌, take}
use Rattle.line_texts.specs.Quoting.{inside_quotes}
use Rattle.scene_json.proofs.texts.push_inside.Given as goal

abbrev pub invariant-loop-byte : goal.invariant-loop-byte
invariant-loop-byte l = l.word.items ≡ l.initial.word.items ++ inside_quotes (take l.byte-index l.text)
