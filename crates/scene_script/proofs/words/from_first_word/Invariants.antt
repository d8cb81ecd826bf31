use Rattle.std.proofs.Common.{◌≡◌, length}
use Rattle.run_defs.specs.Language.{words_of, is_comment}
use Rattle.scene_script.proofs.words.from_first_word.Given as goal

abbrev pub invariant-loop-rest : goal.invariant-loop-rest
invariant-loop-rest l = (words_of l.rest ≡ words_of l.bytes) × (is_comment l.rest ≡ is_comment l.bytes)

abbrev pub decreases-loop-rest : goal.decreases-loop-rest
decreases-loop-rest l = length l.rest
