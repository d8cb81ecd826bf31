use Rattle.std.proofs.Common.{◌≡◌, length}
use Rattle.run_defs.specs.Language.{trimmed}
use Rattle.scene_script.proofs.words.trimmed.Given as goal

abbrev pub invariant-loop-rest : goal.invariant-loop-rest
invariant-loop-rest l = trimmed l.rest ≡ trimmed l.bytes

abbrev pub decreases-loop-rest : goal.decreases-loop-rest
decreases-loop-rest l = length l.rest
