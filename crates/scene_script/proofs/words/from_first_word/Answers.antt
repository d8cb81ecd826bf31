use Rattle.std.proofs.Common.{◌∙◌, arith}
use Rattle.scene_script.proofs.WordLemmas.{space_before}
use Rattle.scene_script.proofs.words.from_first_word.Goals as goal

pub loop-rest-preserved : goal.loop-rest-preserved
loop-rest-preserved c =
    let same = space_before c.loop-rest.rest.now (omega arith) (omega arith) in
    (same.0 ∙ c.loop-rest.invariant.0, same.1 ∙ c.loop-rest.invariant.1)
