use Rattle.std.proofs.Common.{◌≢◌, ◌∙◌, sym, arith}
use Rattle.std.specs.Prelude.{Some, slice_get}
use Rattle.scene_script.proofs.WordLemmas.{first_word}
use Rattle.scene_script.proofs.words.next_word.Goals as goal

pub returns-in_default-clause-word : goal.returns-in_default-clause-word
returns-in_default-clause-word c =
    let no_quote : slice_get c.from_first_word-from.result.now 0 ≢ Some 34 = grind arith in
    let word = first_word c.from_first_word-from.result.now (omega arith) c.from_first_word-from.ensures.first no_quote in
    sym c.from_first_word-from.ensures.words ∙ (word ∙ cc)
