use Rattle.std.proofs.Common.{sym, ◌∙◌, ap, arith}
use Rattle.run_defs.specs.Selectors.{selector_named}
use Rattle.scene_script.proofs.ShortcutLemmas.{four, main}
use Rattle.scene_script.proofs.selectors.selector.Goals as goal

pub returns-in-main : goal.returns-in-main
returns-in-main c =
    let word = four c.args.word.now 109 97 105 110 (omega arith) (omega arith) (grind arith) (grind arith) (grind arith) (grind arith) in
    sym (ap selector_named word ∙ main)
