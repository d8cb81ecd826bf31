use Rattle.std.proofs.Common.{sym, ◌∙◌, FitsSigned, w64, rules}
use Rattle.std.proofs.lemmas.Int.{to_z-of_z}
use Rattle.run_defs.specs.Numbers.{number_of}
use Rattle.scene_script.proofs.NumberLemmas.{inside, outside}
use Rattle.scene_script.proofs.numbers.within.Goals as goal

pub returns-else-is_between-clause-value : goal.returns-else-is_between-clause-value
returns-else-is_between-clause-value c =
    let n = c.in-Some.n in
    let fits : FitsSigned w64 n = search rules in
    let isnt = rw (to_z-of_z w64 c.args.low c.ranges.low, to_z-of_z w64 n fits, to_z-of_z w64 c.args.high c.ranges.high)
    at (sym c.is_between.ensures ∙ c.if-is_between.false) in
    sym (outside c.args.low c.args.high (number_of c.args.word.now) n c.requires.low c.requires.high (sym c.capped_number.ensures ∙ c.in-Some.is) isnt)

pub returns-then-is_between-clause-value : goal.returns-then-is_between-clause-value
returns-then-is_between-clause-value c =
    let n = c.in-Some.n in
    let fits : FitsSigned w64 n = search rules in
    let is = rw (to_z-of_z w64 c.args.low c.ranges.low, to_z-of_z w64 n fits, to_z-of_z w64 c.args.high c.ranges.high)
    at (sym c.is_between.ensures ∙ c.if-is_between.true) in
    rw (to_z-of_z w64 n fits)
    (sym (inside c.args.low c.args.high (number_of c.args.word.now) n c.requires.low c.requires.high (sym c.capped_number.ensures ∙ c.in-Some.is) is))
