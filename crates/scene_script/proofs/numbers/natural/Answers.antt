use Rattle.std.proofs.Common.{rules, arith}
use Rattle.std.proofs.lemmas.Int.{ints}
use Rattle.run_defs.specs.Numbers.{natural, number}
use Rattle.scene_script.proofs.numbers.natural.Goals as goal

pub returns-in_err-n-clause-value : goal.returns-in_err-n-clause-value
unfolding natural number
returns-in_err-n-clause-value c = search rules

pub overflow_cast-result : goal.overflow_cast-result
overflow_cast-result c = omega (arith, ints, c.in_ok-n.ensures.inside)

pub returns-clause-value : goal.returns-clause-value
unfolding natural number
returns-clause-value c = search rules
