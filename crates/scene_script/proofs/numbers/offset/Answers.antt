use Rattle.std.proofs.Common.{rules, arith}
use Rattle.std.proofs.lemmas.Int.{ints}
use Rattle.run_defs.specs.Numbers.{number}
use Rattle.scene_script.proofs.numbers.offset.Goals as goal

pub returns-in_err-n : goal.returns-in_err-n
unfolding number
returns-in_err-n c = search rules

pub overflow_cast-result : goal.overflow_cast-result
overflow_cast-result c = omega (arith, ints, c.in_ok-n.ensures.inside)

pub returns : goal.returns
unfolding number
returns c = search rules
