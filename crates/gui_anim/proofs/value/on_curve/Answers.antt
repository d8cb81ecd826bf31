use Rattle.std.proofs.Common.{arith, refl}
use Rattle.play_defs.proofs.Curves.{below_cube}
use Rattle.gui_anim.proofs.value.on_curve.Goals as goal

pub overflow_mul-first-4 : goal.overflow_mul-first-4
overflow_mul-first-4 c =
    omega (arith, below_cube c.from-t.result c.from-s.result c.from.result 0 (omega arith) (omega arith) (omega arith))

pub overflow_mul-second-4 : goal.overflow_mul-second-4
overflow_mul-second-4 c =
    omega (arith, below_cube c.from-t.result c.from-s.result 0 c.from-2.result (omega arith) (omega arith) (omega arith))

pub overflow_add-result : goal.overflow_add-result
overflow_add-result c =
    omega (arith, below_cube c.from-t.result c.from-s.result c.from.result c.from-2.result (omega arith) (omega arith) (omega arith))

pub overflow_add-result-2 : goal.overflow_add-result-2
overflow_add-result-2 c =
    omega (arith, below_cube c.from-t.result c.from-s.result c.from.result c.from-2.result (omega arith) (omega arith) (omega arith))

pub overflow_cast-result : goal.overflow_cast-result
overflow_cast-result c =
    omega (arith, below_cube c.from-t.result c.from-s.result c.from.result c.from-2.result (omega arith) (omega arith) (omega arith))

pub returns-clause-value : goal.returns-clause-value
returns-clause-value c = rw (c.from-t.ensures, c.from-s.ensures, c.from.ensures, c.from-2.ensures) refl

pub returns-clause-within : goal.returns-clause-within
returns-clause-within c =
    omega (arith, below_cube c.from-t.result c.from-s.result c.from.result c.from-2.result (omega arith) (omega arith) (omega arith))
