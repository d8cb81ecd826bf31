use Rattle.gui_draw.proofs.Common.{arith, ints}
use Rattle.gui_draw.proofs.Between.{ends, reaches}
use Rattle.std.proofs.lemmas.Int.{clamps}
use Rattle.gui_draw.proofs.texels.last_column.Goals as goal

pub overflow_sub-result : goal.overflow_sub-result
overflow_sub-result c = omega arith

pub overflow_cast-result : goal.overflow_cast-result
overflow_cast-result c = omega (arith, ints, clamps, reaches c.args.part.x1 c.args.part.x2 c.args.count (rw c.width.ensures at c.if-width-count.false))

pub overflow_add-result : goal.overflow_add-result
overflow_add-result c = omega (arith, ints, clamps, reaches c.args.part.x1 c.args.part.x2 c.args.count (rw c.width.ensures at c.if-width-count.false))

pub returns-then-width-count-clause-value : goal.returns-then-width-count-clause-value
returns-then-width-count-clause-value c = omega (arith, ints, clamps, ends c.args.part.x1 c.args.part.x2 c.args.count (rw c.width.ensures at c.if-width-count.true))

pub returns-then-width-count-clause-fits : goal.returns-then-width-count-clause-fits
returns-then-width-count-clause-fits c = omega (arith, ints)

pub returns-else-width-count-clause-value : goal.returns-else-width-count-clause-value
returns-else-width-count-clause-value c = omega (arith, ints, clamps, reaches c.args.part.x1 c.args.part.x2 c.args.count (rw c.width.ensures at c.if-width-count.false))

pub returns-else-width-count-clause-fits : goal.returns-else-width-count-clause-fits
returns-else-width-count-clause-fits c = omega (arith, ints, clamps, reaches c.args.part.x1 c.args.part.x2 c.args.count (rw c.width.ensures at c.if-width-count.false))
