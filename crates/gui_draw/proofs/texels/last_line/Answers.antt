use Rattle.gui_draw.proofs.Common.{arith, ints}
use Rattle.gui_draw.proofs.Between.{ends, reaches}
use Rattle.std.proofs.lemmas.Int.{clamps}
use Rattle.gui_draw.proofs.texels.last_line.Goals as goal

pub overflow_sub-result : goal.overflow_sub-result
overflow_sub-result c = omega arith

pub overflow_cast-result : goal.overflow_cast-result
overflow_cast-result c = omega (arith, ints, clamps, reaches c.args.part.y1 c.args.part.y2 c.args.count (rw c.height.ensures at c.if-height-count.false))

pub overflow_add-result : goal.overflow_add-result
overflow_add-result c = omega (arith, ints, clamps, reaches c.args.part.y1 c.args.part.y2 c.args.count (rw c.height.ensures at c.if-height-count.false))

pub returns-then-height-count-clause-value : goal.returns-then-height-count-clause-value
returns-then-height-count-clause-value c = omega (arith, ints, clamps, ends c.args.part.y1 c.args.part.y2 c.args.count (rw c.height.ensures at c.if-height-count.true))

pub returns-then-height-count-clause-fits : goal.returns-then-height-count-clause-fits
returns-then-height-count-clause-fits c = omega (arith, ints)

pub returns-else-height-count-clause-value : goal.returns-else-height-count-clause-value
returns-else-height-count-clause-value c = omega (arith, ints, clamps, reaches c.args.part.y1 c.args.part.y2 c.args.count (rw c.height.ensures at c.if-height-count.false))

pub returns-else-height-count-clause-fits : goal.returns-else-height-count-clause-fits
returns-else-height-count-clause-fits c = omega (arith, ints, clamps, reaches c.args.part.y1 c.args.part.y2 c.args.count (rw c.height.ensures at c.if-height-count.false))
