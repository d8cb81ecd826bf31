use Rattle.gui_draw.proofs.Common.{arith, ints}
use Rattle.gui_draw.proofs.Between.{reaches}
use Rattle.gui_draw.proofs.rows.y_of.Goals as goal

pub overflow_cast-result : goal.overflow_cast-result
overflow_cast-result c = omega (arith, ints, reaches c.args.area.y1 c.args.area.y2 c.args.line c.requires)

pub overflow_add-result : goal.overflow_add-result
overflow_add-result c = omega (arith, ints, reaches c.args.area.y1 c.args.area.y2 c.args.line c.requires)

pub returns : goal.returns
returns c = omega (arith, ints, reaches c.args.area.y1 c.args.area.y2 c.args.line c.requires)
