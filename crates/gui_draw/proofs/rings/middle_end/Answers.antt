use Rattle.gui_draw.proofs.Common.{arith, ints}
use Rattle.gui_draw.proofs.Between.{reaches}
use Rattle.gui_draw.proofs.rings.middle_end.Goals as goal

pub returns-clause-value : goal.returns-clause-value
returns-clause-value c = omega (arith, ints)

pub returns-clause-fits : goal.returns-clause-fits
returns-clause-fits c = omega (arith, ints, reaches c.args.low c.args.high _ c.requires.few)
