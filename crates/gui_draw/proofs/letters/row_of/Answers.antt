use Rattle.gui_draw.proofs.Common.{arith}
use Rattle.gui_draw.specs.Letters.{row_of}
use Rattle.gui_draw.proofs.letters.row_of.Goals as goal

pub returns : goal.returns
unfolding row_of
returns c = omega arith
