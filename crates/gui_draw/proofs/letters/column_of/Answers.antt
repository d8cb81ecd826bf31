use Rattle.gui_draw.proofs.Common.{rules}
use Rattle.text_defs.specs.BuiltIn.{column_of}
use Rattle.gui_draw.proofs.letters.column_of.Goals as goal

pub returns : goal.returns
unfolding column_of
returns c = search rules
