use Rattle.std.proofs.Common.{rules}
use Rattle.text_defs.specs.BuiltIn.{column_of}
use Rattle.gui_font.proofs.ink.column_of.Goals as goal

pub returns : goal.returns
unfolding column_of
returns c = search rules
