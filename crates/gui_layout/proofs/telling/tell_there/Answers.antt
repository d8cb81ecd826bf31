use Rattle.std.proofs.Common.{◌∙◌, sym}
use Rattle.gui_boxes.specs.Pending.{is_first}
use Rattle.gui_boxes.specs.Tables.{told}
use Rattle.gui_boxes.proofs.Reports.{tells-none}
use Rattle.gui_layout.proofs.telling.tell_there.Goals as goal

pub tell_up-requires-clause-there : goal.tell_up-requires-clause-there
tell_up-requires-clause-there c = sym c.has.ensures ∙ c.if-has.true

pub tell_up-requires-clause-listed : goal.tell_up-requires-clause-listed
tell_up-requires-clause-listed c = c.requires.listed (sym c.has.ensures ∙ c.if-has.true)

pub returns-then-has-clause-some : goal.returns-then-has-clause-some
returns-then-has-clause-some c = λ k on off. sym c.has.ensures ∙ c.if-has.true

pub returns-else-has-clause-tells : goal.returns-else-has-clause-tells
returns-else-has-clause-tells c = tells-none c.args.tree.now.forest (is_first c.args.pending.now) (told c.args.entries.now) c.args.moved.now.items
