use Rattle.std.proofs.Common.{◌∙◌}
use Rattle.gui_debts.proofs.debts.bars_of.Goals as goal

pub returns-in-Some : goal.returns-in-Some
returns-in-Some c = rw c.in-Some.is (c.items.ensures ∙ c.bars.ensures.items)
