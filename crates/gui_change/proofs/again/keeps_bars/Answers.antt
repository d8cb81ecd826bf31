use Rattle.std.proofs.Common.{◌∙◌, ap, sym}
use Rattle.gui_debts.specs.Bars.{items_in}
use Rattle.gui_debts.proofs.Keeping.{same-kept}
use Rattle.gui_change.proofs.again.keeps_bars.Goals as goal

pub returns-in-Some : goal.returns-in-Some
returns-in-Some c = λ same. rw c.in-Some.is (sym c.bars.ensures.items ∙ (ap items_in (same-kept _ _ (sym c.are_equal.ensures ∙ same)) ∙ c.bars_at.ensures.items))
