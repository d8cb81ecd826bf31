use Rattle.std.proofs.Common.{◌∙◌, [], None, ap}
use Rattle.gui_debts.specs.Bars.{items_in}
use Rattle.gui_debts.specs.Kept.{Packed, narrow, wide}
use Rattle.gui_debts.specs.Owed.{Sight}
use Rattle.gui_debts.proofs.seen.Seen.nothing.Goals as goal

-- an object of which nothing is seen, but for its bars
bare : Packed → Sight
bare packed = record { visible = None; items = []; bars = items_in (wide packed None) }

pub returns-clause-sight : goal.returns-clause-sight
unfolding bare
returns-clause-sight c = ap bare (c.keep.ensures ∙ ap narrow c.none.ensures)
