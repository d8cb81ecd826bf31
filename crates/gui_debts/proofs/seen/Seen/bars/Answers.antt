use Rattle.std.proofs.Common.{◌∙◌, ap, Option}
use Rattle.gui_base.specs.Area.{Rect}
use Rattle.gui_debts.specs.Bars.{Kept, items_in}
use Rattle.gui_debts.specs.Kept.{packed_in, wide}
use Rattle.gui_debts.proofs.seen.Seen.bars.Goals as goal

pub returns-clause-kept : goal.returns-clause-kept
returns-clause-kept c =
    c.beside.ensures ∙ ap (λ (at : Option Rect). wide (packed_in c.args.self.now.bars) at) c.place.ensures

pub returns-clause-items : goal.returns-clause-items
returns-clause-items c =
    ap (λ (k : Kept). items_in k) (c.beside.ensures ∙ ap (λ (at : Option Rect). wide (packed_in c.args.self.now.bars) at) c.place.ensures)
