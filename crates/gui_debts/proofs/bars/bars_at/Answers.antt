use Rattle.std.proofs.Common.{◌∙◌, ap, List}
use Rattle.widget_defs.specs.Items.{Item}
use Rattle.gui_store.specs.Views.{scene_of}
use Rattle.gui_widgets.specs.Looks.{items_of}
use Rattle.gui_debts.specs.Bars.{items_in, kept_of}
use Rattle.gui_debts.proofs.Keeping.{bars-kept}
use Rattle.gui_debts.proofs.bars.bars_at.Goals as goal

pub returns-clause-kept : goal.returns-clause-kept
returns-clause-kept c = c.packed.ensures ∙ ap (λ (l : List Item). kept_of l) (ap items_of c.as_slice.ensures.value ∙ c.bars-bars.ensures)

pub returns-clause-items : goal.returns-clause-items
returns-clause-items c =
    ap items_in c.packed.ensures
    ∙ (ap (λ (l : List Item). items_in (kept_of l)) (ap items_of c.as_slice.ensures.value ∙ c.bars-bars.ensures) ∙ bars-kept (scene_of c.args.store.now) c.args.h.0)
