use Rattle.std.proofs.Common.{◌∙◌, sym, ap}
use Rattle.layout_defs.specs.Solving.{in_order}
use Rattle.gui_flex.specs.Items.{item_of, items_of}
use Rattle.gui_boxes.proofs.Lists.{map-reverse}
use Rattle.gui_boxes.proofs.items.turn.Goals as goal

pub returns-then-back-clause-items : goal.returns-then-back-clause-items
returns-then-back-clause-items c =
    ap items_of c.reverse.ensures.after ∙ (map-reverse item_of c.args.items.now ∙ ap (λ b. in_order b (items_of c.args.items.now)) (sym c.if-back.true))
