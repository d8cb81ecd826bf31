use Rattle.std.proofs.Common.{◌∙◌, ap, sym, option_map}
use Rattle.gui_base.specs.Corners.{rect_of}
use Rattle.gui_store.specs.Views.{scene_of}
use Rattle.gui_debts.proofs.Sparing.{items-are}
use Rattle.gui_debts.proofs.seen.paints_at.Goals as goal

pub returns : goal.returns
returns c =
    let paints = c.paint_look-look.ensures.paints in
    c.paints.ensures.items
    ∙ (paints.items (rect_of c.in_ok-area.area)
    ∙ items-are (scene_of c.args.store.now) c.args.h.0 paints.whole (rect_of c.in_ok-area.area) paints.is (ap (option_map rect_of) (sym c.in_ok-area.was) ∙ c.requires.place))
