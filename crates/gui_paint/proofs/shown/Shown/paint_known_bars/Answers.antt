use Rattle.std.proofs.Common.{◌∙◌, sym, ap, subst, length, List}
use Rattle.std.specs.List.{All}
use Rattle.std.specs.Str.{chars}
use Rattle.std.proofs.lemmas.List.{length-map}
use Rattle.gui_base.specs.Area.{size_of}
use Rattle.gui_base.specs.Corners.{rect_of}
use Rattle.widget_defs.specs.Items.{Item as Painted}
use Rattle.gui_store.specs.Views.{scene_of}
use Rattle.gui_widgets.specs.Looks.{item_of}
use Rattle.gui_paint.specs.Paintable.{IsPaintable}
use Rattle.gui_paint.proofs.Counting.{bar_steps_most}
use Rattle.gui_paint.proofs.Plain.{bars_ready, paints_bars}
use Rattle.gui_paint.proofs.shown.Shown.paint_known_bars.Goals as goal

pub paint_items-requires-clause-ready : goal.paint_items-requires-clause-ready
paint_items-requires-clause-ready g c =
    subst (λ (l : List Painted). All (IsPaintable (scene_of c.args.self.now.store.now).fonts) l) (sym c.requires) (bars_ready (scene_of c.args.self.now.store.now).fonts (scene_of c.args.self.now.store.now) c.args.h.0)

pub returns-clause-painted : goal.returns-clause-painted
returns-clause-painted g c =
    paints_bars c.args.buf.now c.paint_items.new.buf (scene_of c.args.self.now.store.now) (rect_of c.args.visible) c.args.h.0 _ _ c.requires c.paint_items.ensures.painted

pub returns-clause-steps : goal.returns-clause-steps
unfolding chars
returns-clause-steps g c =
    bar_steps_most (scene_of c.args.self.now.store.now) c.args.h.0 (size_of c.args.buf.now.area) (length c.args.known.now) c.args.steps.now c.paint_items.new.steps
    (sym (length-map c.args.known.now item_of) ∙ ap length c.requires) c.paint_items.ensures.steps
