use Rattle.std.proofs.Common.{◌∙◌, sym, ap, ◌&&◌, List}
use Rattle.std.specs.List.{list_any}
use Rattle.gui_base.specs.Corners.{rect_of}
use Rattle.widget_defs.specs.Items.{Item as Painted}
use Rattle.gui_widgets.specs.Looks.{items_of}
use Rattle.cover_defs.specs.Cover.{has_area, hides}
use Rattle.gui_store.specs.Views.{scene_of}
use Rattle.gui_paint.proofs.Counting.{items_of_look}
use Rattle.gui_paint.proofs.search.is_cover.Goals as goal

pub paint_look-look-requires : goal.paint_look-look-requires
paint_look-look-requires c = record { there = c.requires.stands.there }

pub items-items-requires-clause-place : goal.items-items-requires-clause-place
items-items-requires-clause-place c =
    let near = c.requires.stands.near in
    record { x1 = near.x1; y1 = near.y1; x2 = near.x2; y2 = near.y2 }

pub returns : goal.returns
returns c =
    let scene = scene_of c.args.shown.now.store.now in
    let area = rect_of c.args.seen.place in
    let part = rect_of c.args.part in
    let paints = c.paint_look-look.ensures.paints in
    let listed = ap items_of c.as_slice.ensures.value ∙ (c.items-items.ensures.items ∙ paints.items area) in
    c.covers.ensures
    ∙ ap (λ (l : List Painted). has_area (rect_of c.args.seen.visible) part && list_any (hides part) l) (listed ∙ sym (items_of_look scene c.args.h.0 area paints.whole paints.is c.requires.stands.stands))
