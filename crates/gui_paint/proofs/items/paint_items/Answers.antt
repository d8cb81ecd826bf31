use Rattle.std.proofs.Common.{◌≡◌, ◌+◌, ◌*◌, sym, ap, subst, map, take, length, List, arith}
use Rattle.gui_base.specs.Area.{size_of}
use Rattle.std.specs.Str.{chars}
use Rattle.gui_base.specs.Corners.{rect_of}
use Rattle.gui_base.specs.Coats.{Coat}
use Rattle.gui_store.specs.Views.{scene_of}
use Rattle.gui_widgets.specs.Looks.{item_of, items_of}
use Rattle.scene_defs.specs.Items.{coat_in}
use Rattle.gui_paint.specs.Paintable.{IsPaintable}
use Rattle.gui_paint.specs.Painting.{Paints, painted_coats}
use Rattle.gui_paint.proofs.Coating.{paints_more}
use Rattle.gui_paint.proofs.Listing.{made_at, made_more}
use Rattle.gui_paint.proofs.items.paint_items.Goals as goal

pub paint_item-requires-clause-ready : goal.paint_item-requires-clause-ready
paint_item-requires-clause-ready g c =
    made_at (IsPaintable (scene_of c.args.store.now).fonts) item_of c.args.items.now c.loop-item.item-index c.item-item.result c.loop-item-test.true c.item-item.is c.requires.ready

pub loop-item-preserved : goal.loop-item-preserved
loop-item-preserved g c =
    let scene = scene_of c.args.store.now in
    let visible = rect_of c.args.visible in
    let coat = coat_in scene.fonts scene.images (chars c.args.text.now) in
    let before = map coat (items_of (take c.loop-item.item-index c.args.items.now)) in
    let inv = c.loop-item.invariant in
    let same : size_of c.loop-item.buf.area ≡ size_of c.args.buf.now.area = ap size_of inv.painted.area_stays in
    let steps = inv.steps in
    let own = c.paint_item.ensures.steps in
    let more : (c.loop-item.item-index + 1) * (size_of c.args.buf.now.area + length (chars c.args.text.now)) ≡ c.loop-item.item-index * (size_of c.args.buf.now.area + length (chars c.args.text.now)) + (size_of c.args.buf.now.area + length (chars c.args.text.now)) = grind arith in
    record {
      painted = subst (λ (coats : List Coat). Paints c.args.buf.now c.paint_item.new.buf (painted_coats visible coats))
          (sym (made_more item_of coat c.args.items.now c.loop-item.item-index c.item-item.result c.loop-item-test.true c.item-item.is))
          (paints_more c.args.buf.now c.loop-item.buf c.paint_item.new.buf visible before (coat (item_of c.item-item.result)) inv.painted c.paint_item.ensures.painted);
      steps = omega (arith, same, steps, own, more);
    }
