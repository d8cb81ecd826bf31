use Rattle.std.proofs.Common.{◌≡◌, ◌∙◌, sym, ap, subst, ℕ, ℤ, true, List, map, length, arith}
use Rattle.std.proofs.lemmas.List.{length-map}
use Rattle.std.specs.List.{All}
use Rattle.gui_base.specs.Area.{nat_of, width_of, size_of}
use Rattle.gui_base.specs.Props.{is_value}
use Rattle.gui_base.specs.Corners.{rect_of}
use Rattle.gui_base.specs.declared.props.Prop.TheVariants.{TextFont}
use Rattle.gui_base.specs.declared.words.Part.TheVariants.{Main}
use Rattle.text_defs.specs.Building.{is_finished}
use Rattle.widget_defs.specs.Items.{Item as Painted}
use Rattle.gui_widgets.specs.Looks.{item_of, items_of}
use Rattle.gui_widgets.specs.Texts.{IsTextIn}
use Rattle.scene_defs.proofs.Ready.{fonts_of_texts}
use Rattle.scene_defs.proofs.Values.{values_in_range}
use Rattle.scene_defs.specs.Items.{coat_in}
use Rattle.gui_store.specs.Views.{scene_of}
use Rattle.gui_paint.specs.Paintable.{IsPaintable}
use Rattle.gui_paint.specs.Painting.{Paints, painted_coats}
use Rattle.gui_paint.proofs.Counting.{steps_of_look}
use Rattle.gui_paint.proofs.Ready.{font_ended, items_ready}
use Rattle.gui_paint.proofs.Trees.{font_is, paints_object}
use Rattle.gui_paint.proofs.paint.paint_object.Goals as goal

pub paint_look-look-requires : goal.paint_look-look-requires
paint_look-look-requires g c = record { there = c.requires.stands.there }

pub items-items-requires-clause-place : goal.items-items-requires-clause-place
items-items-requires-clause-place g c =
    let near = c.requires.stands.near in
    record { x1 = near.x1; y1 = near.y1; x2 = near.x2; y2 = near.y2 }

pub paint_items-requires-clause-ready : goal.paint_items-requires-clause-ready
paint_items-requires-clause-ready g c =
    let scene = scene_of c.args.shown.now.store.now in
    let area = rect_of c.args.seen.place in
    let paints = c.paint_look-look.ensures.paints in
    let font = font_is scene c.args.h.0 paints.whole paints.is in
    let finished = subst (λ (v : ℤ). is_finished scene.fonts (nat_of v) ≡ true) (sym font) (fonts_of_texts scene c.args.h.0 Main c.requires.valid) in
    let fits = subst (λ (v : ℤ). is_value TextFont v ≡ true) (sym font) (values_in_range scene c.args.h.0 Main TextFont c.requires.valid) in
    let ended = font_ended scene.fonts (paints.whole.main TextFont) fits finished in
    let texts = subst (λ (l : List Painted). All (IsTextIn (width_of area)) l) (paints.items area) c.items-items.ensures.texts in
    let ready = items_ready scene.fonts paints.whole area ended (omega (arith, c.requires.stands.narrow)) texts in
    subst (λ (l : List Painted). All (IsPaintable scene.fonts) l) (sym (ap items_of c.as_slice.ensures.value ∙ (c.items-items.ensures.items ∙ paints.items area))) ready

pub paint_items-requires-clause-short : goal.paint_items-requires-clause-short
paint_items-requires-clause-short g c = c.paint_look-look.ensures.look.short

pub returns-clause-painted : goal.returns-clause-painted
returns-clause-painted g c =
    let scene = scene_of c.args.shown.now.store.now in
    let paints = c.paint_look-look.ensures.paints in
    let painted = subst (λ (text : List ℕ). Paints c.args.buf.now c.paint_items.new.buf (painted_coats (rect_of c.args.seen.visible) (map (coat_in scene.fonts scene.images text) (items_of c.as_slice.result.now)))) paints.text c.paint_items.ensures.painted in
    paints_object c.args.buf.now c.paint_items.new.buf scene (rect_of c.args.seen.visible) (rect_of c.args.seen.place) c.args.h.0 paints.whole _ paints.is c.requires.stands.stands
    (ap items_of c.as_slice.ensures.value ∙ (c.items-items.ensures.items ∙ paints.items (rect_of c.args.seen.place))) painted

pub returns-clause-steps : goal.returns-clause-steps
returns-clause-steps g c =
    let scene = scene_of c.args.shown.now.store.now in
    let paints = c.paint_look-look.ensures.paints in
    let listed = ap items_of c.as_slice.ensures.value ∙ (c.items-items.ensures.items ∙ paints.items (rect_of c.args.seen.place)) in
    steps_of_look scene c.args.h.0 (rect_of c.args.seen.place) paints.whole (size_of c.args.buf.now.area) _ _ c.args.steps.now c.paint_items.new.steps paints.is c.requires.stands.stands
    (sym (length-map c.as_slice.result.now item_of) ∙ ap length listed) (ap length paints.text) c.paint_items.ensures.steps
