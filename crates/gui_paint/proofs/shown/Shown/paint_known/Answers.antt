use Rattle.std.proofs.Common.{◌≡◌, ◌∙◌, sym, ap, refl, ℕ, true, false, List, [], None, Some, Option, length, arith}
use Rattle.std.specs.List.{list_all}
use Rattle.std.specs.Str.{chars}
use Rattle.std.proofs.lemmas.List.{length-map}
use Rattle.gui_base.specs.Area.{Rect, size_of}
use Rattle.gui_base.specs.Corners.{rect_of}
use Rattle.text_defs.specs.Fonts.{Font}
use Rattle.scene_defs.specs.Items.{items, items_of as items_in}
use Rattle.scene_defs.specs.Place.{place}
use Rattle.scene_defs.specs.Scene.{Object, Scene, object_at}
use Rattle.widget_defs.specs.Items.{Item}
use Rattle.gui_store.specs.Views.{scene_of}
use Rattle.gui_widgets.specs.Looks.{item_of, items_of}
use Rattle.gui_paint.proofs.Counting.{object_steps_most}
use Rattle.gui_paint.specs.Paintable.{is_drawable}
use Rattle.gui_paint.proofs.Drawable.{drawable_ready, paints_lettered, text_chars}
use Rattle.gui_paint.proofs.Plain.{paints_plain}
use Rattle.gui_paint.proofs.shown.Shown.paint_known.Goals as goal

pub returns-then-are_plain-clause-painted : goal.returns-then-are_plain-clause-painted
returns-then-are_plain-clause-painted g c =
    paints_plain c.args.buf.now c.paint_items.new.buf (scene_of c.args.self.now.store.now) (rect_of c.args.visible) c.args.h.0 _ (items_of c.args.known.now)
    c.requires.known (sym c.are_plain.ensures ∙ c.if-are_plain.true) c.paint_items.ensures.painted

pub returns-then-are_plain-clause-steps : goal.returns-then-are_plain-clause-steps
unfolding chars
returns-then-are_plain-clause-steps g c =
    object_steps_most (scene_of c.args.self.now.store.now) c.args.h.0 (size_of c.args.buf.now.area) (length c.args.known.now) 0 c.args.steps.now c.paint_items.new.steps
    (sym (length-map c.args.known.now item_of) ∙ ap length c.requires.known) (omega arith) c.paint_items.ensures.steps

pub returns-then-are_drawable-clause-steps : goal.returns-then-are_drawable-clause-steps
returns-then-are_drawable-clause-steps g c =
    let scene = scene_of c.args.self.now.store.now in
    let letters = ap length (ap chars c.text_of-letters.ensures.text ∙ text_chars scene c.args.h.0) in
    object_steps_most scene c.args.h.0 (size_of c.args.buf.now.area) (length c.args.known.now) (length (chars c.text_of-letters.result.now)) c.args.steps.now c.paint_items-then-are_drawable.new.steps
    (sym (length-map c.args.known.now item_of) ∙ ap length c.requires.known) (omega (arith, letters)) c.paint_items-then-are_drawable.ensures.steps

pub paint_items-requires-then-are_drawable-clause-ready : goal.paint_items-requires-then-are_drawable-clause-ready
paint_items-requires-then-are_drawable-clause-ready g c =
    let known = items_of c.args.known.now in
    drawable_ready (scene_of c.args.self.now.store.now).fonts known
    (ap (λ (fonts : List Font). list_all (is_drawable fonts) known) (sym c.fonts.ensures) ∙ (sym c.are_drawable.ensures ∙ c.if-are_drawable.true))

pub returns-then-are_drawable-clause-painted : goal.returns-then-are_drawable-clause-painted
returns-then-are_drawable-clause-painted g c =
    let scene = scene_of c.args.self.now.store.now in
    paints_lettered c.args.buf.now c.paint_items-then-are_drawable.new.buf scene (rect_of c.args.visible) c.args.h.0 (chars c.text_of-letters.result.now) (items_of c.args.known.now)
    c.requires.known (ap chars c.text_of-letters.ensures.text ∙ text_chars scene c.args.h.0) c.paint_items-then-are_drawable.ensures.painted

-- an object that stands nowhere paints nothing, and nothing can be drawn
none_in : (scene : Scene) (object : Option Object) (at : Option Rect) → None ≡ at → items_in scene object at ≡ []
none_in scene None at is = refl
none_in scene (Some object) None is = refl
none_in scene (Some object) (Some area) is = cc

pub returns-in_default-clause-painted : goal.returns-in_default-clause-painted
returns-in_default-clause-painted g c =
    let scene = scene_of c.args.self.now.store.now in
    let bare = c.requires.known ∙ none_in scene (object_at scene c.args.h.0) (place scene c.args.h.0) (c.in_default.ensures.value ∙ c.args.self.now.solved c.args.h.0) in
    let all = c.are_drawable.ensures ∙ ap (λ (known : List Item). list_all (is_drawable c.fonts.result.now.fonts) known) bare in
    let wrong : false ≡ true = sym c.if-are_drawable.false ∙ all in cc
