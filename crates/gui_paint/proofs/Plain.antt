-- Items without a text.
use Rattle.std.proofs.Common.{◌≡◌, ◌∙◌, refl, subst, ℕ, Bool, true, false, ◌&&◌, ◌==◌, if◌then◌else◌, Option, Some, None, List, [], ◌∷◌, ◌++◌, map}
use Rattle.std.specs.List.{All, list_all}
use Rattle.std.proofs.lemmas.List.Elements.{All-nil, All-cons}
use Rattle.gui_base.specs.Area.{Rect}
use Rattle.gui_base.specs.Coats.{Coat}
use Rattle.gui_color.specs.Buffer.{Buffer}
use Rattle.text_defs.specs.Fonts.{Font}
use Rattle.text_defs.specs.Images.{Image}
use Rattle.widget_defs.specs.declared.ItemPaint.{ItemPaint}
use Rattle.widget_defs.specs.declared.ItemPaint.TheVariants.{Fill, Ring, Ink, Picture}
use Rattle.widget_defs.specs.Items.{Item, bar_if, bottom_bar, fill_of, right_bar}
use Rattle.widget_defs.specs.Looks.{PartValues}
use Rattle.scene_defs.specs.Items.{bar_coats, bar_look, bars, bars_of, chars_at, coat_of, coat_in, coats, items}
use Rattle.scene_defs.specs.Place.{place}
use Rattle.scene_defs.specs.Scene.{Object, Scene, object_at}
use Rattle.gui_paint.specs.Paintable.{IsPaintable, IsPaintableIn, is_plain, is_plain_paint}
use Rattle.gui_paint.specs.Painting.{Paints, painted_bars, painted_coats, painted_object}

paint_plain : (fonts : List Font) (area : Rect) (paint : ItemPaint) → is_plain_paint paint ≡ true → IsPaintableIn fonts area paint
paint_plain fonts area (Ink look color opa) is = cc
paint_plain fonts area (Fill color opa) is = tt
paint_plain fonts area (Ring width color opa) is = tt
paint_plain fonts area (Picture image recolor opa) is = tt

coat_plain : (fonts : List Font) (images : List Image) (some other : List ℕ) (area : Rect) (paint : ItemPaint) → is_plain_paint paint ≡ true → coat_of fonts images some area paint ≡ coat_of fonts images other area paint
coat_plain fonts images some other area (Ink look color opa) is = cc
coat_plain fonts images some other area (Fill color opa) is = refl
coat_plain fonts images some other area (Ring width color opa) is = refl
coat_plain fonts images some other area (Picture image recolor opa) is = refl

both : (a b : Bool) → (a && b) ≡ true → (a ≡ true) × (b ≡ true)
both true b is = (refl, is)
both false b is = cc

-- they can be painted
pub plain_ready : (fonts : List Font) (items : List Item) → list_all is_plain items ≡ true → All (IsPaintable fonts) items
plain_ready fonts [] are = All-nil (IsPaintable fonts)
plain_ready fonts (item ∷ items) are =
    let are_both = both (is_plain item) (list_all is_plain items) are in
    All-cons (IsPaintable fonts) item items (paint_plain fonts item.area item.paint are_both.0) (plain_ready fonts items are_both.1)

-- they lay the same whatever the text of their object is
plain_coats : (fonts : List Font) (images : List Image) (some other : List ℕ) (items : List Item) → list_all is_plain items ≡ true → map (coat_in fonts images some) items ≡ map (coat_in fonts images other) items
plain_coats fonts images some other [] are = refl
plain_coats fonts images some other (item ∷ items) are =
    let are_both = both (is_plain item) (list_all is_plain items) are in
    rw (coat_plain fonts images some other item.area item.paint are_both.0, plain_coats fonts images some other items are_both.1) refl

pub paints_plain : (old new : Buffer) (scene : Scene) (visible : Rect) (h : ℕ) (text : List ℕ) (known : List Item) → known ≡ items scene h → list_all is_plain known ≡ true →
    Paints old new (painted_coats visible (map (coat_in scene.fonts scene.images text) known)) → Paints old new (painted_object scene visible h)
paints_plain old new scene visible h text known known_are plain paints =
    let same : map (coat_in scene.fonts scene.images text) known ≡ coats scene h =
    plain_coats scene.fonts scene.images text (chars_at scene h) known plain
    ∙ rw known_are refl in
    subst (λ (l : List Coat). Paints old new (painted_coats visible l)) same paints

-- Bars have no text.
both_plain : (a b : List Item) → list_all is_plain a ≡ true → list_all is_plain b ≡ true → list_all is_plain (a ++ b) ≡ true
both_plain [] b some others = others
both_plain (item ∷ a) b some others =
    let are_both = both (is_plain item) (list_all is_plain a) some in
    rw are_both.0 (both_plain a b are_both.1 others)

bar_plain : (fits : Bool) (bar : Rect) (values : PartValues) → list_all is_plain (if fits then [] else fill_of bar values ∷ []) ≡ true
bar_plain true bar values = refl
bar_plain false bar values = refl

bars_if : (scrollable : Bool) (bars : List Item) → list_all is_plain bars ≡ true → list_all is_plain (if scrollable then bars else []) ≡ true
bars_if true bars are = are
bars_if false bars are = refl

bars_plain : (scene : Scene) (object : Option Object) (area : Option Rect) → list_all is_plain (bars_of scene object area) ≡ true
bars_plain scene None area = refl
bars_plain scene (Some object) None = refl
bars_plain scene (Some object) (Some area) =
    let look = bar_look scene object in
    bars_if look.scrollable (bar_if look.reach.1 (right_bar look area) look.scrollbar ++ bar_if look.reach.0 (bottom_bar look area) look.scrollbar)
    (both_plain (bar_if look.reach.1 (right_bar look area) look.scrollbar) (bar_if look.reach.0 (bottom_bar look area) look.scrollbar)
    (bar_plain (look.reach.1 == 0) (right_bar look area) look.scrollbar) (bar_plain (look.reach.0 == 0) (bottom_bar look area) look.scrollbar))

pub bars_ready : (fonts : List Font) (scene : Scene) (h : ℕ) → All (IsPaintable fonts) (bars scene h)
bars_ready fonts scene h = plain_ready fonts (bars scene h) (bars_plain scene (object_at scene h) (place scene h))

pub paints_bars : (old new : Buffer) (scene : Scene) (visible : Rect) (h : ℕ) (text : List ℕ) (items : List Item) → items ≡ bars scene h →
    Paints old new (painted_coats visible (map (coat_in scene.fonts scene.images text) items)) → Paints old new (painted_bars scene visible h)
paints_bars old new scene visible h text items items_are paints =
    let same : map (coat_in scene.fonts scene.images text) items ≡ bar_coats scene h =
    rw items_are (plain_coats scene.fonts scene.images text [] (bars scene h) (bars_plain scene (object_at scene h) (place scene h))) in
    subst (λ (l : List Coat). Paints old new (painted_coats visible l)) same paints
