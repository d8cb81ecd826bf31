-- Items whose texts can be drawn.
use Rattle.std.proofs.Common.{◌≡◌, ◌≤◌, refl, subst, ℕ, true, nat_le, Option, Some, None, List, [], ◌∷◌, map, arith}
use Rattle.std.specs.List.{All, list_all}
use Rattle.std.specs.Str.{chars}
use Rattle.std.proofs.lemmas.Bool.{and_parts}
use Rattle.std.proofs.lemmas.Bool.Decides.{nat_tests}
use Rattle.std.proofs.lemmas.List.Elements.{All-nil, All-cons}
use Rattle.gui_base.specs.Area.{Rect}
use Rattle.gui_base.specs.Coats.{Coat}
use Rattle.gui_color.specs.Buffer.{Buffer}
use Rattle.text_defs.specs.Fonts.{Font, finished}
use Rattle.widget_defs.specs.declared.ItemPaint.{ItemPaint}
use Rattle.widget_defs.specs.declared.ItemPaint.TheVariants.{Fill, Ring, Ink, Picture}
use Rattle.widget_defs.specs.Items.{Item}
use Rattle.scene_defs.specs.Edits.{text_of, text_at}
use Rattle.scene_defs.specs.Items.{chars_at, chars_of, coat_in, coats, items}
use Rattle.scene_defs.specs.Scene.{Object, Scene, object_at}
use Rattle.gui_paint.specs.Paintable.{IsPaintable, IsPaintableIn, is_drawable, is_drawable_paint}
use Rattle.gui_paint.specs.Painting.{Paints, painted_coats, painted_object}
use Rattle.gui_paint.proofs.Ready.{ended_by}

le_by : (a b : ℕ) → nat_le a b ≡ true → a ≤ b
le_by a b is = grind (arith, nat_tests)

drawable_paint : (fonts : List Font) (area : Rect) (paint : ItemPaint) → is_drawable_paint fonts area paint ≡ true → IsPaintableIn fonts area paint
drawable_paint fonts area (Ink look color opa) is =
    let own = and_parts _ _ is in
    let letters = and_parts _ _ own.1 in
    let lines = and_parts _ _ letters.1 in
    record {
      finished = ended_by (finished fonts look.font) own.0;
      set = record { letter = le_by _ _ letters.0; line = le_by _ _ lines.0; wide = le_by _ _ lines.1 };
    }
drawable_paint fonts area (Fill color opa) is = tt
drawable_paint fonts area (Ring width color opa) is = tt
drawable_paint fonts area (Picture image recolor opa) is = tt

pub drawable_ready : (fonts : List Font) (items : List Item) → list_all (is_drawable fonts) items ≡ true → All (IsPaintable fonts) items
drawable_ready fonts [] are = All-nil (IsPaintable fonts)
drawable_ready fonts (item ∷ items) are =
    let both = and_parts _ _ are in
    All-cons (IsPaintable fonts) item items (drawable_paint fonts item.area item.paint both.0) (drawable_ready fonts items both.1)

chars_same : (object : Option Object) → chars (text_of object) ≡ chars_of object
unfolding chars
chars_same None = refl
chars_same (Some object) = refl

-- the characters of an object's bytes
pub text_chars : (scene : Scene) (h : ℕ) → chars (text_at scene h) ≡ chars_at scene h
text_chars scene h = chars_same (object_at scene h)

-- an object is painted by its items and its text
pub paints_lettered : (old new : Buffer) (scene : Scene) (visible : Rect) (h : ℕ) (text : List ℕ) (known : List Item) → known ≡ items scene h → text ≡ chars_at scene h →
    Paints old new (painted_coats visible (map (coat_in scene.fonts scene.images text) known)) → Paints old new (painted_object scene visible h)
paints_lettered old new scene visible h text known known_are text_is paints =
    let same : map (coat_in scene.fonts scene.images text) known ≡ coats scene h = rw (known_are, text_is) refl in
    subst (λ (l : List Coat). Paints old new (painted_coats visible l)) same paints
