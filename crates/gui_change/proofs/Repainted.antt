-- Changes that leave what each object paints, wherever it stands: they set nothing that it paints by.
use Rattle.std.proofs.Common.{◌≡◌, ◌∙◌, refl, sym, ap, subst, ℕ, ◌++◌, true, false, List, [], Option, Some, None, option_map, ℤ, inl, inr}
use Rattle.std.specs.Str.{chars}
use Rattle.std.proofs.lemmas.Bool.{cases_Bool, false≢true}
use Rattle.std.proofs.Math.Path.{fun_ext}
use Rattle.gui_base.specs.Area.{Rect}
use Rattle.gui_base.specs.declared.props.Prop.TheVariants.{TextFont}
use Rattle.gui_base.specs.declared.words.Kind.{Kind}
use Rattle.gui_base.specs.declared.words.Part.{Part}
use Rattle.gui_base.specs.declared.words.Part.TheVariants.{Main, Scrollbar, Indicator, Knob}
use Rattle.text_defs.specs.Fonts.{Font, face}
use Rattle.text_defs.specs.Images.{Image}
use Rattle.widget_defs.specs.declared.kinds.Shown.{Shown}
use Rattle.widget_defs.specs.declared.kinds.Shown.TheVariants as shown
use Rattle.widget_defs.specs.Items.{Item, content_of, part_of, shown_items}
use Rattle.widget_defs.specs.Items as widget
use Rattle.widget_defs.specs.Kinds.{shows}
use Rattle.widget_defs.specs.Looks.{Look, PartValues, number_of}
use Rattle.scene_defs.specs.declared.Change.{Change}
use Rattle.scene_defs.specs.declared.Change.TheVariants as change
use Rattle.scene_defs.specs.declared.Row.{Row}
use Rattle.scene_defs.specs.Change.{answer_of, changed, scene_after}
use Rattle.scene_defs.specs.Edits.{over_row, with_row}
use Rattle.scene_defs.specs.Items.{items_of as items_in}
use Rattle.scene_defs.specs.Looks.{image_look, look_of}
use Rattle.scene_defs.specs.Scene.{Object, Scene, object_at, value}
use Rattle.gui_layout.proofs.SceneBoxes.{named}
use Rattle.gui_layout.specs.declared.places.Places.{Places}
use Rattle.gui_pool.specs.Table.{Table}
use Rattle.gui_concerns.specs.declared.concerned.Concerned.{Concerned}
use Rattle.gui_concerns.specs.declared.concerned.Concerned.TheVariants.{Nobody}
use Rattle.gui_change.specs.declared.scene_look.SceneLook.{SceneLook}
use Rattle.gui_debts.specs.declared.seen.Seen.{Seen}
use Rattle.gui_change.specs.Edits.{WasSeenSame}
use Rattle.gui_concerns.specs.Moving.{painted_by, sets_no_paint}
use Rattle.gui_debts.specs.Sights.{AreSeen, KeepOthers}
use Rattle.gui_concerns.proofs.Changes.{after_is}
use Rattle.gui_change.proofs.SetRows.{object-set, values-set}
use Rattle.gui_debts.proofs.Sparing.{PaintsSame, keeps}

-- Of an object what it paints by, beside its values.
pub record Painted : Type 0 where
  pub kind : Kind
  pub value : ℤ
  pub min : ℤ
  pub max : ℤ
  pub image : Option ℕ
  pub text : List ℕ

abbrev painted_of : Object → Painted
painted_of object = record {
  kind = object.row.kind;
  value = object.row.value;
  min = object.row.min;
  max = object.row.max;
  image = object.row.image;
  text = object.text;
}

-- a look of these
abbrev look_by : List Font → List Image → Painted → (Part → PartValues) → Look
look_by fonts images object values = record {
  kind = object.kind;
  main = values Main;
  scrollbar = values Scrollbar;
  indicator = values Indicator;
  knob = values Knob;
  text = chars object.text;
  face = face fonts (number_of (values Main TextFont));
  value = object.value;
  min = object.min;
  max = object.max;
  image = image_look images object.image;
  scrollable = false;
  reach = (0, 0);
  offset = (0, 0);
}

-- items go by these alone: not by whether their object is scrollable
module _ (scene : Scene) (object : Object) where
  abbrev bare : Look
  bare = look_by scene.fonts scene.images (painted_of object) (value scene object.handle)

  content-bare : (what : Shown) (content : Rect) → shown_items what (look_of scene object) content ≡ shown_items what bare content
  content-bare shown.Text content = refl
  content-bare what content = refl

  items-bare : (area : Rect) → widget.items (look_of scene object) area ≡ widget.items bare area
  items-bare area =
      let main = value scene object.handle Main in
      ap (λ (l : List Item). part_of area main ++ l) (content-bare (shows object.row.kind) (content_of area main))

abbrev items_by : List Font → List Image → (Part → PartValues) → Option Painted → Option Rect → List Item
items_by fonts images values None at = []
items_by fonts images values (Some object) None = []
items_by fonts images values (Some object) (Some area) = widget.items (look_by fonts images object values) area

items-told : (scene : Scene) (h : ℕ) (o : Option Object) → object_at scene h ≡ o → (at : Option Rect) →
    items_in scene o at ≡ items_by scene.fonts scene.images (value scene h) (option_map painted_of o) at
items-told scene h None is at = refl
items-told scene h (Some object) is None = refl
items-told scene h (Some object) is (Some area) =
    items-bare scene object area
    ∙ ap (λ (k : ℕ). widget.items (look_by scene.fonts scene.images (painted_of object) (value scene k)) area) (named scene.trees h object is)

-- where the row of one object is set in all but these, each object paints the same
row-paints : (scene : Scene) (h : ℕ) (f : Row → Row) → ((row : Row) → (f row).kind ≡ row.kind) → ((row : Row) → (f row).states ≡ row.states) →
    ((object : Object) → painted_of (over_row f object) ≡ painted_of object) → (k : ℕ) → PaintsSame scene (with_row scene h f) k
row-paints scene h f kind states same k at =
    let after = with_row scene h f in
    let values : value after k ≡ value scene k = fun_ext (λ part. fun_ext (λ prop. values-set scene h f kind states k part prop)) in
    items-told after k (object_at after k) refl at
    ∙ (ap (λ (o : Option Painted). items_by scene.fonts scene.images (value after k) o at) (object-set scene h f kind states painted_of same k scene.trees)
    ∙ (ap (λ (v : Part → PartValues). items_by scene.fonts scene.images v (option_map painted_of (object_at scene k)) at) values
    ∙ sym (items-told scene k (object_at scene k) refl at)))

set-paints : (scene : Scene) (change : Change) → sets_no_paint change ≡ true → (k : ℕ) → PaintsSame scene (scene_after scene change) k
set-paints scene (change.Flag h flag on) none = row-paints scene h.0 _ (λ row. refl) (λ row. refl) (λ object. refl)
set-paints scene (change.Pos h x y) none = row-paints scene h.0 _ (λ row. refl) (λ row. refl) (λ object. refl)
set-paints scene (change.Align h align x y) none = row-paints scene h.0 _ (λ row. refl) (λ row. refl) (λ object. refl)
set-paints scene (change.Size h width height) none = row-paints scene h.0 _ (λ row. refl) (λ row. refl) (λ object. refl)
set-paints scene (change.Scroll h x y) none = row-paints scene h.0 _ (λ row. refl) (λ row. refl) (λ object. refl)
set-paints scene (change.Flex h flow) none = row-paints scene h.0 _ (λ row. refl) (λ row. refl) (λ object. refl)
set-paints scene (change.Places h main cross track) none = row-paints scene h.0 _ (λ row. refl) (λ row. refl) (λ object. refl)
set-paints scene (change.Grow h n) none = row-paints scene h.0 _ (λ row. refl) (λ row. refl) (λ object. refl)
set-paints scene change none = absurd (false≢true none)

-- what was seen before such a change is what each object paints where it stood
all_keep : (scene : Scene) (change : Change) (table : Table Seen) → answer_of scene change ≡ None → sets_no_paint change ≡ true → AreSeen table scene → KeepOthers table Nobody (changed scene change)
all_keep scene change table done none seen h s there off found =
    keeps scene (changed scene change) h s (seen h s found)
    (subst (λ (after : Scene). PaintsSame scene after h) (sym (after_is scene change done)) (set-paints scene change none h))

-- what is known of those that paint the same after a change
pub painted-known : (places : Places) (look : SceneLook) (after : Scene) (made : Change) (concerned : Concerned) → WasSeenSame places look after made concerned → KeepOthers look.seen concerned after →
    KeepOthers look.seen (painted_by made concerned) after
painted-known places look after made concerned was known = elim (cases_Bool (sets_no_paint made)) [
  | inl none ↦
      let it = was.seen.edited.was in
      rw none (subst (KeepOthers look.seen Nobody) (sym it.is) (all_keep it.before made look.seen it.done none was.seen.shows.seen))
  | inr some ↦ rw some known
]
