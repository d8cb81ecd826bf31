-- What a change does not concern is the same after it.
use Rattle.std.proofs.Common.{◌≡◌, ◌∙◌, sym, ap, ℕ, Bool, true, false, ◌&&◌, Option, Some, None, option_map, List, [], ◌∷◌, map, refl, inl, inr}
use Rattle.std.specs.List.{list_any}
use Rattle.std.specs.Str.{chars}
use Rattle.std.proofs.Math.Path.{fun_ext}
use Rattle.std.proofs.lemmas.Bool.{cases_Bool, or_parts, or_from, or_right, or_left, and_left, and_right, and_parts, eqb-true, false≢true}
use Rattle.gui_base.specs.declared.pools.TheConstants.{POOLS}
use Rattle.gui_base.specs.declared.refusal.Refusal.{Refusal}
use Rattle.gui_base.specs.declared.props.Prop.{Prop}
use Rattle.gui_base.specs.declared.intervals.TheConstants.{HANDLE}
use Rattle.gui_base.specs.declared.props.Prop.TheVariants.{TextFont}
use Rattle.gui_base.specs.declared.words.Flag.TheVariants.{Scrollable}
use Rattle.gui_base.specs.declared.words.Part.{Part}
use Rattle.gui_base.specs.declared.words.Part.TheVariants.{Main, Scrollbar, Indicator, Knob}
use Rattle.gui_base.specs.Forest.{Forest, Empty, Tree, and_then, tree_by, all_by, path_by}
use Rattle.gui_base.specs.Intervals.{is_counted}
use Rattle.gui_base.specs.Props.{inherits}
use Rattle.gui_base.specs.Words.{same_prop}
use Rattle.style_defs.specs.declared.Setting.{Setting}
use Rattle.style_defs.specs.Book.{Book, a_setting, a_use, an_entry}
use Rattle.style_defs.specs.Cascade.{sets, settings_of}
use Rattle.style_defs.specs.Value.{value_on}
use Rattle.text_defs.specs.Face.{Face}
use Rattle.text_defs.specs.Fonts.{Font, face}
use Rattle.text_defs.specs.Images.{Image, size_or}
use Rattle.widget_defs.specs.declared.ImageLook.{ImageLook}
use Rattle.widget_defs.specs.Looks.{Look, PartValues, number_of}
use Rattle.scene_defs.specs.declared.Row.{Row}
use Rattle.scene_defs.specs.Row.{is_row, is_on}
use Rattle.scene_defs.specs.Looks.{font_at, sized, image_look, look_of}
use Rattle.scene_defs.specs.Texts.{is_text, is_shown_image}
use Rattle.scene_defs.specs.declared.Change.{Change}
use Rattle.scene_defs.specs.declared.Change.TheVariants as change
use Rattle.scene_defs.specs.Scene.{Object, Scene, row_of, is_at, object_by, object_at, row_at, styled_of, path_at, value, new_object}
use Rattle.scene_defs.specs.Change.{answer_of, answer_in_range, first_short, tests, changed, scene_by, scene_after}
use Rattle.scene_defs.specs.Edits.{text_of}
use Rattle.scene_defs.specs.Deeds.{is_in_range}
use Rattle.scene_defs.specs.Valid.{in_order, IsValid}
use Rattle.scene_defs.proofs.Changes.{Fail, tests-fail, range_done}
use Rattle.scene_defs.proofs.Distinct.{there, distinct_once}
use Rattle.debt_defs.specs.Concerns.{asked, uses_style, is_inherited, sets_inherited, concerns, face_at, image_of, look_at, IsSame, OthersAreSame, OthersLookSame}
use Rattle.debt_defs.proofs.Paths.{spares-last}
use Rattle.debt_defs.proofs.Ready.{AssetsStay, assets-stay, font-finished}
use Rattle.scene_defs.proofs.Validity.{change_keeps_valid}
use Rattle.debt_defs.proofs.Wins.{WinSame, asked-none, value-same, prop-is, local-set, local-unset, use-set, use-unset, gives, prop-set, prop-unset, style-made}
use Rattle.debt_defs.proofs.SameRows.{IsAlike, set-same, all-off, same-object}
use Rattle.debt_defs.proofs.SameTrees.{moved-same, not-in-tree, to-index, to-end, deleted-same, made-same, screen-same}

-- Styles.
any-and : (p : Object → Bool) (b : Bool) (objects : List Object) → list_any p objects ≡ false → list_any (λ object. p object && b) objects ≡ false
any-and p b [] off = refl
any-and p b (object ∷ objects) off =
    let parts : (p object ≡ false) × (list_any p objects ≡ false) = or_parts _ _ off in
    or_from _ _ (and_left _ _ parts.0) (any-and p b objects parts.1)

any-off : (p : Object → Bool) (objects : List Object) → list_any (λ object. p object && false) objects ≡ false
any-off p [] = refl
any-off p (object ∷ objects) = or_from _ _ (and_right (p object) false refl) (any-off p objects)

-- what changes what a property of k is asked of
unasked : (p : Object → Bool) (b i c : Bool) (path : List Object) → (b ≡ true → c ≡ true → i ≡ true) → list_any p (asked i path) ≡ false →
    list_any (λ object. p object && b) (asked c path) ≡ false
unasked p true i c path more off = any-and p true (asked c path) (asked-none p i c path (more refl) off)
unasked p false i c path more off = any-off p (asked c path)

inherits-same : (p q : Prop) → same_prop p q ≡ true → inherits q ≡ true → inherits p ≡ true
inherits-same p q same i = ap inherits (prop-is p q same) ∙ i

gives-inherited : (q : Prop) (settings : List Setting) → list_any (sets q) settings ≡ true → inherits q ≡ true → list_any is_inherited settings ≡ true
gives-inherited q [] given i = absurd (false≢true given)
gives-inherited q (s ∷ settings) given i = elim (cases_Bool (sets q s)) [
  | inl is ↦ or_left _ _ (inherits-same s.prop q is i)
  | inr isnt ↦ or_right _ _ (gives-inherited q settings (rw isnt at given) i)
]

-- a change of the book, which changes no value that is asked for
book-same : (scene : Scene) (after : Book) (k : ℕ) (changes : Prop → Object → Bool) →
    ((prop : Prop) (object : Object) → changes prop object ≡ false → WinSame after.styles scene.book.styles (styled_of after object) (styled_of scene.book object) prop) →
    ((prop : Prop) → list_any (changes prop) (asked (inherits prop) (path_at scene k)) ≡ false) → IsAlike scene (record scene { book = after }) k
book-same scene after k changes each off = record {
  object = refl;
  children = refl;
  values = λ part prop. value-same after.styles scene.book.styles (styled_of after) (styled_of scene.book) prop (changes prop) (each prop) (path_at scene k) part (off prop);
}

-- Every change.
module _ (scene : Scene) (v : IsValid scene) (k : ℕ) where
  differs-not : (c : Change) → Fail (tests scene c) → IsValid (scene_after scene c) → concerns scene c k ≡ false → IsAlike scene (scene_after scene c) k
  differs-not (change.Screen n) t w off = screen-same scene k (new_object n.0 _) off
  differs-not (change.New n p kind) t w off = let o = or_parts _ _ off in made-same scene k p.0 (new_object n.0 kind) o.0 o.1
  differs-not (change.Delete h) t w off = deleted-same scene v h.0 k off
  differs-not (change.Parent h p) t w off =
      let o = or_parts _ _ off in
      let out = not-in-tree scene.trees h.0 k (distinct_once scene.trees v.trees.once) (or_parts _ _ o.0).0 in
      moved-same scene v h.0 k o.0 p.0 (λ cs. and_then cs (tree_by (is_at h.0) scene.trees)) (spares-last (is_at k) (tree_by (is_at h.0) scene.trees) out) o.1
  differs-not (change.Index h n) t w off = to-index scene v h.0 k off n (distinct_once _ w.trees.once)
  differs-not (change.Front h) t w off = to-end scene v h.0 k off (distinct_once _ w.trees.once)
  differs-not (change.Back h) t w off = to-index scene v h.0 k off 0 (distinct_once _ w.trees.once)
  differs-not (change.Load h) t w off = record { object = refl; children = refl; values = λ part prop. refl }
  differs-not (change.State h state on) t w off =
      let o = or_parts _ _ off in
      set-same scene h.0 k _ (λ object. refl) o.0 (λ object. refl) false (λ e. absurd (false≢true e)) (λ e. o.1)
  differs-not (change.Style s) t w off =
      book-same scene _ k (λ prop object. false) (λ prop object stays. style-made scene.book prop s object t.0) (λ prop. all-off (asked (inherits prop) (path_at scene k)))
  differs-not (change.Set s p value) t w off =
      book-same scene _ k (λ prop object. uses_style scene.book s object && same_prop p prop) (λ prop object stays. prop-set scene.book prop s (a_setting p value) object stays)
      (λ prop. unasked (uses_style scene.book s) (same_prop p prop) (inherits p) (inherits prop) (path_at scene k) (inherits-same p prop) off)
  differs-not (change.Unset s p) t w off =
      book-same scene _ k (λ prop object. uses_style scene.book s object && same_prop p prop) (λ prop object stays. prop-unset scene.book prop s p object stays)
      (λ prop. unasked (uses_style scene.book s) (same_prop p prop) (inherits p) (inherits prop) (path_at scene k) (inherits-same p prop) off)
  differs-not (change.Use h s selector) t w off =
      book-same scene _ k (λ prop object. is_at h.0 object && gives scene.book prop s) (λ prop object stays. use-set scene.book prop h.0 (a_use s selector) object stays)
      (λ prop. unasked (is_at h.0) (gives scene.book prop s) (sets_inherited scene.book s) (inherits prop) (path_at scene k) (gives-inherited prop (settings_of scene.book.styles s)) off)
  differs-not (change.Unuse h s selector) t w off =
      book-same scene _ k (λ prop object. is_at h.0 object && gives scene.book prop s) (λ prop object stays. use-unset scene.book prop h.0 (a_use s selector) object stays)
      (λ prop. unasked (is_at h.0) (gives scene.book prop s) (sets_inherited scene.book s) (inherits prop) (path_at scene k) (gives-inherited prop (settings_of scene.book.styles s)) off)
  differs-not (change.Local h selector p value) t w off =
      book-same scene _ k (λ prop object. is_at h.0 object && same_prop p prop) (λ prop object stays. local-set scene.book prop h.0 (an_entry selector p value) object stays)
      (λ prop. unasked (is_at h.0) (same_prop p prop) (inherits p) (inherits prop) (path_at scene k) (inherits-same p prop) off)
  differs-not (change.Unlocal h selector p) t w off =
      book-same scene _ k (λ prop object. is_at h.0 object && same_prop p prop) (λ prop object stays. local-unset scene.book prop h.0 selector p object stays)
      (λ prop. unasked (is_at h.0) (same_prop p prop) (inherits p) (inherits prop) (path_at scene k) (inherits-same p prop) off)
  differs-not (change.Font f height advance) t w off = record { object = refl; children = refl; values = λ part prop. refl }
  differs-not (change.Glyph f code shape bytes) t w off = record { object = refl; children = refl; values = λ part prop. refl }
  differs-not (change.EndFont f) t w off = record { object = refl; children = refl; values = λ part prop. refl }
  differs-not (change.Image i format width height) t w off = record { object = refl; children = refl; values = λ part prop. refl }
  differs-not (change.ImageRow i y bytes) t w off = record { object = refl; children = refl; values = λ part prop. refl }
  differs-not c t w off = set-same scene _ k _ (λ object. refl) off (λ object. refl) true (λ e object. refl) (λ e. absurd (false≢true (sym e)))

-- What is alike is the same: the fonts and images that it shows are finished, and stay.
shown-image : (images : List Image) (h : ℕ) (f : Forest Object) → all_by (in_order images) f ≡ true → is_shown_image images (image_of (option_map row_of (object_by (is_at h) f))) ≡ true
shown-image images h Empty all = refl
shown-image images h (Tree object cs rest) all =
    let a = and_parts _ _ all in
    let b = and_parts _ _ a.1 in
    elim (cases_Bool (is_at h object)) [
      | inl is ↦ rw is (and_parts (is_text object.text) _ (and_parts (is_row object.row) _ (and_parts (is_counted HANDLE object.handle) _ a.0).1).1).1
      | inr isnt ↦ elim (cases_Bool (there cs h)) [
        | inl below ↦ rw (isnt, below) (shown-image images h cs b.0)
        | inr beside ↦ rw (isnt, beside) (shown-image images h rest b.1)
      ]
    ]

image-stays : (fonts later : List Font) (images after : List Image) (o : Option ℕ) → AssetsStay fonts later images after → is_shown_image images o ≡ true → image_look after o ≡ image_look images o
image-stays fonts later images after None stay shown = refl
image-stays fonts later images after (Some i) stay shown = ap (λ (found : Option Image). option_map (sized i) (size_or found)) (stay.pictures i shown)

alike-same : (scene : Scene) (change : Change) (h : ℕ) → IsValid scene → answer_of scene change ≡ None → IsAlike scene (scene_after scene change) h → IsSame scene (scene_after scene change) h
alike-same scene change h v done a =
    let after = scene_after scene change in
    let stay = assets-stay scene change v done in
    let row : row_at after h ≡ row_at scene h = ap (option_map row_of) a.object in
    record {
      row = row;
      text = ap text_of a.object;
      face = ap (λ n. face after.fonts (number_of n)) (a.values Main TextFont) ∙ stay.faces (font_at scene h) (font-finished scene h v);
      picture =
          ap (λ (r : Option Row). image_look after.images (image_of r)) row
          ∙ image-stays scene.fonts after.fonts scene.images after.images (image_of (row_at scene h)) stay (shown-image scene.images h scene.trees v.rows.numbers);
      children = a.children;
      values = a.values;
    }

pub others_are_same : OthersAreSame
others_are_same scene c k v is off = by (answer_of scene c) refl (change_keeps_valid scene c v is) where
  by : (answer : Option Refusal) → answer_of scene c ≡ answer → IsValid (scene_by answer scene c) → IsSame scene (scene_by answer scene c) k
  by (Some refusal) e w = record { row = refl; text = refl; face = refl; picture = refl; children = refl; values = λ part prop. refl }
  by None e w =
      let a = range_done (is_in_range c) (answer_in_range scene c) e in
      alike-same scene c k v e (differs-not scene v k c (tests-fail (tests scene c) (first_short scene c POOLS) a.1) w off)

-- What is the same has the same look.
abbrev made_of : Row → List ℕ → PartValues → PartValues → PartValues → PartValues → Face → Option ImageLook → Look
made_of row text main scrollbar indicator knob face image = record {
  kind = row.kind;
  main = main;
  scrollbar = scrollbar;
  indicator = indicator;
  knob = knob;
  text = chars text;
  face = face;
  value = row.value;
  min = row.min;
  max = row.max;
  image = image;
  scrollable = is_on row.flags Scrollable;
  reach = (0, 0);
  offset = (0, 0);
}

abbrev made_at : Scene → Object → ℕ → Look
made_at scene object h =
    made_of object.row object.text (value scene h Main) (value scene h Scrollbar) (value scene h Indicator) (value scene h Knob) (face_at scene h) (image_look scene.images object.row.image)

found-handle : (h : ℕ) (f : Forest Object) (object : Object) → object_by (is_at h) f ≡ Some object → object.handle ≡ h
found-handle h Empty object e = cc
found-handle h (Tree o cs rest) object e = elim (cases_Bool (is_at h o)) [
  | inl is ↦ let same : o ≡ object = cc (rw is at e) in ap (λ (a : Object). a.handle) (sym same) ∙ eqb-true o.handle h is
  | inr isnt ↦ elim (cases_Bool (there cs h)) [
    | inl below ↦ found-handle h cs object (rw (isnt, below) at e)
    | inr beside ↦ found-handle h rest object (rw (isnt, beside) at e)
  ]
]

found-look : (scene : Scene) (h : ℕ) (object : Object) → object_at scene h ≡ Some object → look_of scene object ≡ made_at scene object h
found-look scene h object e = ap (made_at scene object) (found-handle h scene.trees object e)

pub look-same : (before after : Scene) (h : ℕ) → IsSame before after h → look_at after h ≡ look_at before h
look-same before after h same = by (object_at before h) (object_at after h) refl refl where
  by : (old new : Option Object) → object_at before h ≡ old → object_at after h ≡ new → look_at after h ≡ look_at before h
  by None None was is = rw (was, is) refl
  by None (Some new) was is = cc (rw (was, is) at same.row)
  by (Some old) None was is = cc (rw (was, is) at same.row)
  by (Some old) (Some new) was is =
      let row : new.row ≡ old.row = cc (rw (was, is) at same.row) in
      let text : new.text ≡ old.text = rw (was, is) at same.text in
      let shown : image_look after.images new.row.image ≡ image_look before.images old.row.image = rw (was, is) at same.picture in
      let picture : image_look after.images old.row.image ≡ image_look before.images old.row.image = ap (λ (r : Row). image_look after.images r.image) (sym row) ∙ shown in
      let values = λ (part : Part). fun_ext (same.values part) in
      let made : made_at after new h ≡ made_at before old h = rw (row, text, same.face, values Main, values Scrollbar, values Indicator, values Knob, picture) refl in
      rw (was, is) (ap Some (found-look after h new is ∙ made ∙ sym (found-look before h old was)))

pub others_look_same : OthersLookSame
others_look_same scene c k v is off = look-same scene (changed scene c) k (others_are_same scene c k v is off)

-- So has what has the same values, where the fonts and images are the same.
pub look-alike : (before after : Scene) (k : ℕ) → after.fonts ≡ before.fonts → after.images ≡ before.images → object_at after k ≡ object_at before k → ((part : Part) → value after k part ≡ value before k part) →
    look_at after k ≡ look_at before k
look-alike before after k fonts images same values = ap (option_map (look_of after)) same ∙ by (object_at before k) refl where
  by : (found : Option Object) → object_at before k ≡ found → option_map (look_of after) found ≡ option_map (look_of before) found
  by None is = refl
  by (Some object) is =
      let made : made_at after object k ≡ made_at before object k = rw (values Main, values Scrollbar, values Indicator, values Knob, fonts, images) refl in
      ap Some (found-look after k object (same ∙ is) ∙ made ∙ sym (found-look before k object is))

-- and what keeps its path where trees are edited
pub value-on-path : (scene : Scene) (trees : Forest Object) (k : ℕ) → path_by (is_at k) [] trees ≡ path_at scene k → (part : Part) → value (record scene { trees = trees }) k part ≡ value scene k part
value-on-path scene trees k path part = ap (λ (p : List Object). λ prop. value_on scene.book.styles (map (styled_of scene.book) p) part prop) path

pub look-on-path : (scene : Scene) (trees : Forest Object) (k : ℕ) → path_by (is_at k) [] trees ≡ path_at scene k → look_at (record scene { trees = trees }) k ≡ look_at scene k
look-on-path scene trees k path = look-alike scene (record scene { trees = trees }) k refl refl (same-object scene (record scene { trees = trees }) k path) (value-on-path scene trees k path)
