-- Items name fonts and images that are finished, and what is finished stays.
use Rattle.std.proofs.Common.{◌≡◌, ◌∙◌, sym, ap, ℕ, ◌==◌, Bool, ◌++◌, true, false, Option, Some, None, List, [], ◌∷◌, refl, inl, inr, ℤ}
use Rattle.std.specs.Prelude.{if◌then◌else◌, pos, negsuc}
use Rattle.std.proofs.lemmas.Bool.{cases_Bool, false≢true}
use Rattle.gui_base.specs.Area.{Rect, nat_of}
use Rattle.gui_base.specs.Props.{is_value}
use Rattle.gui_base.specs.declared.props.Prop.TheVariants.{TextFont}
use Rattle.gui_base.specs.declared.words.Part.TheVariants.{Main}
use Rattle.text_defs.specs.Building.{is_finished}
use Rattle.text_defs.specs.Fonts.{Font, font_of, face}
use Rattle.text_defs.specs.Images.{Image, image_of, size_in, is_done}
use Rattle.widget_defs.specs.declared.ImageLook.{ImageLook}
use Rattle.widget_defs.specs.declared.ItemPaint.{ItemPaint}
use Rattle.widget_defs.specs.declared.ItemPaint.TheVariants.{Fill, Ring, Ink, Picture}
use Rattle.widget_defs.specs.declared.kinds.Shown.{Shown}
use Rattle.widget_defs.specs.declared.kinds.Shown.TheVariants as shown
use Rattle.widget_defs.specs.Items.{Item, shown_items, content_of, items as items_in, bars as bars_in, fill_of, right_bar, bottom_bar, picture_of}
use Rattle.widget_defs.specs.Kinds.{shows}
use Rattle.widget_defs.specs.Looks.{Look, PartValues, number_of}
use Rattle.scene_defs.specs.declared.Change.{Change}
use Rattle.scene_defs.specs.Change.{answer_of, scene_after}
use Rattle.scene_defs.specs.Items.{items, items_of, bars, bars_of, bar_look}
use Rattle.scene_defs.specs.Looks.{font_at, image_look, look_of}
use Rattle.scene_defs.specs.Place.{place}
use Rattle.scene_defs.specs.Scene.{Object, Scene, object_at, value}
use Rattle.scene_defs.specs.Texts.{is_whole_image}
use Rattle.scene_defs.specs.Valid.{IsValid}
use Rattle.scene_defs.proofs.Finished.{fonts-after, images-after}
use Rattle.scene_defs.proofs.Ready.{fonts_of_texts}
use Rattle.scene_defs.proofs.Values.{values_in_range}

-- What is finished stays.
pub record AssetsStay (fonts later : List Font) (images after : List Image) : Type 0 where
  pub faces : (n : ℕ) → is_finished fonts n ≡ true → face later n ≡ face fonts n
  pub pictures : (i : ℕ) → is_whole_image images i ≡ true → image_of after i ≡ image_of images i

pub assets-stay : (scene : Scene) (change : Change) → IsValid scene → answer_of scene change ≡ None →
    AssetsStay scene.fonts (scene_after scene change).fonts scene.images (scene_after scene change).images
unfolding face
assets-stay scene change valid done = record { faces = faces; pictures = λ i whole. by i whole (image_of scene.images i) refl } where
  some : (n : ℕ) → (n == 0) ≡ false → is_finished scene.fonts n ≡ true → (found : Option Font) → font_of scene.fonts n ≡ found →
      font_of (scene_after scene change).fonts n ≡ font_of scene.fonts n
  some n other is None e = cc (rw (other, e) at is)
  some n other is (Some font) e = fonts-after scene change n font done e (rw (other, e) at is) ∙ sym e

  faces : (n : ℕ) → is_finished scene.fonts n ≡ true → face (scene_after scene change).fonts n ≡ face scene.fonts n
  faces n is = elim (cases_Bool (n == 0)) [
    | inl none ↦ rw none refl
    | inr other ↦ rw (some n other is (font_of scene.fonts n) refl) refl
  ]

  by : (i : ℕ) → is_whole_image scene.images i ≡ true → (found : Option Image) → image_of scene.images i ≡ found → image_of (scene_after scene change).images i ≡ image_of scene.images i
  by i whole None e = cc (rw e at whole)
  by i whole (Some image) e = images-after scene change i image valid done e (rw e at whole) ∙ sym e

-- Whether what an item names is finished.
abbrev pub IsReady : List Font → List Image → ItemPaint → Type 0
IsReady fonts images (Fill color opa) = Unit {0}
IsReady fonts images (Ring width color opa) = Unit {0}
IsReady fonts images (Ink look color opa) = is_finished fonts look.font ≡ true
IsReady fonts images (Picture image recolor opa) = is_whole_image images image ≡ true

abbrev pub AreReady : List Font → List Image → List Item → Type 0
AreReady fonts images [] = Unit {0}
AreReady fonts images (item ∷ items) = IsReady fonts images item.paint × AreReady fonts images items

module _ (fonts : List Font) (images : List Image) where
  picture-ready : (image : Option ImageLook) (values : PartValues) (content : Rect) → ((i : ImageLook) → image ≡ Some i → is_whole_image images i.id ≡ true) →
      AreReady fonts images (picture_of image values content)
  picture-ready None values content whole = tt
  picture-ready (Some i) values content whole = (whole i refl, tt)

  shown-ready : (what : Shown) (look : Look) (content : Rect) → is_finished fonts (number_of (look.main TextFont)) ≡ true →
      ((i : ImageLook) → look.image ≡ Some i → is_whole_image images i.id ≡ true) → AreReady fonts images (shown_items what look content)
  shown-ready shown.Nothing look content font whole = tt
  shown-ready shown.Text look content font whole = (font, tt)
  shown-ready shown.Picture look content font whole = picture-ready look.image look.main content whole
  shown-ready shown.Share look content font whole = (tt, (tt, tt))
  shown-ready shown.ShareAndKnob look content font whole = (tt, (tt, (tt, (tt, tt))))
  shown-ready shown.BoxAndText look content font whole = (tt, (tt, (font, tt)))

  items-ready : (look : Look) (area : Rect) → is_finished fonts (number_of (look.main TextFont)) ≡ true →
      ((i : ImageLook) → look.image ≡ Some i → is_whole_image images i.id ≡ true) → AreReady fonts images (items_in look area)
  items-ready look area font whole = (tt, (tt, shown-ready (shows look.kind) look (content_of area look.main) font whole))

-- an image with a size is finished
sized-whole : (images : List Image) (i : ℕ) (size : ℕ × ℕ) → size_in images i ≡ Some size → is_whole_image images i ≡ true
sized-whole images i size e = by (image_of images i) refl where
  by : (found : Option Image) → image_of images i ≡ found → is_whole_image images i ≡ true
  by None f = cc (rw f at e)
  by (Some image) f = elim (cases_Bool (is_done image)) [ inl is ↦ rw f is | inr isnt ↦ cc (rw (f, isnt) at e) ]

image-whole : (images : List Image) (o : Option ℕ) (look : ImageLook) → image_look images o ≡ Some look → is_whole_image images look.id ≡ true
image-whole images None look e = cc
image-whole images (Some i) look e = by (size_in images i) refl where
  by : (size : Option (ℕ × ℕ)) → size_in images i ≡ size → is_whole_image images look.id ≡ true
  by None s = cc (rw s at e)
  by (Some size) s =
      let same : i ≡ look.id = cc (rw s at e) in
      ap (is_whole_image images) (sym same) ∙ sized-whole images i size s

-- a value that is a font is a number
font-number : (n : ℤ) → is_value TextFont n ≡ true → nat_of n ≡ number_of n
font-number (pos n) is = refl
font-number (negsuc n) is = absurd (false≢true is)

-- the font of a text is finished
pub font-finished : (scene : Scene) (h : ℕ) → IsValid scene → is_finished scene.fonts (font_at scene h) ≡ true
font-finished scene h valid =
    ap (is_finished scene.fonts) (sym (font-number (value scene h Main TextFont) (values_in_range scene h Main TextFont valid)))
    ∙ fonts_of_texts scene h Main valid

pub scene-ready : (scene : Scene) (h : ℕ) → IsValid scene → AreReady scene.fonts scene.images (items scene h)
scene-ready scene h valid = by (object_at scene h) (place scene h) where
  by : (object : Option Object) (area : Option Rect) → AreReady scene.fonts scene.images (items_of scene object area)
  by None area = tt
  by (Some object) None = tt
  by (Some object) (Some area) =
      items-ready scene.fonts scene.images (look_of scene object) area (font-finished scene object.handle valid)
      (λ i e. image-whole scene.images object.row.image i e)

-- bars name nothing
some-bars : (fonts : List Font) (images : List Image) (a b : Bool) (right bottom : Item) → IsReady fonts images right.paint → IsReady fonts images bottom.paint →
    AreReady fonts images ((if a then [] else right ∷ []) ++ (if b then [] else bottom ∷ []))
some-bars fonts images true true right bottom r s = tt
some-bars fonts images true false right bottom r s = (s, tt)
some-bars fonts images false true right bottom r s = (r, tt)
some-bars fonts images false false right bottom r s = (r, (s, tt))

bars-in : (fonts : List Font) (images : List Image) (look : Look) (area : Rect) → AreReady fonts images (bars_in look area)
bars-in fonts images look area = elim (cases_Bool look.scrollable) [
  | inl is ↦ rw is (some-bars fonts images (look.reach.1 == 0) (look.reach.0 == 0) (fill_of (right_bar look area) look.scrollbar) (fill_of (bottom_bar look area) look.scrollbar) tt tt)
  | inr isnt ↦ rw isnt tt
]

pub bars-ready : (scene : Scene) (h : ℕ) → AreReady scene.fonts scene.images (bars scene h)
bars-ready scene h = by (object_at scene h) (place scene h) where
  by : (object : Option Object) (area : Option Rect) → AreReady scene.fonts scene.images (bars_of scene object area)
  by None area = tt
  by (Some object) None = tt
  by (Some object) (Some area) = bars-in scene.fonts scene.images (bar_look scene object) area
