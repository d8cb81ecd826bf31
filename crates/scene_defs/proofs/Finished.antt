-- Fonts, images and the pictures of objects that are finished, and stay so.
use Rattle.std.proofs.Common.{◌≡◌, ◌≢◌, ◌∙◌, sym, ℕ, ◌*◌, ◌<◌, true, false, List, [], ◌∷◌, ◌++◌, map, length, arith, refl, Option, Some, None, inl, inr}
use Rattle.std.specs.Prelude.{◌==◌}
use Rattle.std.specs.List.{list_all}
use Rattle.std.proofs.lemmas.Bool.{cases_Bool, false≢true}
use Rattle.std.proofs.Math.Nat.{mul-le-mul_right, one-le-mul}
use Rattle.std.proofs.lemmas.Bool.Decides.{nat_tests}
use Rattle.gui_base.specs.declared.words.Format.{Format}
use Rattle.gui_base.specs.declared.words.Format.TheVariants as format
use Rattle.text_defs.specs.Building.{given, done, is_finished}
use Rattle.text_defs.specs.Fonts.{Font, font_of}
use Rattle.text_defs.specs.Images.{Image, image_of, is_done, with_row, texel_size, row_length, takes_row}
use Rattle.scene_defs.specs.declared.Change.{Change}
use Rattle.scene_defs.specs.declared.Change.TheVariants as change
use Rattle.scene_defs.specs.Assets.{glyph_in}
use Rattle.scene_defs.specs.Change.{answer_of, scene_after}
use Rattle.scene_defs.specs.Finished.{FontsStay, ImagesStay}
use Rattle.scene_defs.specs.Scene.{Scene}
use Rattle.scene_defs.specs.Texts.{is_whole_image, is_shown_image}
use Rattle.scene_defs.specs.Valid.{IsValid, is_image}
use Rattle.scene_defs.proofs.Changes.{changed-by, passed}

module _ (name : ℕ) (font : Font) where
  -- what is added behind is found after it
  found-append : (fonts : List Font) (f : Font) → font_of fonts name ≡ Some font → font_of (fonts ++ f ∷ []) name ≡ Some font
  found-append [] f e = cc
  found-append (g ∷ gs) f e = grind (arith, nat_tests, e, found-append gs f)

  -- and what does not change is found among others that keep their numbers
  found-mapped : (u : Font → Font) → ((f : Font) → ((u f).name ≡ f.name) × (f.name ≡ name → u f ≡ f)) → (fonts : List Font) →
      font_of fonts name ≡ Some font → font_of (map u fonts) name ≡ Some font
  found-mapped u same [] e = cc
  found-mapped u same (f ∷ fs) e = grind (arith, nat_tests, e, same f, found-mapped u same fs)

  is-finished : (fonts : List Font) → font_of fonts name ≡ Some font → font.finished ≡ true → is_finished fonts name ≡ true
  is-finished fonts e is = elim (cases_Bool (name == 0)) [ inl zero ↦ rw zero refl | inr some ↦ rw (some, e) is ]

pub fonts-after : (scene : Scene) (change : Change) (name : ℕ) (font : Font) → answer_of scene change ≡ None →
    font_of scene.fonts name ≡ Some font → font.finished ≡ true → font_of (scene_after scene change).fonts name ≡ Some font
fonts-after scene (change.Font f height advance) name font done e is = found-append name font scene.fonts _ e
fonts-after scene (change.Glyph f code shape rows) name font none e is =
    let taken = (passed scene (change.Glyph f code shape rows) none).1.1.0 in
    let other = λ (same : f ≡ name). false≢true (sym taken ∙ rw same (is-finished name font scene.fonts e is)) in
    found-mapped name font (given f (glyph_in code shape rows)) (λ font. grind (arith, nat_tests, other)) scene.fonts e
fonts-after scene (change.EndFont f) name font none e is =
    let ended = (passed scene (change.EndFont f) none).1.0 in
    let other = λ (same : f ≡ name). false≢true (sym ended ∙ rw same (is-finished name font scene.fonts e is)) in
    found-mapped name font (done f) (λ font. grind (arith, nat_tests, other)) scene.fonts e
fonts-after scene change name font none e is = e

pub fonts_stay : FontsStay
fonts_stay scene change name font e is =
    changed-by scene change (λ s. font_of s.fonts name ≡ Some font) e (λ none. fonts-after scene change name font none e is)

-- An image that has all its rows takes no more.
found-image : (name : ℕ) (image : Image) (images : List Image) (i : Image) → image_of images name ≡ Some image → image_of (images ++ i ∷ []) name ≡ Some image
found-image name image [] i e = cc
found-image name image (j ∷ js) i e = grind (arith, nat_tests, e, found-image name image js i)

found-rowed : (name : ℕ) (image : Image) (images : List Image) (i : ℕ) (bytes : List ℕ) → i ≢ name → image_of images name ≡ Some image → image_of (with_row images i bytes) name ≡ Some image
found-rowed name image [] i bytes other e = cc
found-rowed name image (j ∷ js) i bytes other e = grind (arith, nat_tests, other, e, found-rowed name image js i bytes other)

is-image : (name : ℕ) (image : Image) (images : List Image) → image_of images name ≡ Some image → list_all is_image images ≡ true → is_image image ≡ true
is-image name image [] e all = cc
is-image name image (j ∷ js) e all = grind (arith, nat_tests, e, all, is-image name image js)

-- rows above the last are not all of them
not-all : (y h row : ℕ) → y < h → 0 < row → y * row ≢ h * row
not-all y h row lt some same = let more = mul-le-mul_right row lt in omega (arith, more, same, some)

-- the bytes of a pixel are some
some-texel : (f : Format) → 0 < texel_size f
some-texel format.Rgb565 = omega arith
some-texel f = omega arith

no-row : (image : Image) (y len : ℕ) → is_image image ≡ true → is_done image ≡ true → takes_row image y len ≡ false
no-row image y len is done =
    let row = one-le-mul {a = image.width} {b = texel_size image.format} (grind (arith, nat_tests, is)) (some-texel image.format) in
    grind (arith, nat_tests, is, done, row, not-all y image.height (row_length image))

pub images-after : (scene : Scene) (change : Change) (name : ℕ) (image : Image) → IsValid scene → answer_of scene change ≡ None →
    image_of scene.images name ≡ Some image → is_done image ≡ true → image_of (scene_after scene change).images name ≡ Some image
images-after scene (change.Image i format w h) name image valid none e done = found-image name image scene.images _ e
images-after scene (change.ImageRow i y row) name image valid none e done =
    let shut = no-row image y (length row) (is-image name image scene.images e valid.assets.images_fit) done in
    let other : i ≢ name = λ same. cc (rw (same, e, shut) at (passed scene (change.ImageRow i y row) none).1.0) in
    found-rowed name image scene.images i row other e
images-after scene change name image valid none e done = e

pub images_stay : ImagesStay
images_stay scene change name image valid e done =
    changed-by scene change (λ s. image_of s.images name ≡ Some image) e (λ none. images-after scene change name image valid none e done)

-- an image that is finished stays so
pub whole-after : (scene : Scene) (change : Change) (i : ℕ) → IsValid scene → answer_of scene change ≡ None →
    is_whole_image scene.images i ≡ true → is_whole_image (scene_after scene change).images i ≡ true
whole-after scene change i valid none whole = by (image_of scene.images i) refl where
  by : (found : Option Image) → image_of scene.images i ≡ found → is_whole_image (scene_after scene change).images i ≡ true
  by None e = cc (rw e at whole)
  by (Some image) e = rw (images-after scene change i image valid none e (rw e at whole)) (rw e at whole)

pub shown-after : (scene : Scene) (change : Change) (o : Option ℕ) → IsValid scene → answer_of scene change ≡ None →
    is_shown_image scene.images o ≡ true → is_shown_image (scene_after scene change).images o ≡ true
shown-after scene change None valid none shown = refl
shown-after scene change (Some i) valid none shown = whole-after scene change i valid none shown
