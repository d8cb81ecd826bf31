-- Fonts and images by their numbers, and what each change of them leaves.
use Rattle.std.proofs.Common.{◌≡◌, ◌∙◌, sym, ℕ, ◌+◌, Bool, true, false, List, [], ◌∷◌, ◌++◌, map, arith, refl, inl, inr, is_some, ap}
use Rattle.std.specs.Prelude.{if◌then◌else◌, sum, sum_by, ◌==◌}
use Rattle.std.specs.List.{list_all}
use Rattle.std.proofs.lemmas.Bool.{cases_Bool}
use Rattle.std.proofs.lemmas.Bool.Decides.{nat_tests}
use Rattle.std.proofs.lemmas.List.Folds.{list_any-append, list_all-append, list_all-map}
use Rattle.std.proofs.lemmas.List.Sums.{sum_by-cons, sum-map}
use Rattle.text_defs.specs.Building.{given, with_glyph}
use Rattle.text_defs.specs.Fonts.{Font, Glyph, font_of}
use Rattle.text_defs.specs.Images.{Image, image_of, with_row}
use Rattle.scene_defs.specs.Valid.{is_among, stand_once, is_glyph, is_font, font_names, image_names}

-- One number more, which is new.
pub once-append : (ns : List ℕ) (n : ℕ) → is_among ns n ≡ false → stand_once ns ≡ true → stand_once (ns ++ n ∷ []) ≡ true
once-append [] n off once = refl
once-append (k ∷ ns) n off once = grind (arith, nat_tests, list_any-append (λ m. m == k) ns (n ∷ []), once-append ns n)

pub all-append : {A : Type 0} (test : A → Bool) (xs : List A) (x : A) → list_all test xs ≡ true → test x ≡ true → list_all test (xs ++ x ∷ []) ≡ true
all-append test xs x all is = grind (arith, nat_tests, all, is, list_all-append test xs (x ∷ []))

-- Those that are there are found by their numbers.
pub font-among : (fonts : List Font) (name : ℕ) → is_some (font_of fonts name) ≡ is_among (font_names fonts) name
font-among [] name = refl
font-among (f ∷ fs) name = grind (arith, nat_tests, font-among fs name)

pub image-among : (images : List Image) (name : ℕ) → is_some (image_of images name) ≡ is_among (image_names images) name
image-among [] name = refl
image-among (i ∷ is) name = grind (arith, nat_tests, image-among is name)

-- A font with a glyph more.
module _ (name : ℕ) (g : Glyph) where
  pub fonts-given : (fonts : List Font) → is_glyph g ≡ true → list_all is_font fonts ≡ true → list_all is_font (with_glyph fonts name g) ≡ true
  fonts-given [] is all = refl
  fonts-given (f ∷ fs) is all = grind (arith, nat_tests, is, all, all-append is_glyph f.glyphs g, fonts-given fs)

  -- what a glyph adds to one font, the sum grows by
  pub sum-given : (w : Font → ℕ) (k : ℕ) → ((f : Font) → w (given name g f) ≡ (if name == f.name then k else 0) + w f) → (fonts : List Font) →
      stand_once (font_names fonts) ≡ true → sum_by w (with_glyph fonts name g) ≡ (if is_among (font_names fonts) name then k else 0) + sum_by w fonts
  sum-given w k each [] once = refl
  sum-given w k each (f ∷ fs) once =
      let new = sum_by-cons w (given name g f) (with_glyph fs name g) in
      let old = sum_by-cons w f fs in grind (arith, nat_tests, once, new, old, each f, sum-given w k each fs)

-- What each font and each image keeps, all of them keep: where a font changes, and where an image gets a row.
pub map-kept : {X A : Type 0} (f : X → A) (u : X → X) → ((x : X) → f (u x) ≡ f x) → (xs : List X) → map f (map u xs) ≡ map f xs
map-kept f u same [] = refl
map-kept f u same (x ∷ xs) = rw (same x, map-kept f u same xs) refl

pub map-rowed : {A : Type 0} (f : Image → A) → ((image : Image) (bytes : List ℕ) → f (record image { bytes = bytes }) ≡ f image) →
    (images : List Image) (name : ℕ) (bytes : List ℕ) → map f (with_row images name bytes) ≡ map f images
map-rowed f same [] name bytes = refl
map-rowed f same (i ∷ is) name bytes =
    elim (cases_Bool (i.name == name)) [ inl here ↦ rw (here, same i (i.bytes ++ bytes)) refl | inr later ↦ rw (later, map-rowed f same is name bytes) refl ]

pub sum-kept : {X : Type 0} (w : X → ℕ) (xs ys : List X) → map w xs ≡ map w ys → sum_by w xs ≡ sum_by w ys
sum-kept w xs ys e = sym (sum-map w xs) ∙ (ap sum e ∙ sum-map w ys)

pub all-kept : {X : Type 0} (test : X → Bool) (xs ys : List X) → map test xs ≡ map test ys → list_all test xs ≡ list_all test ys
all-kept test xs ys e = sym (list_all-map (λ b. b) test xs) ∙ (ap (list_all (λ b. b)) e ∙ list_all-map (λ b. b) test ys)
