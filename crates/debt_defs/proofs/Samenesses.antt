-- What is the same by the tests is equal, or lays the same.
use Rattle.std.proofs.Common.{◌≡◌, ◌∙◌, sym, ap, ℕ, true, false, eqb, ◌&&◌, Option, Some, None, List, [], ◌∷◌, map, refl, arith, inl, inr, ℤ}
use Rattle.std.proofs.lemmas.Bool.{and_parts, or_cases, eqb-true}
use Rattle.std.proofs.lemmas.Bool.Decides.{nat_tests, Decides-int_eq}
use Rattle.std.proofs.lemmas.Int.{ints}
use denote.Enum.Bare.{same_true}
use Rattle.gui_base.specs.contracts.words.TextAlign.{the_type}
use Rattle.gui_base.specs.declared.color.Rgb565.{Rgb565}
use Rattle.gui_base.specs.declared.words.TextAlign.{TextAlign}
use Rattle.gui_base.specs.Area.{Rect, has, is_empty}
use Rattle.text_defs.specs.declared.TextLook.{TextLook}
use Rattle.text_defs.specs.Coats.{ink_coat}
use Rattle.text_defs.specs.Face.{Face}
use Rattle.text_defs.specs.Fonts.{Font}
use Rattle.text_defs.specs.Images.{Image}
use Rattle.widget_defs.specs.declared.ItemPaint.{ItemPaint}
use Rattle.widget_defs.specs.declared.ItemPaint.TheVariants.{Fill, Ring, Ink, Picture}
use Rattle.widget_defs.specs.Items.{Item}
use Rattle.scene_defs.specs.Items.{coat_of, coat_in}
use Rattle.debt_defs.specs.Same.{same_corners, same_visible, same_color, same_align, same_look, same_paint, same_item, same_by}
use Rattle.debt_defs.specs.Scenes.{dab_at}
use Rattle.debt_defs.proofs.Ready.{AssetsStay, IsReady, AreReady}

abbrev corners : ℤ → ℤ → ℤ → ℤ → Rect
corners l t r b = record { x1 = l; y1 = t; x2 = r; y2 = b }

pub corners-are : (a b : Rect) → same_corners a b ≡ true → a ≡ b
corners-are a b same =
    let p = and_parts _ _ same in
    let q = and_parts _ _ p.0 in
    let r = and_parts _ _ p.1 in
    let left = (Decides-int_eq a.x1 b.x1).0 q.0 in
    let top = (Decides-int_eq a.y1 b.y1).0 q.1 in
    let right = (Decides-int_eq a.x2 b.x2).0 r.0 in
    let bottom = (Decides-int_eq a.y2 b.y2).0 r.1 in
    let each : corners a.x1 a.y1 a.x2 a.y2 ≡ corners b.x1 b.y1 b.x2 b.y2 = rw (left, top, right, bottom) refl in
    each

pub visible-is : (a b : Option Rect) → same_visible a b ≡ true → a ≡ b
visible-is None None same = refl
visible-is None (Some b) same = cc
visible-is (Some a) None same = cc
visible-is (Some a) (Some b) same = ap Some (corners-are a b same)

abbrev of_number : ℕ → Rgb565
of_number n = record { 0 = n }

color-is : (a b : Rgb565) → same_color a b ≡ true → a ≡ b
color-is a b same = ap of_number (eqb-true a.0 b.0 same)

align-is : (a b : TextAlign) → same_align a b ≡ true → a ≡ b
align-is a b same = same_true the_type tt a b same

abbrev set_so : ℕ → ℕ → ℕ → TextAlign → TextLook
set_so font letter line align = record { font = font; letter = letter; line = line; align = align }

look-is : (a b : TextLook) → same_look a b ≡ true → a ≡ b
look-is a b same =
    let p = and_parts _ _ same in
    let q = and_parts _ _ p.0 in
    let r = and_parts _ _ p.1 in
    let font = eqb-true a.font b.font q.0 in
    let letter = eqb-true a.letter b.letter q.1 in
    let line = eqb-true a.line b.line r.0 in
    let align = align-is a.align b.align r.1 in
    let each : set_so a.font a.letter a.line a.align ≡ set_so b.font b.letter b.line b.align = rw (font, letter, line, align) refl in
    each

pub paint-is : (a b : ItemPaint) → same_paint a b ≡ true → a ≡ b
paint-is (Fill c m) (Fill d n) same =
    let p : (same_color c d ≡ true) × (eqb m n ≡ true) = and_parts _ _ same in
    cc (color-is c d p.0, eqb-true m n p.1)
paint-is (Ring v c m) (Ring w d n) same =
    let p : (eqb v w ≡ true) × ((same_color c d && eqb m n) ≡ true) = and_parts _ _ same in
    let q : (same_color c d ≡ true) × (eqb m n ≡ true) = and_parts _ _ p.1 in
    cc (eqb-true v w p.0, color-is c d q.0, eqb-true m n q.1)
paint-is (Ink l c m) (Ink k d n) same =
    let p : (same_look l k ≡ true) × ((same_color c d && eqb m n) ≡ true) = and_parts _ _ same in
    let q : (same_color c d ≡ true) × (eqb m n ≡ true) = and_parts _ _ p.1 in
    cc (look-is l k p.0, color-is c d q.0, eqb-true m n q.1)
paint-is (Picture i c m) (Picture j d n) same =
    let p : (eqb i j ≡ true) × ((same_color c d && eqb m n) ≡ true) = and_parts _ _ same in
    let q : (same_color c d ≡ true) × (eqb m n ≡ true) = and_parts _ _ p.1 in
    cc (eqb-true i j p.0, color-is c d q.0, eqb-true m n q.1)
paint-is (Fill c m) (Ring w d n) same = cc
paint-is (Fill c m) (Ink k d n) same = cc
paint-is (Fill c m) (Picture j d n) same = cc
paint-is (Ring v c m) (Fill d n) same = cc
paint-is (Ring v c m) (Ink k d n) same = cc
paint-is (Ring v c m) (Picture j d n) same = cc
paint-is (Ink l c m) (Fill d n) same = cc
paint-is (Ink l c m) (Ring w d n) same = cc
paint-is (Ink l c m) (Picture j d n) same = cc
paint-is (Picture i c m) (Fill d n) same = cc
paint-is (Picture i c m) (Ring w d n) same = cc
paint-is (Picture i c m) (Ink k d n) same = cc

-- nothing is laid on an empty area
empty-has : (area : Rect) (x y : ℤ) → is_empty area ≡ true → has area x y ≡ false
empty-has area x y none = grind (arith, ints, nat_tests)

empty-lays : (fonts : List Font) (images : List Image) (text : List ℕ) (area : Rect) (paint : ItemPaint) (x y : ℤ) → is_empty area ≡ true →
    coat_of fonts images text area paint x y ≡ None
empty-lays fonts images text area (Fill c m) x y none = rw (empty-has area x y none) refl
empty-lays fonts images text area (Ring w c m) x y none = rw (empty-has area x y none) refl
empty-lays fonts images text area (Ink l c m) x y none = rw (empty-has area x y none) refl
empty-lays fonts images text area (Picture i c m) x y none = rw (empty-has area x y none) refl

-- Items that name fonts and images that are finished, where these stay.
module _ (fonts later : List Font) (images after : List Image) (text : List ℕ) (stay : AssetsStay fonts later images after) (x y : ℤ) where
  paint-lays : (area : Rect) (paint : ItemPaint) → IsReady fonts images paint → coat_of fonts images text area paint x y ≡ coat_of later after text area paint x y
  paint-lays area (Fill c m) ready = refl
  paint-lays area (Ring w c m) ready = refl
  paint-lays area (Ink l c m) ready = ap (λ (f : Face). ink_coat area f l text c m x y) (sym (stay.faces l.font ready))
  paint-lays area (Picture i c m) ready = rw (stay.pictures i ready) refl

  item-lays : (a b : Item) → IsReady fonts images a.paint → same_item a b ≡ true → coat_in fonts images text a x y ≡ coat_in later after text b x y
  item-lays a b ready same =
      let p = and_parts _ _ same in
      elim (or_cases _ _ p.0) [
        | inl none ↦
            let e = and_parts _ _ none in
            empty-lays fonts images text a.area a.paint x y e.0 ∙ sym (empty-lays later after text b.area b.paint x y e.1)
        | inr corners ↦
            paint-lays a.area a.paint ready
            ∙ ap (λ (area : Rect). coat_of later after text area a.paint x y) (corners-are a.area b.area corners)
            ∙ ap (λ (paint : ItemPaint). coat_of later after text b.area paint x y) (paint-is a.paint b.paint p.1)
      ]

  pub items-lay : (as' bs : List Item) → AreReady fonts images as' → same_by same_item as' bs ≡ true →
      map (dab_at x y) (map (coat_in fonts images text) as') ≡ map (dab_at x y) (map (coat_in later after text) bs)
  items-lay [] [] ready same = refl
  items-lay [] (b ∷ bs) ready same = cc
  items-lay (a ∷ as') [] ready same = cc
  items-lay (a ∷ as') (b ∷ bs) ready same =
      let p : (same_item a b ≡ true) × (same_by same_item as' bs ≡ true) = and_parts _ _ same in
      rw (item-lays a b ready.0 p.0, items-lay as' bs ready.1 p.1) refl
