-- Passes that see to touched objects alone: all of a tree is right where what is not touched was.
use Rattle.std.proofs.Common.{◌≡◌, ◌∙◌, refl, sym, ap, ℕ, Bool, true, false, not, List, get_or, map, inl, inr}
use Rattle.std.proofs.lemmas.Bool.{cases_Bool, false≢true, false_from_ne_true, or_left, or_right}
use Rattle.std.proofs.lemmas.Simd.{map-map}
use Rattle.gui_base.specs.Forest.{Forest, Empty, Tree, has, map_forest, roots}
use Rattle.gui_base.proofs.Forests.{map-agree}
use Rattle.gui_tree.proofs.Parts.{here}
use Rattle.layout_defs.specs.declared.Course.{Course}
use Rattle.layout_defs.specs.declared.Course.TheVariants.{Free, Across, Down}
use Rattle.layout_defs.specs.Boxes.{Box, course_of, inner}
use Rattle.layout_defs.specs.Solving.{Slot, Tall, nowhere, kids_height, kid_slots, kid_widths, natural_height, natural_width, taking_part, tall_box}
use Rattle.layout_defs.specs.OwnHeights.{but_height, but_height_tall, but_height_wide, fixed_at}
use Rattle.layout_defs.proofs.OwnHeights.{kid_slots-but, kid_widths-but, natural_width-but, taking_part-map}
use Rattle.gui_boxes.specs.Kids.{told_trees}
use Rattle.gui_boxes.specs.Scrolls.{HoldsScrolls, Scrolled, scrolled_at, scrolled_in}
use Rattle.gui_boxes.specs.Settled.{AllFit, EachKids, Fits, Known, Layout, NaturalHeightFits, NaturalWidthFits, SlotsFit, WidthsFit, known, known_at, slot_of, tall_of, wide_of, width_of}
use Rattle.gui_boxes.specs.Slots.{slot_at, tall_at, talls}
use Rattle.gui_boxes.specs.Touched.{HoldsScrollsIf, IfTouched, IsClosed, KeepsCalm}
use Rattle.gui_boxes.specs.Views.{box_at}
use Rattle.gui_boxes.proofs.Fitting.{fit_of}
use Rattle.gui_boxes.proofs.Passes.{roots_known}
use Rattle.gui_boxes.proofs.Touched.{none_in}
use Rattle.gui_layout.specs.OwnHeights.{AreFixedIf}
use Rattle.gui_layout.proofs.Alike.{scrolled-alike}

-- the own heights of children do not matter to the natural height of an object
kids_height-seen : (course : Course) (box : Box) (width room : ℕ) (kids : List Tall) → kids_height course (fixed_at width box) room (map but_height_tall kids) ≡ kids_height course box room kids
kids_height-seen Free box width room kids = rw map-map refl
kids_height-seen Across box width room kids = rw map-map refl
kids_height-seen Down box width room kids = rw map-map refl

pub natural_height-seen : (box : Box) (width : ℕ) (kids : List Tall) → natural_height (fixed_at width box) width (map but_height_tall kids) ≡ natural_height box width kids
natural_height-seen box width kids =
    rw (taking_part-map tall_box but_height_tall (λ k. refl) kids, kids_height-seen (course_of box.flow) box width (inner box.across width) (taking_part tall_box kids)) refl

-- What follows alike for touched objects that look alike, by what is seen of them and of their children.
module _ {B : Type 0} (t : ℕ → Bool) (own kid : Known → Known) (left right : Known → List Known → B) (lefts : (k : Known) (ks : List Known) → left (own k) (map kid ks) ≡ left k ks) (rights : (k : Known) (ks : List Known) → right (own k) (map kid ks) ≡ right k ks)
    (b c : ℕ → Box) (m l : Layout) where
  abbrev Fit : Known → List Known → Type 0
  Fit k ks = left k ks ≡ right k ks

  abbrev x : ℕ → Known
  x = known_at b m

  abbrev y : ℕ → Known
  y = known_at c l

  seen-if : (f : Forest ℕ) → ((h : ℕ) → has f h ≡ true → t h ≡ true → own (x h) ≡ own (y h)) → ((h : ℕ) → has f h ≡ true → kid (x h) ≡ kid (y h)) → EachKids (IfTouched t Fit) (map_forest x f) → EachKids (IfTouched t Fit) (map_forest y f)
  seen-if Empty owns same each = tt
  seen-if (Tree h cs rest) owns same each =
      let below : (k : ℕ) → has cs k ≡ true → kid (x k) ≡ kid (y k) = λ k i. same k (or_right _ _ (or_left _ _ i)) in
      let beside : (k : ℕ) → has rest k ≡ true → kid (x k) ≡ kid (y k) = λ k i. same k (or_right _ _ (or_right _ _ i)) in
      let kids : map kid (roots (map_forest x cs)) ≡ map kid (roots (map_forest y cs)) =
      sym (roots_known kid x cs) ∙ (ap (λ (f : Forest Known). roots f) (map-agree (λ k. kid (x k)) (λ k. kid (y k)) cs below) ∙ roots_known kid y cs) in
      let carried : t h ≡ true → (g : Known → List Known → B) → ((k : Known) (ks : List Known) → g (own k) (map kid ks) ≡ g k ks) → g (x h) (roots (map_forest x cs)) ≡ g (y h) (roots (map_forest y cs)) =
      λ is g sees. sym (sees (x h) (roots (map_forest x cs))) ∙ (ap (λ (k : Known). g k (map kid (roots (map_forest x cs)))) (owns h (here h cs rest) is) ∙ (ap (g (own (y h))) kids ∙ sees (y h) (roots (map_forest y cs)))) in (
        λ is. sym (carried is left lefts) ∙ (each.0 is ∙ carried is right rights),
        seen-if cs (λ k i. owns k (or_right _ _ (or_left _ _ i))) below each.1,
        seen-if rest (λ k i. owns k (or_right _ _ (or_right _ _ i))) beside each.2,
      )

-- Touched objects fit with the boxes of a scene where they do with those that are told, from which they differ in own
-- heights.
module _ (t : ℕ → Bool) (box : ℕ → Box) (m l : Layout) (f : Forest ℕ) (same : (h : ℕ) → has f h ≡ true → but_height (box_at m.boxes h) ≡ but_height (box h)) where
  named-alike : (h : ℕ) → has f h ≡ true → but_height (record (box_at m.boxes h) { handle = h }) ≡ but_height (record (box h) { handle = h })
  named-alike h i = ap (λ (b : Box). record b { handle = h }) (same h i)

  pub naturals-if : m.natural_widths ≡ l.natural_widths → EachKids (IfTouched t NaturalWidthFits) (told_trees m f) → EachKids (IfTouched t NaturalWidthFits) (known box l f)
  naturals-if naturals =
      let view : Known → Known = λ k. record k { box = but_height k.box; width = 0; natural_height = 0; slot = nowhere } in
      let is : (h : ℕ) → has f h ≡ true → view (known_at (box_at m.boxes) m h) ≡ view (known_at box l h) =
      λ h i j. record { box = named-alike h i j; natural_width = get_or (naturals j) h 0; width = 0; natural_height = 0; slot = nowhere } in
      seen-if t view view (λ k ks. k.natural_width) (λ k ks. natural_width k.box (map wide_of ks)) (λ k ks. refl)
      (λ k ks. ap (natural_width (but_height k.box)) (map-map wide_of view ks ∙ sym (map-map but_height_wide wide_of ks)) ∙ natural_width-but k.box (map wide_of ks)) (box_at m.boxes) box m l f (λ h i u. is h i) is

  pub widths-if : m.natural_widths ≡ l.natural_widths → m.widths ≡ l.widths → EachKids (IfTouched t WidthsFit) (told_trees m f) → EachKids (IfTouched t WidthsFit) (known box l f)
  widths-if naturals widths =
      let view : Known → Known = λ k. record k { box = but_height k.box; natural_height = 0; slot = nowhere } in
      let is : (h : ℕ) → has f h ≡ true → view (known_at (box_at m.boxes) m h) ≡ view (known_at box l h) =
      λ h i j. record { box = named-alike h i j; natural_width = get_or (naturals j) h 0; width = get_or (widths j) h 0; natural_height = 0; slot = nowhere } in
      seen-if t view view (λ k ks. map width_of ks) (λ k ks. kid_widths k.box k.width (map wide_of ks)) (λ k ks. map-map width_of view ks)
      (λ k ks. ap (kid_widths (but_height k.box) k.width) (map-map wide_of view ks ∙ sym (map-map but_height_wide wide_of ks)) ∙ kid_widths-but k.box k.width (map wide_of ks)) (box_at m.boxes) box m l f (λ h i u. is h i) is

  pub heights-if : AreFixedIf t box m.widths m.boxes f → m.widths ≡ l.widths → m.natural_heights ≡ l.natural_heights → EachKids (IfTouched t NaturalHeightFits) (told_trees m f) → EachKids (IfTouched t NaturalHeightFits) (known box l f)
  heights-if fixed widths heights =
      let own : Known → Known = λ k. record k { box = fixed_at k.width k.box; natural_width = 0; slot = nowhere } in
      let kid : Known → Known = λ k. record k { box = but_height k.box; natural_width = 0; slot = nowhere } in
      seen-if t own kid (λ k ks. k.natural_height) (λ k ks. natural_height k.box k.width (map tall_of ks)) (λ k ks. refl)
      (λ k ks. ap (natural_height (fixed_at k.width k.box) k.width) (map-map tall_of kid ks ∙ sym (map-map but_height_tall tall_of ks)) ∙ natural_height-seen k.box k.width (map tall_of ks)) (box_at m.boxes) box m l f
      (λ h i u.
      let seen : (n : ℕ) (b : Box) (w : ℕ) → Known = λ n b w. record { box = fixed_at w (record b { handle = h }); natural_width = 0; width = w; natural_height = n; slot = nowhere } in
      ap (λ (b : Box). seen (get_or m.natural_heights h 0) b (get_or m.widths h 0)) (fixed h i u)
      ∙ (λ j. seen (get_or (heights j) h 0) (box h) (get_or (widths j) h 0)))
      (λ h i j. record { box = named-alike h i j; natural_width = 0; width = get_or (widths j) h 0; natural_height = get_or (heights j) h 0; slot = nowhere })

  pub slots-if : m.widths ≡ l.widths → m.natural_heights ≡ l.natural_heights → m.slots ≡ l.slots → EachKids (IfTouched t SlotsFit) (told_trees m f) → EachKids (IfTouched t SlotsFit) (known box l f)
  slots-if widths heights slots =
      let view : Known → Known = λ k. record k { box = but_height k.box; natural_width = 0 } in
      let is : (h : ℕ) → has f h ≡ true → view (known_at (box_at m.boxes) m h) ≡ view (known_at box l h) =
      λ h i j. record { box = named-alike h i j; natural_width = 0; width = get_or (widths j) h 0; natural_height = get_or (heights j) h 0; slot = get_or (slots j) h nowhere } in
      seen-if t view view (λ k ks. map slot_of ks) (λ k ks. kid_slots (tall_of k) k.slot (map tall_of ks)) (λ k ks. map-map slot_of view ks)
      (λ k ks. ap (kid_slots (but_height_tall (tall_of k)) k.slot) (map-map tall_of view ks ∙ sym (map-map but_height_tall tall_of ks)) ∙ kid_slots-but (tall_of k) k.slot (map tall_of ks)) (box_at m.boxes) box m l f (λ h i u. is h i) is

-- Objects that are not touched.
none-more : (t u : ℕ → Bool) → ((k : ℕ) → t k ≡ true → u k ≡ true) → (k : ℕ) → u k ≡ false → t k ≡ false
none-more t u more k none = false_from_ne_true (t k) (λ is. false≢true (sym none ∙ more k is))

-- what is the same where none of these is touched is so where none of those is, which are more
pub calm_more : {V : Type 0} (d : V) (t u : ℕ → Bool) (old new : List V) → ((k : ℕ) → t k ≡ true → u k ≡ true) → KeepsCalm d t old new → KeepsCalm d u old new
calm_more d t u old new more calm k none = calm k (none-more t u more k none)

-- What was so of objects that are not touched is so still, where what is seen of them is the same.
module _ {B : Type 0} (t u : ℕ → Bool) (more : (k : ℕ) → t k ≡ true → u k ≡ true) (view : Known → Known) (left right : Known → List Known → B) (lefts : (k : Known) (ks : List Known) → left (view k) (map view ks) ≡ left k ks) (rights : (k : Known) (ks : List Known) → right (view k) (map view ks) ≡ right k ks)
    (box : ℕ → Box) (m l : Layout) where
  abbrev Like : Known → List Known → Type 0
  Like k ks = left k ks ≡ right k ks

  abbrev was : ℕ → Known
  was = known_at box m

  abbrev now : ℕ → Known
  now = known_at box l

  -- those that are touched have it, and the others had it
  all-seen : (f : Forest ℕ) → IsClosed u f → ((h : ℕ) → u h ≡ false → view (was h) ≡ view (now h)) → EachKids (IfTouched (λ k. not (t k)) Like) (map_forest was f) → EachKids (IfTouched u Like) (map_forest now f) → EachKids Like (map_forest now f)
  all-seen Empty closed same had has_now = tt
  all-seen (Tree h cs rest) closed same had has_now =
      let calm : u h ≡ false → Like (now h) (roots (map_forest now cs)) =
      λ none.
      let kids : map view (roots (map_forest was cs)) ≡ map view (roots (map_forest now cs)) =
      sym (roots_known view was cs) ∙ (ap (λ (f : Forest Known). roots f) (map-agree (λ k. view (was k)) (λ k. view (now k)) cs (λ k i. same k (none_in u cs (closed.0 none) k i))) ∙ roots_known view now cs) in
      let carried : (g : Known → List Known → B) → ((k : Known) (ks : List Known) → g (view k) (map view ks) ≡ g k ks) → g (was h) (roots (map_forest was cs)) ≡ g (now h) (roots (map_forest now cs)) =
      λ g sees. sym (sees (was h) (roots (map_forest was cs))) ∙ (ap (λ (k : Known). g k (map view (roots (map_forest was cs)))) (same h none) ∙ (ap (g (view (now h))) kids ∙ sees (now h) (roots (map_forest now cs)))) in
      sym (carried left lefts) ∙ (had.0 (ap not (none-more t u more h none)) ∙ carried right rights) in
      (elim (cases_Bool (u h)) [ inl is ↦ has_now.0 is | inr none ↦ calm none ], all-seen cs closed.1 same had.1 has_now.1, all-seen rest closed.2 same had.2 has_now.2)

-- what objects that fit are
part-fit : (t : ℕ → Bool) (P : Known → List Known → Type 0) (get : (k : Known) (ks : List Known) → Fits k ks → P k ks) (f : Forest Known) → EachKids (IfTouched t Fits) f → EachKids (IfTouched t P) f
part-fit t P get Empty each = tt
part-fit t P get (Tree k cs rest) each = (λ is. get k (roots cs) (each.0 is), part-fit t P get cs each.1, part-fit t P get rest each.2)

-- What the passes find: the first of what is touched by t, those for widths and natural heights by u, and the last by v.
pub record Found (box : ℕ → Box) (l : Layout) (t u v : ℕ → Bool) (f : Forest ℕ) : Type 0 where
  pub naturals : EachKids (IfTouched t NaturalWidthFits) (known box l f)
  pub widths : EachKids (IfTouched u WidthsFit) (known box l f)
  pub heights : EachKids (IfTouched u NaturalHeightFits) (known box l f)
  pub slots : EachKids (IfTouched v SlotsFit) (known box l f)

-- so nothing else changes
pub record Keeps (m l : Layout) (t u v : ℕ → Bool) (f : Forest ℕ) : Type 0 where
  pub closed : IsClosed t f
  pub closed_wide : IsClosed u f
  pub closed_last : IsClosed v f
  pub wider : (k : ℕ) → t k ≡ true → u k ≡ true
  pub later : (k : ℕ) → u k ≡ true → v k ≡ true
  pub naturals : KeepsCalm 0 t m.natural_widths l.natural_widths
  pub widths : KeepsCalm 0 u m.widths l.widths
  pub heights : KeepsCalm 0 u m.natural_heights l.natural_heights
  pub slots : KeepsCalm nowhere v m.slots l.slots

module _ (box : ℕ → Box) (m l : Layout) (t u v : ℕ → Bool) (f : Forest ℕ) (keeps : Keeps m l t u v f) where
  abbrev own : ℕ → Box
  own h = record (box h) { handle = h }

  all_later : (k : ℕ) → t k ≡ true → v k ≡ true
  all_later k is = keeps.later k (keeps.wider k is)

  all-naturals : EachKids (IfTouched (λ k. not (t k)) Fits) (known box m f) → EachKids (IfTouched t NaturalWidthFits) (known box l f) → EachKids NaturalWidthFits (known box l f)
  all-naturals had found =
      let view : Known → Known = λ k. record k { width = 0; natural_height = 0; slot = nowhere } in
      all-seen t t (λ k is. is) view (λ k ks. k.natural_width) (λ k ks. natural_width k.box (map wide_of ks)) (λ k ks. refl) (λ k ks. ap (natural_width k.box) (map-map wide_of view ks)) box m l f keeps.closed
      (λ h none. ap (λ n. record { box = own h; natural_width = n; width = 0; natural_height = 0; slot = nowhere }) (sym (keeps.naturals h none))) (part-fit (λ k. not (t k)) NaturalWidthFits (λ k ks fits. fits.natural_width) (known box m f) had) found

  all-widths : EachKids (IfTouched (λ k. not (t k)) Fits) (known box m f) → EachKids (IfTouched u WidthsFit) (known box l f) → EachKids WidthsFit (known box l f)
  all-widths had found =
      let view : Known → Known = λ k. record k { natural_height = 0; slot = nowhere } in
      all-seen t u keeps.wider view (λ k ks. map width_of ks) (λ k ks. kid_widths k.box k.width (map wide_of ks)) (λ k ks. map-map width_of view ks) (λ k ks. ap (kid_widths k.box k.width) (map-map wide_of view ks)) box m l f keeps.closed_wide
      (λ h none.
      ap (λ n. record { box = own h; natural_width = n; width = get_or m.widths h 0; natural_height = 0; slot = nowhere }) (sym (calm_more 0 t u m.natural_widths l.natural_widths keeps.wider keeps.naturals h none))
      ∙ ap (λ n. record { box = own h; natural_width = get_or l.natural_widths h 0; width = n; natural_height = 0; slot = nowhere }) (sym (keeps.widths h none))) (part-fit (λ k. not (t k)) WidthsFit (λ k ks fits. fits.widths) (known box m f) had) found

  all-heights : EachKids (IfTouched (λ k. not (t k)) Fits) (known box m f) → EachKids (IfTouched u NaturalHeightFits) (known box l f) → EachKids NaturalHeightFits (known box l f)
  all-heights had found =
      let view : Known → Known = λ k. record k { natural_width = 0; slot = nowhere } in
      all-seen t u keeps.wider view (λ k ks. k.natural_height) (λ k ks. natural_height k.box k.width (map tall_of ks)) (λ k ks. refl) (λ k ks. ap (natural_height k.box k.width) (map-map tall_of view ks)) box m l f keeps.closed_wide
      (λ h none.
      ap (λ n. record { box = own h; natural_width = 0; width = n; natural_height = get_or m.natural_heights h 0; slot = nowhere }) (sym (keeps.widths h none))
      ∙ ap (λ n. record { box = own h; natural_width = 0; width = get_or l.widths h 0; natural_height = n; slot = nowhere }) (sym (keeps.heights h none))) (part-fit (λ k. not (t k)) NaturalHeightFits (λ k ks fits. fits.natural_height) (known box m f) had) found

  -- nothing of an object that is not touched has changed
  pub same-known : (h : ℕ) → v h ≡ false → known_at box l h ≡ known_at box m h
  same-known h none =
      let w = calm_more 0 u v m.widths l.widths keeps.later keeps.widths h none in
      let n = calm_more 0 u v m.natural_heights l.natural_heights keeps.later keeps.heights h none in
      let a = calm_more 0 t v m.natural_widths l.natural_widths all_later keeps.naturals h none in
      let s = keeps.slots h none in
      λ i. record { box = own h; natural_width = a i; width = w i; natural_height = n i; slot = s i }

  all-slots : EachKids (IfTouched (λ k. not (t k)) Fits) (known box m f) → EachKids (IfTouched v SlotsFit) (known box l f) → EachKids SlotsFit (known box l f)
  all-slots had found =
      let view : Known → Known = λ k. k in
      all-seen t v all_later view (λ k ks. map slot_of ks) (λ k ks. kid_slots (tall_of k) k.slot (map tall_of ks)) (λ k ks. map-map slot_of view ks) (λ k ks. ap (kid_slots (tall_of k) k.slot) (map-map tall_of view ks)) box m l f keeps.closed_last
      (λ h none. sym (same-known h none)) (part-fit (λ k. not (t k)) SlotsFit (λ k ks fits. fits.slots) (known box m f) had) found

  -- all fits that the passes have seen to, where the rest was right
  pub all-fit : EachKids (IfTouched (λ k. not (t k)) Fits) (known box m f) → Found box l t u v f → AllFit (known box l f)
  all-fit had found = fit_of (known box l f) (all-naturals had found.naturals) (all-widths had found.widths) (all-heights had found.heights) (all-slots had found.slots)

-- How far touched objects scroll their children does not go by their own heights.
pub scrolls-if : (t : ℕ → Bool) (b c : ℕ → Box) (widths naturals : List ℕ) (slots : List Slot) (scrolls : List Scrolled) (f : Forest ℕ) → ((k : ℕ) → has f k ≡ true → but_height (b k) ≡ but_height (c k)) →
    HoldsScrollsIf t b widths naturals slots scrolls f → HoldsScrollsIf t c widths naturals slots scrolls f
scrolls-if t b c widths naturals slots scrolls Empty same holds = tt
scrolls-if t b c widths naturals slots scrolls (Tree h cs rest) same holds = (
  λ is. holds.0 is ∙ scrolled-alike b c widths naturals h (slot_at slots h) cs (same h (here h cs rest)) (λ k i. same k (or_right _ _ (or_left _ _ i))),
  scrolls-if t b c widths naturals slots scrolls cs (λ k i. same k (or_right _ _ (or_left _ _ i))) holds.1,
  scrolls-if t b c widths naturals slots scrolls rest (λ k i. same k (or_right _ _ (or_right _ _ i))) holds.2,
)

-- it is told right of all, where it was told right of those that are not touched
pub all-scrolls : (t v : ℕ → Bool) → ((k : ℕ) → t k ≡ true → v k ≡ true) → (box : ℕ → Box) (m l : Layout) → ((k : ℕ) → v k ≡ false → known_at box l k ≡ known_at box m k) → ((k : ℕ) → v k ≡ false → scrolled_at l.scrolls k ≡ scrolled_at m.scrolls k) → (f : Forest ℕ) → IsClosed v f →
    HoldsScrollsIf (λ k. not (t k)) box m.widths m.natural_heights m.slots m.scrolls f → HoldsScrollsIf v box l.widths l.natural_heights l.slots l.scrolls f → HoldsScrolls box l.widths l.natural_heights l.slots l.scrolls f
all-scrolls t v more box m l same stay Empty closed had found = tt
all-scrolls t v more box m l same stay (Tree h cs rest) closed had found =
    let calm : v h ≡ false → scrolled_at l.scrolls h ≡ scrolled_in (tall_at box l.widths l.natural_heights h) (slot_at l.slots h) (roots (talls box l.widths l.natural_heights cs)) =
    λ none.
    let kids : talls box m.widths m.natural_heights cs ≡ talls box l.widths l.natural_heights cs =
    map-agree (tall_at box m.widths m.natural_heights) (tall_at box l.widths l.natural_heights) cs (λ k i. ap tall_of (sym (same k (none_in v cs (closed.0 none) k i)))) in
    stay h none
    ∙ (had.0 (ap not (none-more t v more h none))
    ∙ (ap (λ (k : Known). scrolled_in (tall_of k) k.slot (roots (talls box m.widths m.natural_heights cs))) (sym (same h none))
    ∙ ap (λ (g : Forest Tall). scrolled_in (tall_at box l.widths l.natural_heights h) (slot_at l.slots h) (roots g)) kids)) in
    (elim (cases_Bool (v h)) [ inl is ↦ found.0 is | inr none ↦ calm none ], all-scrolls t v more box m l same stay cs closed.1 had.1 found.1, all-scrolls t v more box m l same stay rest closed.2 had.2 found.2)
