-- Own heights that are set at found widths.
use Rattle.std.proofs.Common.{◌≡◌, ◌∙◌, ◌<◌, refl, sym, ap, subst, ℕ, length, set, true, cond, eqb, eq-eqb, List, get_or, map, inl, inr}
use Rattle.std.specs.Prelude.{Option, Some, None}
use Rattle.std.proofs.lemmas.Bool.{cases_Bool, eqb-true, or_left, or_right}
use Rattle.std.proofs.lemmas.Simd.{map-map}
use Rattle.gui_base.specs.Forest.{Forest, Empty, Tree, has, map_forest, roots}
use Rattle.gui_base.proofs.Forests.{map-agree}
use Rattle.layout_defs.specs.Boxes.{Box, inner}
use Rattle.layout_defs.specs.Solving.{nowhere, natural_width, kid_widths, natural_height, kid_slots}
use Rattle.layout_defs.specs.OwnHeights.{but_height, but_height_wide, but_height_tall, fixed_at, fixed_tall}
use Rattle.layout_defs.proofs.OwnHeights.{natural_width-but, kid_widths-but, natural_height-fixed, kid_slots-but}
use Rattle.scene_defs.specs.Scene.{Scene}
use Rattle.gui_boxes.specs.declared.layout_box.LayoutBox.{LayoutBox}
use Rattle.gui_boxes.specs.Kids.{told_trees}
use Rattle.gui_layout.specs.OwnHeights.{IsFixed, AreFixed, KeepsFixed}
use Rattle.gui_layout.specs.Renewed.{KeepsRenewed}
use Rattle.gui_layout.specs.Scenes.{scene_box}
use Rattle.gui_boxes.specs.Settled.{Known, Layout, known, known_at, wide_of, tall_of, width_of, slot_of, EachKids, NaturalWidthFits, WidthsFit, NaturalHeightFits, SlotsFit}
use Rattle.gui_boxes.specs.Views.{axis_of, box_of, box_or, box_at}
use Rattle.gui_boxes.proofs.Passes.{roots_known}
use Rattle.gui_tree.proofs.Parts.{here}
use Rattle.gui_boxes.proofs.These.{value-set}

-- What follows alike for objects that look alike, by what is seen of them and of their children.
module _ {B : Type 0} (view : Known → Known) (left right : Known → List Known → B) (lefts : (k : Known) (ks : List Known) → left (view k) (map view ks) ≡ left k ks) (rights : (k : Known) (ks : List Known) → right (view k) (map view ks) ≡ right k ks) (a b : ℕ → Known) where
  abbrev Fit : Known → List Known → Type 0
  Fit k ks = left k ks ≡ right k ks

  fit-seen : (f : Forest ℕ) → ((h : ℕ) → has f h ≡ true → view (a h) ≡ view (b h)) → EachKids Fit (map_forest a f) → EachKids Fit (map_forest b f)
  fit-seen Empty same each = tt
  fit-seen (Tree h cs rest) same each =
      let below : (k : ℕ) → has cs k ≡ true → view (a k) ≡ view (b k) = λ k i. same k (or_right _ _ (or_left _ _ i)) in
      let beside : (k : ℕ) → has rest k ≡ true → view (a k) ≡ view (b k) = λ k i. same k (or_right _ _ (or_right _ _ i)) in
      let kids : map view (roots (map_forest a cs)) ≡ map view (roots (map_forest b cs)) =
      sym (roots_known view a cs) ∙ (ap (λ (t : Forest Known). roots t) (map-agree (λ k. view (a k)) (λ k. view (b k)) cs below) ∙ roots_known view b cs) in
      let carried : (g : Known → List Known → B) → ((k : Known) (ks : List Known) → g (view k) (map view ks) ≡ g k ks) → g (a h) (roots (map_forest a cs)) ≡ g (b h) (roots (map_forest b cs)) =
      λ g sees. sym (sees (a h) (roots (map_forest a cs))) ∙ (ap (λ (k : Known). g k (map view (roots (map_forest a cs)))) (same h (here h cs rest)) ∙ (ap (g (view (b h))) kids ∙ sees (b h) (roots (map_forest b cs)))) in
      (sym (carried left lefts) ∙ (each.0 ∙ carried right rights), fit-seen cs below each.1, fit-seen rest beside each.2)

-- Objects fit with the boxes of a scene where they do with those that are told, from which they differ in own heights.
module _ (box : ℕ → Box) (m l : Layout) (f : Forest ℕ) where
  abbrev AreAlike : Type 0
  AreAlike = (h : ℕ) → has f h ≡ true → but_height (box_at m.boxes h) ≡ but_height (box h)

  named_alike : AreAlike → (h : ℕ) → has f h ≡ true → but_height (record (box_at m.boxes h) { handle = h }) ≡ but_height (record (box h) { handle = h })
  named_alike same h i = ap (λ (b : Box). record b { handle = h }) (same h i)

  pub naturals_fit : AreAlike → m.natural_widths ≡ l.natural_widths → EachKids NaturalWidthFits (told_trees m f) → EachKids NaturalWidthFits (known box l f)
  naturals_fit same naturals =
      let view : Known → Known = λ k. record k { box = but_height k.box; width = 0; natural_height = 0; slot = nowhere } in
      fit-seen view (λ k ks. k.natural_width) (λ k ks. natural_width k.box (map wide_of ks)) (λ k ks. refl)
      (λ k ks. ap (natural_width (but_height k.box)) (map-map wide_of view ks ∙ sym (map-map but_height_wide wide_of ks)) ∙ natural_width-but k.box (map wide_of ks))
      (known_at (box_at m.boxes) m) (known_at box l) f
      (λ h i j. record { box = named_alike same h i j; natural_width = get_or (naturals j) h 0; width = 0; natural_height = 0; slot = nowhere })

  pub widths_fit : AreAlike → m.natural_widths ≡ l.natural_widths → m.widths ≡ l.widths → EachKids WidthsFit (told_trees m f) → EachKids WidthsFit (known box l f)
  widths_fit same naturals widths =
      let view : Known → Known = λ k. record k { box = but_height k.box; natural_height = 0; slot = nowhere } in
      fit-seen view (λ k ks. map width_of ks) (λ k ks. kid_widths k.box k.width (map wide_of ks)) (λ k ks. map-map width_of view ks)
      (λ k ks. ap (kid_widths (but_height k.box) k.width) (map-map wide_of view ks ∙ sym (map-map but_height_wide wide_of ks)) ∙ kid_widths-but k.box k.width (map wide_of ks))
      (known_at (box_at m.boxes) m) (known_at box l) f
      (λ h i j. record { box = named_alike same h i j; natural_width = get_or (naturals j) h 0; width = get_or (widths j) h 0; natural_height = 0; slot = nowhere })

  pub heights_fit : AreFixed box m.widths m.boxes f → m.widths ≡ l.widths → m.natural_heights ≡ l.natural_heights → EachKids NaturalHeightFits (told_trees m f) → EachKids NaturalHeightFits (known box l f)
  heights_fit fixed widths heights =
      let view : Known → Known = λ k. record k { box = fixed_at k.width k.box; natural_width = 0; slot = nowhere } in
      fit-seen view (λ k ks. k.natural_height) (λ k ks. natural_height k.box k.width (map tall_of ks)) (λ k ks. refl)
      (λ k ks. ap (natural_height (fixed_at k.width k.box) k.width) (map-map tall_of view ks ∙ sym (map-map fixed_tall tall_of ks)) ∙ natural_height-fixed k.box k.width (map tall_of ks))
      (known_at (box_at m.boxes) m) (known_at box l) f
      (λ h i.
      let seen : (n : ℕ) (b : Box) (w : ℕ) → Known = λ n b w. record { box = fixed_at w (record b { handle = h }); natural_width = 0; width = w; natural_height = n; slot = nowhere } in
      ap (λ (b : Box). seen (get_or m.natural_heights h 0) b (get_or m.widths h 0)) (fixed h i)
      ∙ (λ j. seen (get_or (heights j) h 0) (box h) (get_or (widths j) h 0)))

  pub slots_fit : AreAlike → m.widths ≡ l.widths → m.natural_heights ≡ l.natural_heights → m.slots ≡ l.slots → EachKids SlotsFit (told_trees m f) → EachKids SlotsFit (known box l f)
  slots_fit same widths heights slots =
      let view : Known → Known = λ k. record k { box = but_height k.box; natural_width = 0 } in
      fit-seen view (λ k ks. map slot_of ks) (λ k ks. kid_slots (tall_of k) k.slot (map tall_of ks)) (λ k ks. map-map slot_of view ks)
      (λ k ks. ap (kid_slots (but_height_tall (tall_of k)) k.slot) (map-map tall_of view ks ∙ sym (map-map but_height_tall tall_of ks)) ∙ kid_slots-but (tall_of k) k.slot (map tall_of ks))
      (known_at (box_at m.boxes) m) (known_at box l) f
      (λ h i j. record { box = named_alike same h i j; natural_width = 0; width = get_or (widths j) h 0; natural_height = get_or (heights j) h 0; slot = get_or (slots j) h nowhere })

-- One object's own height.
pub fixed_is : (box : ℕ → Box) (boxes : List (Option LayoutBox)) (h width room n : ℕ) (own : LayoutBox) → box_of h own ≡ box_at boxes h → but_height (box_at boxes h) ≡ but_height (box h) → room ≡ inner (axis_of own.across) width → n ≡ (box h).own_height room →
    record (box_of h own) { own_height = λ _. n } ≡ fixed_at width (box h)
fixed_is box boxes h width room n own is same is_room is_height =
    let known : but_height (box_of h own) ≡ but_height (box h) = ap but_height is ∙ same in
    let wide : room ≡ inner (box h).across width = is_room ∙ ap (λ (b : Box). inner b.across width) known in
    ap (λ (b : Box). record b { own_height = λ _. n }) known ∙ ap (λ m. record (box h) { own_height = λ _. m }) (is_height ∙ ap (box h).own_height wide)

module _ (scene : Scene) (widths : List ℕ) where
  -- the box of h is fixed, and nothing else is lost
  pub record Fixes (old new : List (Option LayoutBox)) (h : ℕ) : Type 0 where
    pub fixed : IsFixed (scene_box scene) widths new h
    pub kept : KeepsFixed (scene_box scene) widths old new
    pub boxes : KeepsRenewed scene old new

  module _ (t : List (Option LayoutBox)) (h : ℕ) (made : LayoutBox) (short : h < length t) (is : box_of h made ≡ fixed_at (get_or widths h 0) (scene_box scene h)) where
    value : (k : ℕ) → get_or (set t h (Some made)) k None ≡ cond (eqb h k) (Some made) (get_or t k None)
    value k = value-set t h k (Some made) short

    of_each : (P : (k : ℕ) → Option LayoutBox → Type 0) (k : ℕ) → P h (Some made) → P k (get_or t k None) → P k (get_or (set t h (Some made)) k None)
    of_each P k here other = subst (P k) (sym (value k)) (elim (cases_Bool (eqb h k)) [
      | inl same ↦ rw same (subst (λ m. P m (Some made)) (eqb-true h k same) here)
      | inr differs ↦ rw differs other
    ])

    pub fixes_set : Fixes t (set t h (Some made)) h
    fixes_set = record {
      fixed = subst (λ (o : Option LayoutBox). box_or h o ≡ fixed_at (get_or widths h 0) (scene_box scene h)) (sym (value h)) (rw (eq-eqb h h refl) is);
      kept = λ k fixed. of_each (λ m o. box_or m o ≡ fixed_at (get_or widths m 0) (scene_box scene m)) k is fixed;
      boxes = λ k was. of_each (λ m o. but_height (box_or m o) ≡ but_height (scene_box scene m)) k (ap but_height is) was;
    }
