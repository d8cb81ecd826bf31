-- Places in the marked trees, which are solved as all trees are.
use Rattle.std.proofs.Common.{◌≡◌, ◌∙◌, refl, sym, ap, ℕ, Bool, true, false, cond, ◌||◌, eqb, Option, Some, None, option_map, inl, inr}
use Rattle.std.specs.Prelude.{is_some}
use Rattle.std.proofs.lemmas.Bool.{cases_Bool, or_parts, false_from_ne_true, false≢true}
use Rattle.gui_base.specs.Area.{area_at}
use Rattle.gui_base.specs.Forest.{Forest, Empty, Tree, and_then, has, has_by, map_forest}
use Rattle.gui_base.proofs.Forests.{map-has_by}
use Rattle.gui_pool.specs.Table.{Table, value_at}
use Rattle.layout_defs.specs.Boxes.{Box}
use Rattle.layout_defs.specs.Laws.{is_placed_at, row_by}
use Rattle.layout_defs.specs.Solving.{Placed, Slot, Wide, nowhere, place_of, solved}
use Rattle.layout_defs.proofs.Solved.{found_by_handle}
use Rattle.scene_defs.specs.Place.{place}
use Rattle.scene_defs.specs.Scene.{Scene, handles_of}
use Rattle.scene_defs.specs.Valid.{IsValid}
use Rattle.gui_boxes.specs.Found.{boxed, widths_of}
use Rattle.gui_layout.specs.Naturals.{is_wide_at, naturals_at, naturals_in}
use Rattle.gui_boxes.specs.declared.entry.Entry.{Entry}
use Rattle.gui_layout.specs.declared.places.Places.{Places}
use Rattle.gui_boxes.specs.Settled.{Known}
use Rattle.gui_layout.specs.Settles.{known_in}
use Rattle.gui_layout.specs.Marked.{marked_trees}
use Rattle.gui_layout.specs.Scenes.{scene_box}
use Rattle.gui_boxes.specs.Slots.{HoldsPlaced}
use Rattle.gui_layout.specs.Solved.{place_at}
use Rattle.gui_boxes.specs.Tables.{area_in, natural_height_or, natural_width_or, slot_or, told, width_or}
use Rattle.gui_layout.proofs.Entering.{boxed_are, joined, place_in}
use Rattle.gui_boxes.proofs.Keeps.{elsewhere}
use Rattle.gui_layout.proofs.Marking.{marked-has}
use Rattle.gui_boxes.proofs.Listed.{told_at}
use Rattle.gui_tree.proofs.Parts.{IsDistinct, distinct_once}
use Rattle.gui_layout.proofs.Solves.{handles_solved, placed_handle, widths-handles}

-- what is found in some trees and then in others
row-and : {A : Type 0} (test : A → Bool) (a b : Forest A) → row_by test (and_then a b) ≡ cond (has_by test a) (row_by test a) (row_by test b)
row-and test Empty b = refl
row-and test (Tree row cs rest) b = elim (cases_Bool (test row)) [
  | inl is ↦ rw is refl
  | inr isnt ↦ elim (cases_Bool (has_by test cs)) [
    | inl below ↦ rw (isnt, below) refl
    | inr out ↦ rw (isnt, out) (row-and test rest b)
  ]
]

later-in : (h t : ℕ) (cs rest : Forest ℕ) → has (Tree t cs rest) h ≡ true → has (Tree t cs Empty) h ≡ false → has rest h ≡ true
later-in h t cs rest is out =
    let parts : (eqb t h ≡ false) × ((has cs h || false) ≡ false) = or_parts (eqb t h) (has cs h || false) out in
    let none : (has cs h ≡ false) × (false ≡ false) = or_parts (has cs h) false parts.1 in
    rw (parts.0, none.0) at is

-- Trees of rows that are made of trees of handles, each tree by itself.
module _ {A : Type 0} (rows : Forest ℕ → Forest A) (handle : A → ℕ) (apart : (t : ℕ) (cs rest : Forest ℕ) → rows (Tree t cs rest) ≡ and_then (rows (Tree t cs Empty)) (rows rest)) (handles : (f : Forest ℕ) → map_forest handle (rows f) ≡ f) where
  abbrev test : ℕ → A → Bool
  test h row = eqb (handle row) h

  pub row-there : (h : ℕ) (f : Forest ℕ) → has_by (test h) (rows f) ≡ has f h
  row-there h f = sym (map-has_by handle (λ k. eqb k h) (rows f)) ∙ ap (λ (g : Forest ℕ). has g h) (handles f)

  row-first : (h t : ℕ) (cs rest : Forest ℕ) → row_by (test h) (rows (Tree t cs rest)) ≡ cond (has (Tree t cs Empty) h) (row_by (test h) (rows (Tree t cs Empty))) (row_by (test h) (rows rest))
  row-first h t cs rest =
      ap (row_by (test h)) (apart t cs rest)
      ∙ (row-and (test h) (rows (Tree t cs Empty)) (rows rest)
      ∙ ap (λ b. cond b (row_by (test h) (rows (Tree t cs Empty))) (row_by (test h) (rows rest))) (row-there h (Tree t cs Empty)))

  -- an object of the marked trees is found in them as in all
  pub row-marked : (m : ℕ → Bool) (h : ℕ) (f : Forest ℕ) → IsDistinct f → has (marked_trees m f) h ≡ true → row_by (test h) (rows (marked_trees m f)) ≡ row_by (test h) (rows f)
  row-marked m h Empty distinct is = refl
  row-marked m h (Tree t cs rest) distinct is = elim (cases_Bool (m t || has_by m cs)) [
    | inl some ↦
        let there : has (Tree t cs (marked_trees m rest)) h ≡ true = rw some at is in
        rw some (elim (cases_Bool (has (Tree t cs Empty) h)) [
          | inl own ↦ row-first h t cs (marked_trees m rest) ∙ (rw own refl ∙ sym (row-first h t cs rest))
          | inr out ↦
              row-first h t cs (marked_trees m rest)
              ∙ (rw out (row-marked m h rest distinct.4 (later-in h t cs (marked_trees m rest) there out)) ∙ sym (row-first h t cs rest))
        ])
    | inr none ↦
        let later : has (marked_trees m rest) h ≡ true = rw none at is in
        let out : has (Tree t cs Empty) h ≡ false = false_from_ne_true (has (Tree t cs Empty) h) (λ i. elsewhere t cs rest distinct h i (marked-has m h rest later)) in
        rw none (row-marked m h rest distinct.4 later ∙ sym (row-first h t cs rest ∙ ap (λ b. cond b (row_by (test h) (rows (Tree t cs Empty))) (row_by (test h) (rows rest))) out))
  ]

-- So it is with the trees that are solved, and with natural widths.
module _ (box : ℕ → Box) (width height : ℕ) where
  abbrev solves : Forest ℕ → Forest Placed
  solves f = solved width height (boxed box f)

  pub there : (h : ℕ) (f : Forest ℕ) → has_by (is_placed_at h) (solves f) ≡ has f h
  there = row-there solves placed_handle (λ t cs rest. refl) (handles_solved box width height)

  pub placed-marked : (m : ℕ → Bool) (h : ℕ) (f : Forest ℕ) → IsDistinct f → has (marked_trees m f) h ≡ true → row_by (is_placed_at h) (solves (marked_trees m f)) ≡ row_by (is_placed_at h) (solves f)
  placed-marked = row-marked solves placed_handle (λ t cs rest. refl) (handles_solved box width height)

module _ (box : ℕ → Box) where
  pub wide-there : (h : ℕ) (f : Forest ℕ) → has_by (is_wide_at h) (widths_of box f) ≡ has f h
  wide-there = row-there (widths_of box) (λ (w : Wide). w.box.handle) (λ t cs rest. refl) (widths-handles box)

  pub wide-marked : (m : ℕ → Bool) (h : ℕ) (f : Forest ℕ) → IsDistinct f → has (marked_trees m f) h ≡ true → row_by (is_wide_at h) (widths_of box (marked_trees m f)) ≡ row_by (is_wide_at h) (widths_of box f)
  wide-marked = row-marked (widths_of box) (λ (w : Wide). w.box.handle) (λ t cs rest. refl) (widths-handles box)

-- The places that entries tell of the marked trees are those of the scene.
module _ (scene : Scene) (valid : IsValid scene) (m : ℕ → Bool) (e : Table Entry) where
  abbrev f : Forest ℕ
  f = handles_of scene.trees

  abbrev marked : Forest Placed
  marked = solves (scene_box scene) scene.limits.width scene.limits.height (marked_trees m f)

  found : (h : ℕ) → HoldsPlaced (told e).widths (told e).slots marked → has_by (is_placed_at h) marked ≡ true → is_some (value_at e h) ≡ true → place_in e h ≡ option_map place_of (row_by (is_placed_at h) marked)
  found h placed here some =
      joined (row_by (is_placed_at h) marked) (value_at e h)
      (found_by_handle Placed ℕ placed_handle (λ (p : Placed). p.tall.width) 0 (told e).widths marked h placed.0 here ∙ ap Some (told_at width_or e h))
      (found_by_handle Placed Slot placed_handle (λ (p : Placed). p.slot) nowhere (told e).slots marked h placed.1 here ∙ ap Some (told_at slot_or e h))
      some

  pub marked_placed : HoldsPlaced (told e).widths (told e).slots marked → (h : ℕ) → has (marked_trees m f) h ≡ true → is_some (value_at e h) ≡ true → place_in e h ≡ place scene h
  unfolding place
  marked_placed placed h is some =
      found h placed (there (scene_box scene) scene.limits.width scene.limits.height h (marked_trees m f) ∙ is) some
      ∙ (ap (option_map place_of) (placed-marked (scene_box scene) scene.limits.width scene.limits.height m h f (distinct_once f valid.trees.once) is)
      ∙ ap (λ (b : Forest Box). option_map place_of (row_by (is_placed_at h) (solved scene.limits.width scene.limits.height b))) (boxed_are scene valid))

-- where the same is known of an object, it has the same place and the same natural sizes
module _ (k : ℕ) (p q : Places) (scene : Scene) (same : known_in q scene k ≡ known_in p scene k) (some : is_some (value_at p.entries k) ≡ is_some (value_at q.entries k)) where
  width : width_or (value_at q.entries k) ≡ width_or (value_at p.entries k)
  width = sym (told_at width_or q.entries k) ∙ (ap (λ (x : Known). x.width) same ∙ told_at width_or p.entries k)

  slot : slot_or (value_at q.entries k) ≡ slot_or (value_at p.entries k)
  slot = sym (told_at slot_or q.entries k) ∙ (ap (λ (x : Known). x.slot) same ∙ told_at slot_or p.entries k)

  wide : natural_width_or (value_at q.entries k) ≡ natural_width_or (value_at p.entries k)
  wide = sym (told_at natural_width_or q.entries k) ∙ (ap (λ (x : Known). x.natural_width) same ∙ told_at natural_width_or p.entries k)

  high : natural_height_or (value_at q.entries k) ≡ natural_height_or (value_at p.entries k)
  high = sym (told_at natural_height_or q.entries k) ∙ (ap (λ (x : Known). x.natural_height) same ∙ told_at natural_height_or p.entries k)

  placed : (v w : Option Entry) → is_some w ≡ is_some v → width_or v ≡ width_or w → slot_or v ≡ slot_or w → option_map area_in v ≡ option_map area_in w
  placed None None is w s = refl
  placed None (Some y) is w s = absurd (false≢true (sym is))
  placed (Some x) None is w s = absurd (false≢true is)
  placed (Some x) (Some y) is w s = ap (λ (t : Slot). Some (area_at t.x t.y x.width.pixels t.height)) s ∙ ap (λ n. Some (area_at y.position.x y.position.y n y.position.height)) w

  sized : (v w : Option Entry) → is_some w ≡ is_some v → natural_width_or v ≡ natural_width_or w → natural_height_or v ≡ natural_height_or w → option_map naturals_in v ≡ option_map naturals_in w
  sized None None is w h = refl
  sized None (Some y) is w h = absurd (false≢true (sym is))
  sized (Some x) None is w h = absurd (false≢true is)
  sized (Some x) (Some y) is w h = ap (λ n. Some (record { width = n; height = x.natural_height.pixels })) w ∙ ap (λ n. Some (record { width = y.natural_width.pixels; height = n })) h

  pub place-alike : place_at q k ≡ place_at p k
  place-alike = placed (value_at q.entries k) (value_at p.entries k) some width slot

  pub naturals-alike : naturals_at q k ≡ naturals_at p k
  naturals-alike = sized (value_at q.entries k) (value_at p.entries k) some wide high

-- and where it has no entry, it has none
pub none-of : {A B : Type 0} (f : A → B) (v : Option A) → is_some v ≡ false → option_map f v ≡ None
none-of f None none = refl
none-of f (Some x) none = absurd (false≢true (sym none))
