-- The entries of the objects of a valid scene.
use Rattle.std.proofs.Common.{◌≡◌, ◌∙◌, refl, sym, ap, subst, ℕ, ◌+◌, ◌<◌, ◌≤◌, Bool, true, false, ◌&&◌, ◌||◌, ◌⊎◌, eqb, List, inl, inr, arith}
use Rattle.std.specs.Prelude.{Option, Some, None, is_some, option_map}
use Rattle.std.proofs.lemmas.Bool.{cases_Bool, eqb-true, or_parts, or_cases, and_parts, false≢true}
use Rattle.std.proofs.lemmas.Bool.Decides.{nat_tests}
use Rattle.gui_base.specs.Area.{Rect, area_at}
use Rattle.gui_base.specs.Forest.{Forest, Empty, Tree, map_forest, has, has_by, all_by, size, height, preorder}
use Rattle.gui_base.specs.Intervals.{is_counted}
use Rattle.gui_base.specs.declared.Handle.{Handle}
use Rattle.gui_base.specs.declared.intervals.TheConstants.{HANDLE, MAX_DEPTH}
use Rattle.gui_base.proofs.Forests.{map-size, map-height, map-has_by, map-agree}
use Rattle.gui_pool.specs.Table.{Table, value_at}
use Rattle.gui_tree.specs.Handles.{numbers}
use Rattle.scene_defs.specs.Place.{place, box_of as object_box}
use Rattle.scene_defs.specs.Scene.{Object, Scene, handle_of, handles_of}
use Rattle.scene_defs.specs.Valid.{IsValid, in_order}
use Rattle.text_defs.specs.Images.{Image}
use Rattle.layout_defs.specs.Boxes.{Box}
use Rattle.layout_defs.specs.Solving.{Placed, Slot, solved, place_of, nowhere}
use Rattle.layout_defs.specs.Laws.{row_by, is_placed_at}
use Rattle.layout_defs.proofs.Solved.{found_by_handle}
use Rattle.gui_boxes.specs.declared.entry.Entry.{Entry}
use Rattle.gui_boxes.specs.Found.{boxed}
use Rattle.gui_boxes.specs.Listing.{AreProper}
use Rattle.gui_layout.specs.Scenes.{scene_box}
use Rattle.gui_boxes.specs.Slots.{HoldsPlaced, slot_of}
use Rattle.gui_boxes.specs.Tables.{area_in, slot_or, told, width_or}
use Rattle.gui_tree.specs.Walks.{trees_from}
use Rattle.gui_boxes.proofs.Listed.{told_at}
use Rattle.gui_tree.proofs.Parts.{distinct_once, first_of, trees_from-first_of, whole}
use Rattle.gui_layout.proofs.SceneBoxes.{boxes_are, scene_named}
use Rattle.gui_layout.proofs.Solves.{handles_solved, placed_handle}
use Rattle.gui_boxes.proofs.These.{proper_of}

-- the handles of objects lie in their interval
counted : (images : List Image) (f : Forest Object) (h : ℕ) → all_by (in_order images) f ≡ true → has (handles_of f) h ≡ true → is_counted HANDLE h ≡ true
counted images Empty h all there = absurd (false≢true there)
counted images (Tree a cs rest) h all there =
    let here : (in_order images a ≡ true) × ((all_by (in_order images) cs && all_by (in_order images) rest) ≡ true) = and_parts _ _ all in
    let below : (all_by (in_order images) cs ≡ true) × (all_by (in_order images) rest ≡ true) = and_parts _ _ here.1 in
    let own : (is_counted HANDLE a.handle ≡ true) × _ = and_parts _ _ here.0 in
    let cases : (eqb a.handle h ≡ true) ⊎ ((has (handles_of cs) h || has (handles_of rest) h) ≡ true) = or_cases _ _ there in
    elim cases [
      | inl is ↦ subst (λ k. is_counted HANDLE k ≡ true) (eqb-true a.handle h is) own.0
      | inr later ↦
          let sides : (has (handles_of cs) h ≡ true) ⊎ (has (handles_of rest) h ≡ true) = or_cases _ _ later in
          elim sides [ inl i ↦ counted images cs h below.0 i | inr i ↦ counted images rest h below.1 i ]
    ]

module _ (scene : Scene) (valid : IsValid scene) where
  abbrev forest : Forest ℕ
  forest = handles_of scene.trees

  pub low : (h : ℕ) → has forest h ≡ true → h < HANDLE.high + 1
  low h there = let in_interval = counted scene.images scene.trees h valid.rows.numbers there in grind (arith, nat_tests)

  pub few : size forest ≤ scene.limits.objects
  few = let n = valid.pools.objects in omega (arith, map-size handle_of scene.trees)

  pub flat : height forest ≤ MAX_DEPTH
  flat = let n = valid.trees.low in omega (arith, map-height handle_of scene.trees)

  -- the first root begins all trees
  pub all_from : (t : Forest ℕ) (first : Option Handle) → t ≡ forest → first ≡ first_of t → trees_from first t ≡ forest
  all_from t first same is =
      ap (trees_from first) same
      ∙ (ap (λ (o : Option Handle). trees_from o forest) (is ∙ ap first_of same) ∙ trees_from-first_of forest forest whole (distinct_once forest valid.trees.once))

  module _ (hs : List Handle) (listed : numbers hs ≡ preorder forest) where
    pub proper : AreProper hs
    proper = proper_of hs forest listed valid.trees.once low

  -- the boxes of all handles are those of the objects
  pub boxed_are : boxed (scene_box scene) forest ≡ map_forest (object_box scene) scene.trees
  boxed_are = map-agree (λ h. record (scene_box scene h) { handle = h }) (scene_box scene) forest (λ h there. scene_named scene h) ∙ sym (boxes_are scene valid.trees.once)

-- the place that a table of entries tells
abbrev pub place_in : Table Entry → ℕ → Option Rect
place_in t h = option_map area_in (value_at t h)

-- one object whose width and slot are known
pub joined : (o : Option Placed) (v : Option Entry) → option_map (λ (p : Placed). p.tall.width) o ≡ Some (width_or v) → option_map (λ (p : Placed). p.slot) o ≡ Some (slot_or v) → is_some v ≡ true → option_map area_in v ≡ option_map place_of o
joined None v wide at some = cc
joined (Some p) None wide at some = absurd (false≢true some)
joined (Some p) (Some q) wide at some =
    let width : q.width.pixels ≡ p.tall.width = cc in
    let slot : slot_of q.position ≡ p.slot = cc in
    ap (λ (s : Slot). Some (area_at s.x s.y q.width.pixels s.height)) slot ∙ ap (λ n. Some (area_at p.slot.x p.slot.y n p.slot.height)) width

pub row_none : {A : Type 0} (test : A → Bool) (f : Forest A) → has_by test f ≡ false → row_by test f ≡ None
row_none test Empty out = refl
row_none test (Tree p cs rest) out =
    let here : (test p ≡ false) × ((has_by test cs || has_by test rest) ≡ false) = or_parts _ _ out in
    let below : (has_by test cs ≡ false) × (has_by test rest ≡ false) = or_parts _ _ here.1 in
    rw (here.0, below.0) (row_none test rest below.1)

-- every place is that of the scene
module _ (scene : Scene) (valid : IsValid scene) (e : Table Entry) (some : (h : ℕ) → is_some (value_at e h) ≡ has (handles_of scene.trees) h) where
  abbrev trees : Forest Placed
  trees = solved scene.limits.width scene.limits.height (boxed (scene_box scene) (handles_of scene.trees))

  module _ (placed : HoldsPlaced (told e).widths (told e).slots trees) where
    there : (h : ℕ) → has_by (is_placed_at h) trees ≡ has (handles_of scene.trees) h
    there h =
        sym (map-has_by placed_handle (λ k. eqb k h) trees)
        ∙ ap (λ (f : Forest ℕ). has f h) (handles_solved (scene_box scene) scene.limits.width scene.limits.height (handles_of scene.trees))

    found : (h : ℕ) → has_by (is_placed_at h) trees ≡ true → place_in e h ≡ option_map place_of (row_by (is_placed_at h) trees)
    found h here =
        joined (row_by (is_placed_at h) trees) (value_at e h)
        (found_by_handle Placed ℕ placed_handle (λ (p : Placed). p.tall.width) 0 (told e).widths trees h placed.0 here ∙ ap Some (told_at width_or e h))
        (found_by_handle Placed Slot placed_handle (λ (p : Placed). p.slot) nowhere (told e).slots trees h placed.1 here ∙ ap Some (told_at slot_or e h))
        (some h ∙ (sym (there h) ∙ here))

    none : (v : Option Entry) → is_some v ≡ false → option_map area_in v ≡ None
    none None out = refl
    none (Some q) out = absurd (false≢true (sym out))

    absent : (h : ℕ) → has_by (is_placed_at h) trees ≡ false → place_in e h ≡ option_map place_of (row_by (is_placed_at h) trees)
    absent h out =
        none (value_at e h) (some h ∙ (sym (there h) ∙ out))
        ∙ ap (option_map place_of) (sym (row_none (is_placed_at h) trees out))

    pub all_placed : (h : ℕ) → place_in e h ≡ place scene h
    unfolding place
    all_placed h =
        elim (cases_Bool (has_by (is_placed_at h) trees)) [ inl here ↦ found h here | inr out ↦ absent h out ]
        ∙ ap (λ (f : Forest Box). option_map place_of (row_by (is_placed_at h) (solved scene.limits.width scene.limits.height f))) (boxed_are scene valid)
