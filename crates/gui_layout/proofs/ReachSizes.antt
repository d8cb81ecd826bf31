-- How far children are scrolled, by entries and by the scene.
use Rattle.std.proofs.Common.{◌≡◌, ◌∙◌, refl, sym, ap, ℕ, Bool, true, eqb, ◌||◌, List, map, Option, Some, None, option_map, inl, inr}
use Rattle.std.specs.Prelude.{is_some}
use Rattle.std.proofs.lemmas.Bool.{cases_Bool, or_left, or_right, false≢true}
use Rattle.gui_base.specs.Forest.{Forest, Empty, Tree, StandsOnce, has, has_by, map_forest, roots}
use Rattle.gui_pool.specs.Table.{Table, value_at}
use Rattle.layout_defs.specs.Boxes.{Box}
use Rattle.layout_defs.specs.Laws.{is_placed_at, row_by}
use Rattle.layout_defs.specs.Solving.{Placed, Tall, offset_at as placed_offset, solved}
use Rattle.layout_defs.proofs.Solved.{found_by_handle}
use Rattle.scene_defs.specs.Place.{offset, reach}
use Rattle.scene_defs.specs.Scene.{Scene, handles_of}
use Rattle.scene_defs.specs.Valid.{IsValid}
use Rattle.gui_boxes.specs.declared.entry.Entry.{Entry}
use Rattle.gui_boxes.specs.Found.{boxed}
use Rattle.gui_layout.specs.Marked.{marked_trees}
use Rattle.gui_layout.specs.Scenes.{scene_box}
use Rattle.gui_layout.specs.Scrolled.{IsScrolledIn}
use Rattle.gui_boxes.specs.Scrolls.{HoldsScrolls, Scrolled, not_scrolled, scrolled_at, scrolled_in, scrolled_placed}
use Rattle.gui_boxes.specs.Settled.{IsSettled, Layout, known, known_at, tall_of}
use Rattle.gui_boxes.specs.Slots.{slot_at, tall_at, talls}
use Rattle.gui_layout.specs.Solved.{offset_in, reach_in}
use Rattle.gui_boxes.specs.Tables.{scrolled_or, told}
use Rattle.gui_layout.proofs.Apart.{none-of, placed-marked, there}
use Rattle.gui_layout.proofs.Entering.{boxed_are, row_none}
use Rattle.gui_boxes.proofs.Fitting.{settled_scrolled, tall_roots}
use Rattle.gui_boxes.proofs.Listed.{told_at}
use Rattle.gui_tree.proofs.Parts.{IsPart, distinct_once, found, here, part_below, part_beside, whole}
use Rattle.gui_layout.proofs.Solves.{placed_handle}

-- What is right of each object of trees, a table holds of them.
module _ (box : ℕ → Box) (l : Layout) (f : Forest ℕ) (once : StandsOnce f) where
  abbrev Right : ℕ → Type 0
  Right k = IsScrolledIn (known_at box l) l.scrolls f k

  abbrev Held : Forest ℕ → Type 0
  Held g = HoldsScrolls box l.widths l.natural_heights l.slots l.scrolls g

  top-held : (h : ℕ) (cs rest : Forest ℕ) → IsPart f (Tree h cs rest) → Right h →
      scrolled_at l.scrolls h ≡ scrolled_in (tall_at box l.widths l.natural_heights h) (slot_at l.slots h) (roots (talls box l.widths l.natural_heights cs))
  top-held h cs rest part right =
      let kids = (found part (distinct_once f once)).children in
      right
      ∙ (ap (λ (g : Forest ℕ). scrolled_in (tall_of (known_at box l h)) (slot_at l.slots h) (map tall_of (roots (map_forest (known_at box l) g)))) kids
      ∙ ap (λ (ts : List Tall). scrolled_in (tall_of (known_at box l h)) (slot_at l.slots h) ts) (sym (tall_roots box l cs)))

  held : (g : Forest ℕ) → IsPart f g → ((k : ℕ) → has g k ≡ true → Right k) → Held g
  held Empty part right = tt
  held (Tree h cs rest) part right = (
    top-held h cs rest part (right h (here h cs rest)),
    held cs (part_below part) (λ k i. right k (or_right _ _ (or_left _ _ i))),
    held rest (part_beside part) (λ k i. right k (or_right _ _ (or_right _ _ i))),
  )

  pub all-held : ((k : ℕ) → has f k ≡ true → Right k) → Held f
  all-held right = held f whole right

  marked-part : (m : ℕ → Bool) (g : Forest ℕ) → IsPart f g → ((k : ℕ) → has (marked_trees m g) k ≡ true → Right k) → Held (marked_trees m g)
  marked-part m Empty part right = tt
  marked-part m (Tree h cs rest) part right = elim (cases_Bool (m h || has_by m cs)) [
    | inl some ↦
        let inside : (k : ℕ) → has (Tree h cs (marked_trees m rest)) k ≡ true → Right k = rw some at right in
        rw some (
          top-held h cs rest part (inside h (here h cs (marked_trees m rest))),
          held cs (part_below part) (λ k i. inside k (or_right (eqb h k) (has cs k || has (marked_trees m rest) k) (or_left (has cs k) (has (marked_trees m rest) k) i))),
          marked-part m rest (part_beside part) (λ k i. inside k (or_right (eqb h k) (has cs k || has (marked_trees m rest) k) (or_right (has cs k) (has (marked_trees m rest) k) i))),
        )
    | inr none ↦ rw none (marked-part m rest (part_beside part) (rw none at right))
  ]

  pub marked-held : (m : ℕ → Bool) → ((k : ℕ) → has (marked_trees m f) k ≡ true → Right k) → Held (marked_trees m f)
  marked-held m right = marked-part m f whole right

-- an object whose entry tells it
record Told (v : Option Entry) (o : Option Placed) : Type 0 where
  reaches : option_map reach_in v ≡ option_map (λ (p : Placed). p.reach) o
  offsets : option_map offset_in v ≡ option_map placed_offset o

told-by : (v : Option Entry) (o : Option Placed) → is_some v ≡ true → option_map scrolled_placed o ≡ Some (scrolled_or v) → Told v o
told-by None o none is = absurd (false≢true none)
told-by (Some e) None some is = cc
told-by (Some e) (Some p) some is =
    let same : scrolled_placed p ≡ scrolled_or (Some e) = cc in
    record {
      reaches = ap (λ (s : Scrolled). Some s.reach) (sym same);
      offsets = ap (λ (s : Scrolled). Some s.offset) (sym same);
    }

module _ (scene : Scene) (valid : IsValid scene) (e : Table Entry) where
  abbrev f : Forest ℕ
  f = handles_of scene.trees

  abbrev box : ℕ → Box
  box = scene_box scene

  abbrev solves : Forest ℕ → Forest Placed
  solves t = solved scene.limits.width scene.limits.height (boxed box t)

  told-in : (t : Forest ℕ) → IsSettled scene.limits.width scene.limits.height (known box (told e) t) → HoldsScrolls box (told e).widths (told e).natural_heights (told e).slots (told e).scrolls t →
      (h : ℕ) → has t h ≡ true → is_some (value_at e h) ≡ true → Told (value_at e h) (row_by (is_placed_at h) (solves t))
  told-in t settled holds h is some =
      told-by (value_at e h) (row_by (is_placed_at h) (solves t)) some
      (found_by_handle Placed Scrolled placed_handle scrolled_placed not_scrolled (told e).scrolls (solves t) h (settled_scrolled box (told e) scene.limits.width scene.limits.height t settled holds) (there box scene.limits.width scene.limits.height h t ∙ is)
      ∙ ap (λ (s : Scrolled). Some s) (told_at scrolled_or e h))

  reach-scene : (h : ℕ) → option_map (λ (p : Placed). p.reach) (row_by (is_placed_at h) (solves f)) ≡ reach scene h
  unfolding reach
  reach-scene h = ap (λ (b : Forest Box). option_map (λ (p : Placed). p.reach) (row_by (is_placed_at h) (solved scene.limits.width scene.limits.height b))) (boxed_are scene valid)

  offset-scene : (h : ℕ) → option_map placed_offset (row_by (is_placed_at h) (solves f)) ≡ offset scene h
  unfolding offset
  offset-scene h = ap (λ (b : Forest Box). option_map placed_offset (row_by (is_placed_at h) (solved scene.limits.width scene.limits.height b))) (boxed_are scene valid)

  -- those of the scene
  pub record Shown (h : ℕ) : Type 0 where
    pub reaches : option_map reach_in (value_at e h) ≡ reach scene h
    pub offsets : option_map offset_in (value_at e h) ≡ offset scene h

  -- in the marked trees, where these are settled
  pub marked-reached : (m : ℕ → Bool) → IsSettled scene.limits.width scene.limits.height (known box (told e) (marked_trees m f)) →
      ((k : ℕ) → has (marked_trees m f) k ≡ true → IsScrolledIn (known_at box (told e)) (told e).scrolls f k) → (h : ℕ) → has (marked_trees m f) h ≡ true → is_some (value_at e h) ≡ true → Shown h
  marked-reached m settled right h is some =
      let t = told-in (marked_trees m f) settled (marked-held box (told e) f valid.trees.once m right) h is some in
      let same = placed-marked box scene.limits.width scene.limits.height m h f (distinct_once f valid.trees.once) is in
      record {
        reaches = t.reaches ∙ (ap (option_map (λ (p : Placed). p.reach)) same ∙ reach-scene h);
        offsets = t.offsets ∙ (ap (option_map placed_offset) same ∙ offset-scene h);
      }

  -- and in all
  pub all-reached : IsSettled scene.limits.width scene.limits.height (known box (told e) f) → ((k : ℕ) → has f k ≡ true → IsScrolledIn (known_at box (told e)) (told e).scrolls f k) →
      ((h : ℕ) → is_some (value_at e h) ≡ has f h) → (h : ℕ) → Shown h
  all-reached settled right some h = elim (cases_Bool (has f h)) [
    | inl is ↦
        let t = told-in f settled (all-held box (told e) f valid.trees.once right) h is (some h ∙ is) in
        record { reaches = t.reaches ∙ reach-scene h; offsets = t.offsets ∙ offset-scene h }
    | inr out ↦
        let none = sym (row_none (is_placed_at h) (solves f) (there box scene.limits.width scene.limits.height h f ∙ out)) in
        record {
          reaches = none-of reach_in (value_at e h) (some h ∙ out) ∙ (ap (option_map (λ (p : Placed). p.reach)) none ∙ reach-scene h);
          offsets = none-of offset_in (value_at e h) (some h ∙ out) ∙ (ap (option_map placed_offset) none ∙ offset-scene h);
        }
  ]

-- Where the same is told of an object, it has the same reach and the same offset.
module _ (k : ℕ) (d e : Table Entry) (same : scrolled_at (told e).scrolls k ≡ scrolled_at (told d).scrolls k) (some : is_some (value_at d k) ≡ is_some (value_at e k)) where
  told-same : scrolled_or (value_at e k) ≡ scrolled_or (value_at d k)
  told-same = sym (told_at scrolled_or e k) ∙ (same ∙ told_at scrolled_or d k)

  by : {A : Type 0} (g : Scrolled → A) (h : Entry → A) → ((x : Entry) → h x ≡ g (scrolled_or (Some x))) → (v w : Option Entry) → is_some w ≡ is_some v → scrolled_or v ≡ scrolled_or w → option_map h v ≡ option_map h w
  by g h is None None t s = refl
  by g h is None (Some y) t s = absurd (false≢true (sym t))
  by g h is (Some x) None t s = absurd (false≢true t)
  by g h is (Some x) (Some y) t s = ap (λ a. Some a) (is x ∙ (ap g s ∙ sym (is y)))

  pub reach-alike : option_map reach_in (value_at e k) ≡ option_map reach_in (value_at d k)
  reach-alike = by (λ s. s.reach) reach_in (λ x. refl) (value_at e k) (value_at d k) some told-same

  pub offset-alike : option_map offset_in (value_at e k) ≡ option_map offset_in (value_at d k)
  offset-alike = by (λ s. s.offset) offset_in (λ x. refl) (value_at e k) (value_at d k) some told-same
