-- What is right once all marks are settled.
use Rattle.std.proofs.Common.{◌≡◌, ◌∙◌, refl, sym, ℕ, Bool, true, false, eqb, eq-eqb, ◌||◌, inl, inr}
use Rattle.std.specs.Prelude.{is_some}
use Rattle.std.proofs.lemmas.Bool.{cases_Bool, or_left, or_right}
use Rattle.gui_base.specs.Forest.{Forest, Empty, Tree, has}
use Rattle.scene_defs.specs.Place.{place}
use Rattle.scene_defs.specs.Scene.{Scene, handles_of}
use Rattle.scene_defs.specs.Valid.{IsValid}
use Rattle.gui_pool.specs.Table.{value_at}
use Rattle.gui_layout.specs.declared.places.Places.{Places}
use Rattle.gui_layout.specs.Marked.{AllFillBut, AllFitBut, marked_trees}
use Rattle.gui_layout.specs.Naturals.{naturals, naturals_at}
use Rattle.gui_layout.specs.Renewed.{IsRenewed}
use Rattle.gui_layout.specs.Scenes.{scene_box}
use Rattle.gui_boxes.specs.Settled.{IsSettled, Known, known}
use Rattle.gui_layout.specs.SettledBut.{AreRightButChanged, anyone, in_marked, nobody}
use Rattle.gui_layout.specs.Settles.{Settles, known_in}
use Rattle.gui_layout.specs.Solved.{AreStanding, layout_of, place_at}
use Rattle.gui_layout.proofs.Apart.{marked_placed}
use Rattle.gui_layout.proofs.Renewals.{box-some}
use Rattle.gui_layout.proofs.Entering.{all_placed}
use Rattle.gui_boxes.proofs.Fitting.{settled_placed}
use Rattle.gui_layout.proofs.NaturalSizes.{marked-naturals}
use Rattle.gui_layout.proofs.Marking.{all-alike, all-fill, all-fits, fill-alike, fits-left, left-fits, marked-but, marked-fill, marked-has, none-marked}

-- marks that are no longer there
no-marks : (s n : ℕ → Bool) (k : ℕ → Known) (f : Forest ℕ) → ((j : ℕ) → has f j ≡ true → n j ≡ false) → AllFitBut s n k f → AllFitBut s nobody k f
no-marks s n k Empty none all = tt
no-marks s n k (Tree h cs rest) none all =
    let below : (j : ℕ) → has cs j ≡ true → n j ≡ false = λ j i. none j (or_right (eqb h j) (has cs j || has rest j) (or_left (has cs j) (has rest j) i)) in (
      λ looked un. fits-left k nobody h cs (left-fits k n h cs (none-marked k n cs below) (all.0 looked (none h (or_left (eqb h h) (has cs h || has rest h) (eq-eqb h h refl))))),
      no-marks s n k cs below all.1,
      no-marks s n k rest (λ j i. none j (or_right (eqb h j) (has cs j || has rest j) (or_right (has cs j) (has rest j) i))) all.2,
    )

no-fills : (s n : ℕ → Bool) (width height : ℕ) (k : ℕ → Known) (f : Forest ℕ) → ((j : ℕ) → has f j ≡ true → n j ≡ false) → AllFillBut s n width height k f → AllFillBut s nobody width height k f
no-fills s n width height k Empty none fill = tt
no-fills s n width height k (Tree h cs rest) none fill = (
  λ looked un. fill.0 looked (none h (or_left (eqb h h) (has cs h || has rest h) (eq-eqb h h refl))),
  no-fills s n width height k rest (λ j i. none j (or_right (eqb h j) (has cs j || has rest j) (or_right (has cs j) (has rest j) i))) fill.1,
)

-- Where the trees that w marks are right, they are settled, and their objects have the places of the scene.
module _ (scene : Scene) (new : Places) (w : ℕ → Bool) (now : AreRightButChanged new scene (in_marked w scene) nobody) where
  pub marked-settled : IsSettled scene.limits.width scene.limits.height (known (scene_box scene) (layout_of new) (marked_trees w (handles_of scene.trees)))
  marked-settled =
      let s = in_marked w scene in
      let f = handles_of scene.trees in
      let t = marked_trees w f in
      record {
        fit = all-fits (known_in new scene) s nobody t (λ k i. refl) (λ k i. i) (marked-but s w nobody (known_in new scene) f now.fit);
        fill = all-fill s nobody scene.limits.width scene.limits.height (known_in new scene) t (λ k i. refl) (λ k i. i) (marked-fill s w nobody scene.limits.width scene.limits.height (known_in new scene) f now.fill);
      }

  pub marked-places : IsValid scene → (k : ℕ) → in_marked w scene k ≡ true → place_at new k ≡ place scene k
  marked-places valid k is =
      marked_placed scene valid w new.entries (settled_placed (scene_box scene) (layout_of new) scene.limits.width scene.limits.height (marked_trees w (handles_of scene.trees)) marked-settled) k is
      (now.placed k (marked-has w k (handles_of scene.trees) is) is refl)

  pub marked-sizes : IsValid scene → (k : ℕ) → in_marked w scene k ≡ true → naturals_at new k ≡ naturals scene k
  marked-sizes valid k is = marked-naturals scene valid new.entries w marked-settled k is (now.placed k (marked-has w k (handles_of scene.trees) is) is refl)

module _ (scene : Scene) (old mid new : Places) (m n : ℕ → Bool)
    (alike : (k : ℕ) → has (handles_of scene.trees) k ≡ true → m k ≡ false → known_in mid scene k ≡ known_in old scene k)
    (boxes : (k : ℕ) → has (handles_of scene.trees) k ≡ true → m k ≡ false → IsRenewed scene (layout_of old).boxes k → IsRenewed scene (layout_of mid).boxes k)
    (marked : (k : ℕ) → has (handles_of scene.trees) k ≡ true → m k ≡ true → IsRenewed scene (layout_of mid).boxes k)
    (stands : (k : ℕ) → has (handles_of scene.trees) k ≡ true → (m k ≡ false → is_some (value_at old.entries k) ≡ true) → is_some (value_at new.entries k) ≡ true)
    (settles : Settles mid new scene m n) (none : (k : ℕ) → has (handles_of scene.trees) k ≡ true → n k ≡ false) where
  abbrev f : Forest ℕ
  f = handles_of scene.trees

  abbrev width : ℕ
  width = scene.limits.width

  abbrev height : ℕ
  height = scene.limits.height

  -- what was right but for the marks is right
  pub right : (s : ℕ → Bool) → AreRightButChanged old scene s m → AreRightButChanged new scene s nobody
  right s was = record {
    boxes = λ k there looked un. settles.boxes k (elim (cases_Bool (m k)) [ inl is ↦ marked k there is | inr isnt ↦ boxes k there isnt (was.boxes k there looked isnt) ]);
    placed = λ k there looked un. stands k there (λ off. was.placed k there looked off);
    fit = no-marks s n (known_in new scene) f none (settles.fit s (all-alike s m (known_in old scene) (known_in mid scene) f alike was.fit));
    fill = no-fills s n width height (known_in new scene) f none (settles.fill s (fill-alike s m (known_in old scene) (known_in mid scene) width height f alike was.fill));
  }

  module _ (valid : IsValid scene) where
    -- where all was right but for the marks, all is settled
    pub all-settled : AreRightButChanged old scene anyone m → ((k : ℕ) → is_some (value_at new.entries k) ≡ has f k) → AreStanding new scene
    all-settled was some =
        let now = right anyone was in
        let settled : IsSettled width height (known (scene_box scene) (layout_of new) f) = record {
          fit = all-fits (known_in new scene) anyone nobody f (λ k i. refl) (λ k i. refl) now.fit;
          fill = all-fill anyone nobody width height (known_in new scene) f (λ k i. refl) (λ k i. refl) now.fill;
        } in
        record {
          boxes = λ k boxed. now.boxes k (sym (some k) ∙ box-some new.entries k boxed) refl refl;
          settled = settled;
          there = some;
          solved = all_placed scene valid new.entries some (settled_placed (scene_box scene) (layout_of new) width height f settled);
        }
