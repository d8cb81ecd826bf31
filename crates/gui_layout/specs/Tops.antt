-- Trees that are solved, told by the objects at their tops.
use Rattle.std.specs.Prelude.{◌≡◌, ◌<◌, ℕ, Bool, true, false, ◌||◌, eqb, List, [], ◌∷◌, Option, Some, None}
use Rattle.gui_base.specs.Forest.{Forest, has, parent_of, tree_at}
use Rattle.gui_base.specs.declared.Handle.{Handle}
use Rattle.scene_defs.specs.Scene.{Scene, handles_of}
use Rattle.gui_layout.specs.declared.places.Places.{Places}
use Rattle.gui_boxes.specs.Listing.{times}
use Rattle.gui_layout.specs.Marked.{marked_trees}
use Rattle.gui_layout.specs.Scenes.{scene_box}
use Rattle.gui_layout.specs.Scrolled.{IsScrolledIn}
use Rattle.gui_boxes.specs.Scrolls.{scrolled_at}
use Rattle.gui_boxes.specs.Settled.{IsSteady}
use Rattle.gui_layout.specs.Settles.{known_in}
use Rattle.gui_layout.specs.Solved.{layout_of, offset_at, place_at, reach_at}

-- whether k lies in the tree at one of these objects
abbrev pub in_trees_at : Forest ℕ → List Handle → ℕ → Bool
in_trees_at f [] k = false
in_trees_at f (u ∷ us) k = has (tree_at f u.0) k || in_trees_at f us k

-- whether k is this one
abbrev pub is_it : ℕ → Option ℕ → Bool
is_it k None = false
is_it k (Some p) = eqb p k

-- whether k is the parent of one of these objects
abbrev pub is_over : Forest ℕ → List Handle → ℕ → Bool
is_over f [] k = false
is_over f (u ∷ us) k = is_it k (parent_of f u.0) || is_over f us k

-- It is told right how far children are scrolled by the objects of these trees, but for the parents of others of
-- them. Of no other object anything is known otherwise. The parents scroll nothing, and lie in marked trees.
pub record ScrollsAt (old new : Places) (scene : Scene) (m : ℕ → Bool) (us : List Handle) : Type 0 where
  pub scrolled : (k : ℕ) → has (handles_of scene.trees) k ≡ true →
      in_trees_at (handles_of scene.trees) us k ≡ true → is_over (handles_of scene.trees) us k ≡ false →
      IsScrolledIn (known_in new scene) (layout_of new).scrolls (handles_of scene.trees) k
  pub kept : (k : ℕ) → has (handles_of scene.trees) k ≡ true →
      in_trees_at (handles_of scene.trees) us k ≡ false →
      scrolled_at (layout_of new).scrolls k ≡ scrolled_at (layout_of old).scrolls k
  pub known : (k : ℕ) → has (handles_of scene.trees) k ≡ true →
      in_trees_at (handles_of scene.trees) us k ≡ false → known_in new scene k ≡ known_in old scene k
  pub steady : (u q : ℕ) → 0 < times us u → parent_of (handles_of scene.trees) u ≡ Some q →
      IsSteady (scene_box scene q)
  pub marked : (u q : ℕ) → 0 < times us u → parent_of (handles_of scene.trees) u ≡ Some q →
      (k : ℕ) → has (tree_at (handles_of scene.trees) q) k ≡ true →
      has (marked_trees m (handles_of scene.trees)) k ≡ true

-- Each mark that is settled lies in one of these trees, and nothing else changes.
pub record SolvesAt (old new : Places) (scene : Scene) (was is : ℕ → Bool) (us : List Handle) : Type 0 where
  pub tops : (u : ℕ) → 0 < times us u → has (handles_of scene.trees) u ≡ true
  pub whole : (k : ℕ) → has (handles_of scene.trees) k ≡ true → was k ≡ true → is k ≡ false →
      in_trees_at (handles_of scene.trees) us k ≡ true
  pub stays : (k : ℕ) → has (handles_of scene.trees) k ≡ true →
      in_trees_at (handles_of scene.trees) us k ≡ false → known_in new scene k ≡ known_in old scene k

-- Each object that has changed, told by m, lies in one of these trees, and outside of them all places stay.
pub record MovesAt (old new : Places) (scene : Scene) (m : ℕ → Bool) (us : List Handle) : Type 0 where
  pub tops : (u : ℕ) → 0 < times us u → has (handles_of scene.trees) u ≡ true
  pub whole : (k : ℕ) → has (handles_of scene.trees) k ≡ true → m k ≡ true →
      in_trees_at (handles_of scene.trees) us k ≡ true
  pub stays : (k : ℕ) → has (handles_of scene.trees) k ≡ true →
      in_trees_at (handles_of scene.trees) us k ≡ false → place_at new k ≡ place_at old k

-- Outside of these trees an object that is over none of them, and is not marked, moves its children as before. One
-- that is over one of them scrolls nothing.
pub record ScrollsStay (old new : Places) (scene : Scene) (m : ℕ → Bool) (us : List Handle) : Type 0 where
  pub reaches : (k : ℕ) → has (handles_of scene.trees) k ≡ true →
      in_trees_at (handles_of scene.trees) us k ≡ false → is_over (handles_of scene.trees) us k ≡ false →
      m k ≡ false → reach_at new k ≡ reach_at old k
  pub offsets : (k : ℕ) → has (handles_of scene.trees) k ≡ true →
      in_trees_at (handles_of scene.trees) us k ≡ false → is_over (handles_of scene.trees) us k ≡ false →
      m k ≡ false → offset_at new k ≡ offset_at old k
  pub steady : (u q : ℕ) → 0 < times us u → parent_of (handles_of scene.trees) u ≡ Some q →
      IsSteady (scene_box scene q)
