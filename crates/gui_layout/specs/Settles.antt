-- Places that are settled one mark after another.
use Rattle.std.specs.Prelude.{◌≡◌, ℕ, Bool, true, false, Some, None}
use Rattle.std.specs.declared.option.Option.{Option}
use Rattle.gui_base.specs.Forest.{has, map_forest, parent_of, tree_at}
use Rattle.gui_base.specs.Limits.{Bounds}
use Rattle.scene_defs.specs.Scene.{Scene, handles_of}
use Rattle.gui_layout.specs.declared.places.Places.{Places}
use Rattle.gui_boxes.specs.Frames.{Encloses}
use Rattle.gui_boxes.specs.Layouts.{KeepsRest}
use Rattle.gui_layout.specs.Marked.{AllFitBut, AllFillBut, marked_trees}
use Rattle.gui_layout.specs.Renewed.{KeepsRenewed}
use Rattle.gui_layout.specs.Scenes.{scene_box}
use Rattle.gui_layout.specs.Scrolled.{IsScrolledIn}
use Rattle.gui_boxes.specs.Scrolls.{scrolled_at}
use Rattle.gui_boxes.specs.Settled.{Known, AllFit, FillsPanel, IsSteady, StandsFree, known_at}
use Rattle.gui_layout.specs.Solved.{layout_of, limits_of}
use Rattle.gui_boxes.specs.Tables.{listing_of}

-- an object stands by itself in its parent as it was, if it has one
abbrev pub LetsStand : (ℕ → Known) → (ℕ → Known) → ℕ → Option ℕ → Type 0
LetsStand old new u None = Unit {0}
LetsStand old new u (Some p) = IsSteady (old p).box × StandsFree (old p) (new u)

-- a root fills the panel
abbrev pub FillsRoot : Bounds → Known → Option ℕ → Type 0
FillsRoot limits k None = FillsPanel limits.width limits.height k
FillsRoot limits k (Some p) = Unit {0}

-- what is known of the objects of a scene
abbrev pub known_in : Places → Scene → ℕ → Known
known_in p scene = known_at (scene_box scene) (layout_of p)

-- the tree at u, in which h lies, is solved by itself, and nothing else changes
pub record SolvesTree (old new : Places) (scene : Scene) (h u : ℕ) : Type 0 where
  pub there : has (handles_of scene.trees) u ≡ true
  pub encloses : Encloses (handles_of scene.trees) u h
  pub fit : AllFit (map_forest (known_in new scene) (tree_at (handles_of scene.trees) u))
  pub scrolled : (k : ℕ) → has (tree_at (handles_of scene.trees) u) k ≡ true →
      IsScrolledIn (known_in new scene) (layout_of new).scrolls (handles_of scene.trees) k
  pub keeps : KeepsRest (layout_of old) (layout_of new) (tree_at (handles_of scene.trees) u)
  pub lets : LetsStand (known_in old scene) (known_in new scene) u (parent_of (handles_of scene.trees) u)
  pub fills : FillsRoot scene.limits (known_in new scene u) (parent_of (handles_of scene.trees) u)
  pub boxes : KeepsRenewed scene (layout_of old).boxes (layout_of new).boxes
  pub listed : listing_of new.entries ≡ listing_of old.entries
  pub limits : limits_of new ≡ limits_of old

-- Some marks are settled, and the others are left: what was right but for the marks is right but for those
-- that are left, and what is known of trees without marks stays as it was, whatever it was.
pub record Settles (old new : Places) (scene : Scene) (was is : ℕ → Bool) : Type 0 where
  pub fewer : (k : ℕ) → is k ≡ true → was k ≡ true
  pub fit : (s : ℕ → Bool) → AllFitBut s was (known_in old scene) (handles_of scene.trees) →
      AllFitBut s is (known_in new scene) (handles_of scene.trees)
  pub fill : (s : ℕ → Bool) →
      AllFillBut s was scene.limits.width scene.limits.height (known_in old scene) (handles_of scene.trees) →
      AllFillBut s is scene.limits.width scene.limits.height (known_in new scene) (handles_of scene.trees)
  pub others : (k : ℕ) → has (handles_of scene.trees) k ≡ true →
      has (marked_trees was (handles_of scene.trees)) k ≡ false → known_in new scene k ≡ known_in old scene k
  pub scrolls : (k : ℕ) → has (handles_of scene.trees) k ≡ true →
      has (marked_trees was (handles_of scene.trees)) k ≡ false →
      scrolled_at (layout_of new).scrolls k ≡ scrolled_at (layout_of old).scrolls k
  pub boxes : KeepsRenewed scene (layout_of old).boxes (layout_of new).boxes
  pub listed : listing_of new.entries ≡ listing_of old.entries
  pub limits : limits_of new ≡ limits_of old
