-- Places that are right but for what marks may have changed, and where that comes from.
use Rattle.std.specs.Prelude.{◌≡◌, ℕ, Bool, true, false, eqb, map, is_some}
use Rattle.gui_base.specs.Forest.{Forest, StandsOnce, children_of, has, parent_of, roots}
use Rattle.gui_pool.specs.Table.{value_at}
use Rattle.scene_defs.specs.Scene.{Scene, handles_of}
use Rattle.std.specs.Prelude.{None}
use Rattle.gui_layout.specs.declared.places.Places.{Places}
use Rattle.gui_layout.specs.Marked.{AllFitBut, AllFitButBoth, AllFillBut, is_any_root, is_root, marked_trees}
use Rattle.gui_layout.specs.Naturals.{naturals, naturals_at}
use Rattle.gui_layout.specs.Renewed.{IsRenewed}
use Rattle.gui_layout.specs.Scenes.{scene_box}
use Rattle.gui_boxes.specs.Settled.{FillsPanel, Fits}
use Rattle.gui_layout.specs.Settles.{known_in}
use Rattle.gui_layout.specs.Scrolled.{IsScrolledIn}
use Rattle.gui_boxes.specs.Scrolls.{scrolled_at}
use Rattle.gui_boxes.specs.Touched.{IsAtRest}
use Rattle.gui_layout.specs.Solved.{AreSettled, AreStanding, layout_of, offset_at, place_at, reach_at}
use Rattle.scene_defs.specs.Place.{offset, place, reach}

-- the objects that are looked at are right but for those that have changed, told by m: they have places, and
-- their boxes, their sizes and their slots are right
pub record AreRightButChanged (p : Places) (scene : Scene) (s m : ℕ → Bool) : Type 0 where
  pub boxes : (k : ℕ) → has (handles_of scene.trees) k ≡ true → s k ≡ true → m k ≡ false →
      IsRenewed scene (layout_of p).boxes k
  pub placed : (k : ℕ) → has (handles_of scene.trees) k ≡ true → s k ≡ true → m k ≡ false →
      is_some (value_at p.entries k) ≡ true
  pub fit : AllFitBut s m (known_in p scene) (handles_of scene.trees)
  pub fill : AllFillBut s m scene.limits.width scene.limits.height (known_in p scene) (handles_of scene.trees)

-- the children of an object are looked at, and none of them has changed
pub record AreLooked (s m : ℕ → Bool) (kids : Forest ℕ) : Type 0 where
  pub looked : (j : ℕ) → is_root j kids ≡ true → s j ≡ true
  pub unchanged : is_any_root m kids ≡ false

-- it is told right how far the objects that are looked at scroll their children, but where one of both has changed
abbrev pub AreScrolledBut : Places → Scene → (ℕ → Bool) → (ℕ → Bool) → (ℕ → Bool) → Type 0
AreScrolledBut p scene s m c =
    (k : ℕ) → has (handles_of scene.trees) k ≡ true → s k ≡ true → m k ≡ false → c k ≡ false →
    AreLooked s m (children_of (handles_of scene.trees) k) →
    IsScrolledIn (known_in p scene) (layout_of p).scrolls (handles_of scene.trees) k

-- so it is but for those, and for the lists of children of others, told by c, and each object that is looked at is
-- at rest
pub record AreRightBut (p : Places) (scene : Scene) (s m c : ℕ → Bool) : Type 0 where
  pub boxes : (k : ℕ) → has (handles_of scene.trees) k ≡ true → s k ≡ true → m k ≡ false →
      IsRenewed scene (layout_of p).boxes k
  pub placed : (k : ℕ) → has (handles_of scene.trees) k ≡ true → s k ≡ true → m k ≡ false →
      is_some (value_at p.entries k) ≡ true
  pub fit : AllFitButBoth s m c (known_in p scene) (handles_of scene.trees)
  pub scrolled : AreScrolledBut p scene s m c
  pub fill : AllFillBut s m scene.limits.width scene.limits.height (known_in p scene) (handles_of scene.trees)
  pub calm : (k : ℕ) → has (handles_of scene.trees) k ≡ true → s k ≡ true → IsAtRest (layout_of p) k

-- the objects of the marked trees
abbrev pub in_marked : (ℕ → Bool) → Scene → ℕ → Bool
in_marked m scene k = has (marked_trees m (handles_of scene.trees)) k

-- all objects
abbrev pub anyone : ℕ → Bool
anyone k = true

abbrev pub nobody : ℕ → Bool
nobody k = false

-- all of them are, and of those that have not changed none has a place that is not there
pub record AreSettledButChanged (p : Places) (scene : Scene) (m : ℕ → Bool) : Type 0 where
  pub right : AreRightButChanged p scene anyone m
  pub there : (k : ℕ) → m k ≡ false → is_some (value_at p.entries k) ≡ has (handles_of scene.trees) k

pub record AreSettledButMarks (p : Places) (scene : Scene) (m c : ℕ → Bool) : Type 0 where
  pub right : AreRightBut p scene anyone m c
  pub there : (k : ℕ) → m k ≡ false → is_some (value_at p.entries k) ≡ has (handles_of scene.trees) k

-- An object has the same children as before. Where its children alone may be others, each of them that has not
-- changed was one before.
abbrev pub HasKids : Bool → (ℕ → Bool) → Forest ℕ → Forest ℕ → Type 0
HasKids false m new old = roots new ≡ roots old
HasKids true m new old = (k : ℕ) → is_root k new ≡ true → m k ≡ false → is_root k old ≡ true

-- an object does not differ in two scenes, as far as layout goes by it, and for the earlier one it was solved
pub record WasSolved (p : Places) (before scene : Scene) (m c : ℕ → Bool) (k : ℕ) : Type 0 where
  pub box : scene_box scene k ≡ scene_box before k
  pub kids : HasKids (c k) m (children_of (handles_of scene.trees) k) (children_of (handles_of before.trees) k)
  pub known : IsRenewed before (layout_of p).boxes k
  pub placed : is_some (value_at p.entries k) ≡ true
  pub fits : Fits (known_in p before k)
      (map (known_in p before) (roots (children_of (handles_of before.trees) k)))
  pub fills : parent_of (handles_of scene.trees) k ≡ None →
      FillsPanel scene.limits.width scene.limits.height (known_in p before k)
  pub scrolled : IsScrolledIn (known_in p before) (layout_of p).scrolls (handles_of before.trees) k

-- there is a scene that differs from this one in what the marks tell alone, for it the objects that are looked at
-- were solved, and they are at rest
pub record DiffersInMarks (p : Places) (scene : Scene) (s m c : ℕ → Bool) : Type 0 where
  pub before : Scene
  pub each : (k : ℕ) → has (handles_of scene.trees) k ≡ true → s k ≡ true → m k ≡ false →
      WasSolved p before scene m c k
  pub calm : (k : ℕ) → has (handles_of scene.trees) k ≡ true → s k ≡ true → IsAtRest (layout_of p) k

-- The trees in which an object has changed are solved, what has changed and is gone has no place, and all other
-- trees stay as they were, whatever they were. Where all was right but for those, all is settled.
pub record SettlesChanged (old new : Places) (scene : Scene) (m : ℕ → Bool) : Type 0 where
  pub solved : (k : ℕ) → in_marked m scene k ≡ true → place_at new k ≡ place scene k
  pub gone : (k : ℕ) → m k ≡ true → has (handles_of scene.trees) k ≡ false → place_at new k ≡ None
  pub others : (k : ℕ) → has (handles_of scene.trees) k ≡ true → in_marked m scene k ≡ false →
      place_at new k ≡ place_at old k
  pub naturals : (k : ℕ) → in_marked m scene k ≡ true → naturals_at new k ≡ naturals scene k
  pub gone_naturals : (k : ℕ) → m k ≡ true → has (handles_of scene.trees) k ≡ false → naturals_at new k ≡ None
  pub other_naturals : (k : ℕ) → has (handles_of scene.trees) k ≡ true → in_marked m scene k ≡ false →
      naturals_at new k ≡ naturals_at old k
  pub other_scrolls : (k : ℕ) → has (handles_of scene.trees) k ≡ true → in_marked m scene k ≡ false →
      scrolled_at (layout_of new).scrolls k ≡ scrolled_at (layout_of old).scrolls k
  pub right : (s : ℕ → Bool) → AreRightButChanged old scene s m → AreRightButChanged new scene s nobody
  pub settled : AreSettledButChanged old scene m → AreStanding new scene

-- how far children are scrolled is told of each in the marked trees as it is in the scene, of nothing that has
-- changed and is gone, and of all others as it was
pub record SettlesScrolls (old new : Places) (scene : Scene) (w : ℕ → Bool) : Type 0 where
  pub reaches : (k : ℕ) → in_marked w scene k ≡ true → reach_at new k ≡ reach scene k
  pub offsets : (k : ℕ) → in_marked w scene k ≡ true → offset_at new k ≡ offset scene k
  pub gone_reaches : (k : ℕ) → w k ≡ true → has (handles_of scene.trees) k ≡ false → reach_at new k ≡ None
  pub gone_offsets : (k : ℕ) → w k ≡ true → has (handles_of scene.trees) k ≡ false → offset_at new k ≡ None
  pub other_reaches : (k : ℕ) → has (handles_of scene.trees) k ≡ true → in_marked w scene k ≡ false →
      reach_at new k ≡ reach_at old k
  pub other_offsets : (k : ℕ) → has (handles_of scene.trees) k ≡ true → in_marked w scene k ≡ false →
      offset_at new k ≡ offset_at old k

-- and so it is with marks of both grades, which w tells together
pub record SettlesMarks (old new : Places) (scene : Scene) (w m c : ℕ → Bool) : Type 0 where
  pub solved : (k : ℕ) → in_marked w scene k ≡ true → place_at new k ≡ place scene k
  pub gone : (k : ℕ) → w k ≡ true → has (handles_of scene.trees) k ≡ false → place_at new k ≡ None
  pub others : (k : ℕ) → has (handles_of scene.trees) k ≡ true → in_marked w scene k ≡ false →
      place_at new k ≡ place_at old k
  pub naturals : (k : ℕ) → in_marked w scene k ≡ true → naturals_at new k ≡ naturals scene k
  pub gone_naturals : (k : ℕ) → w k ≡ true → has (handles_of scene.trees) k ≡ false → naturals_at new k ≡ None
  pub other_naturals : (k : ℕ) → has (handles_of scene.trees) k ≡ true → in_marked w scene k ≡ false →
      naturals_at new k ≡ naturals_at old k
  pub scrolls : SettlesScrolls old new scene w
  pub right : (s : ℕ → Bool) → AreRightBut old scene s m c → AreRightBut new scene s nobody nobody
  pub settled : AreSettledButMarks old scene m c → AreSettled new scene

-- an object that has not changed is there in both scenes or in none, has the same box and the same children, but
-- where these may be others, and where it is a root it was one before
pub record IsUnmoved (before scene : Scene) (m c : ℕ → Bool) (k : ℕ) : Type 0 where
  pub there : has (handles_of scene.trees) k ≡ has (handles_of before.trees) k
  pub box : scene_box scene k ≡ scene_box before k
  pub kids : HasKids (c k) m (children_of (handles_of scene.trees) k) (children_of (handles_of before.trees) k)
  pub root : parent_of (handles_of scene.trees) k ≡ None → parent_of (handles_of before.trees) k ≡ None

-- places that were settled for a scene from which this one differs in what the marks tell alone
pub record WereSettled (p : Places) (scene : Scene) (m c : ℕ → Bool) : Type 0 where
  pub before : Scene
  pub settled : AreSettled p before
  pub once : StandsOnce (handles_of before.trees)
  pub limits : scene.limits ≡ before.limits
  pub each : (k : ℕ) → m k ≡ false → IsUnmoved before scene m c k

-- the scenes differ in the order of the children of p alone, as far as layout goes by it
pub record IsReordered (before scene : Scene) (p : ℕ) : Type 0 where
  pub once : StandsOnce (handles_of before.trees)
  pub limits : scene.limits ≡ before.limits
  pub each : (k : ℕ) → IsUnmoved before scene nobody (λ j. eqb j p) k
  pub kept : (k : ℕ) → is_root k (children_of (handles_of before.trees) p) ≡ true →
      is_root k (children_of (handles_of scene.trees) p) ≡ true
