-- Objects that move when places are settled, and the list of them.
use Rattle.std.specs.Prelude.{◌≡◌, ◌≤◌, ◌<◌, ◌⊎◌, ℕ, Bool, true, false, Some, List, is_some}
use Rattle.gui_base.specs.Forest.{Forest, has, parent_of, tree_at}
use Rattle.gui_base.specs.declared.Handle.{Handle}
use Rattle.gui_pool.specs.Table.{value_at}
use Rattle.layout_defs.specs.Boxes.{Box}
use Rattle.scene_defs.specs.Scene.{Scene, handles_of}
use Rattle.gui_boxes.specs.Listing.{times}
use Rattle.gui_boxes.specs.Scrolls.{scrolled_at}
use Rattle.gui_boxes.specs.Settled.{Layout, known_at}
use Rattle.gui_boxes.specs.Standing.{reported_at}
use Rattle.gui_boxes.specs.Touched.{is_touched, standing_at}
use Rattle.gui_layout.specs.Calm.{IsClosedUp, StandsOver}
use Rattle.gui_layout.specs.SettledBut.{in_marked}
use Rattle.gui_layout.specs.Solved.{layout_of, moved_in, offset_at, place_at, reach_at}
use Rattle.gui_layout.specs.Tops.{in_trees_at}
use Rattle.gui_layout.specs.declared.places.Places.{Places}

-- More is touched in the trees at these tops, which are touched and looked at, and of an object that is not touched
-- nothing has changed. What was told last is the same.
pub record Propagates (box : ℕ → Box) (f : Forest ℕ) (s : ℕ → Bool) (old new : Layout) (us : List Handle) : Type 0 where
  pub more : (k : ℕ) → is_touched old k ≡ true → is_touched new k ≡ true
  pub inside : (k : ℕ) → is_touched old k ≡ false → is_touched new k ≡ true → in_trees_at f us k ≡ true
  pub closed : (r : ℕ → Bool) → IsClosedUp f r (is_touched old) → IsClosedUp f r (is_touched new)
  pub known : (k : ℕ) → is_touched new k ≡ false → known_at box new k ≡ known_at box old k
  pub scrolls : (k : ℕ) → is_touched new k ≡ false → scrolled_at new.scrolls k ≡ scrolled_at old.scrolls k
  pub reported : new.reported ≡ old.reported
  pub tops : (u : ℕ) → 0 < times us u → is_touched new u ≡ true
  pub looked : (u k : ℕ) → 0 < times us u → has (tree_at f u) k ≡ true → s k ≡ true

-- in the trees at these tops the parent of a touched object is touched, and so it is in all in which they lie
pub record AreClosed (f : Forest ℕ) (t : ℕ → Bool) (us : List Handle) : Type 0 where
  pub looked : ℕ → Bool
  pub inside : (u k : ℕ) → 0 < times us u → has (tree_at f u) k ≡ true → looked k ≡ true
  pub higher : (k p : ℕ) → has f k ≡ true → looked k ≡ true → parent_of f k ≡ Some p → looked p ≡ true
  pub closed : IsClosedUp f looked t

-- Trees were solved at these tops. What is touched since then lies in one of them, or stands above a listed object; where
-- an object that is not touched stands is as it was; and of what had an entry, or is not listed, the same was told last.
pub record Spreads (old new : Places) (scene : Scene) (m : ℕ → Bool) (hs us : List Handle) : Type 0 where
  pub over : (k : ℕ) → has (handles_of scene.trees) k ≡ true → is_touched (layout_of old) k ≡ false →
      is_touched (layout_of new) k ≡ true →
      StandsOver (handles_of scene.trees) hs k ⊎ (in_trees_at (handles_of scene.trees) us k ≡ true)
  pub still : (k : ℕ) → has (handles_of scene.trees) k ≡ true → is_touched (layout_of new) k ≡ false →
      standing_at (layout_of new) k ≡ standing_at (layout_of old) k
  pub reported : (k : ℕ) → has (handles_of scene.trees) k ≡ true → is_some (value_at old.entries k) ≡ true →
      reported_at (layout_of new).reported k ≡ reported_at (layout_of old).reported k
  pub unlisted : (k : ℕ) → has (handles_of scene.trees) k ≡ true → times hs k ≡ 0 →
      reported_at (layout_of new).reported k ≡ reported_at (layout_of old).reported k
  pub closed : AreClosed (handles_of scene.trees) (is_touched (layout_of new)) us
  pub listed : (k : ℕ) → 0 < times hs k → has (handles_of scene.trees) k ≡ true →
      is_touched (layout_of new) k ≡ true
  pub above : (u q : ℕ) → 0 < times us u → parent_of (handles_of scene.trees) u ≡ Some q →
      is_touched (layout_of new) q ≡ true
  pub inside : (u k : ℕ) → 0 < times us u → has (tree_at (handles_of scene.trees) u) k ≡ true →
      in_marked m scene k ≡ true

-- Each object that is there is listed once where it has changed, told by m, or its place, its reach or its offset is
-- another. No object is listed that has not changed and stands as before.
pub record ListsMoved (old new : Places) (scene : Scene) (m : ℕ → Bool) : Type 0 where
  pub once : (k : ℕ) → times (moved_in new) k ≤ 1
  pub there : (k : ℕ) → 0 < times (moved_in new) k → has (handles_of scene.trees) k ≡ true
  pub whole : (k : ℕ) → has (handles_of scene.trees) k ≡ true → m k ≡ true → 0 < times (moved_in new) k
  pub stays : (k : ℕ) → has (handles_of scene.trees) k ≡ true → times (moved_in new) k ≡ 0 →
      place_at new k ≡ place_at old k
  pub reaches : (k : ℕ) → has (handles_of scene.trees) k ≡ true → times (moved_in new) k ≡ 0 →
      reach_at new k ≡ reach_at old k
  pub offsets : (k : ℕ) → has (handles_of scene.trees) k ≡ true → times (moved_in new) k ≡ 0 →
      offset_at new k ≡ offset_at old k
  pub only : (k : ℕ) → has (handles_of scene.trees) k ≡ true → m k ≡ false →
      place_at new k ≡ place_at old k → reach_at new k ≡ reach_at old k → offset_at new k ≡ offset_at old k →
      times (moved_in new) k ≡ 0
