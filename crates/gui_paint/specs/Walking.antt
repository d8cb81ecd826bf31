-- What walks over what is painted do.
use Rattle.std.specs.Prelude.{◌≡◌, ◌≤◌, ◌<◌, ◌+◌, ◌==◌, ℕ, Bool, true, if◌then◌else◌}
use Rattle.std.specs.Prelude.{Some, None, List, [], ◌∷◌, ◌++◌, fold, sum_by, option_map}
use Rattle.std.specs.declared.option.Option.{Option}
use Rattle.gui_base.specs.declared.Handle.{Handle}
use Rattle.gui_base.specs.declared.words.Flag.TheVariants.{Hidden}
use Rattle.gui_base.specs.Area.{Rect, width_of, size_of}
use Rattle.gui_base.specs.Forest.{size, tree_by, children_by}
use Rattle.gui_color.specs.Buffer.{Buffer}
use Rattle.layout_defs.specs.Reach.{IsNear}
use Rattle.scene_defs.specs.declared.Row.{Row}
use Rattle.scene_defs.specs.Place.{place}
use Rattle.scene_defs.specs.Picture.{paint_seen}
use Rattle.scene_defs.specs.Row.{is_on}
use Rattle.scene_defs.specs.Scene.{Scene, is_at, is_there}
use Rattle.scene_defs.specs.Shown.{Seen, bars_over, entry_coats, own, seen_as}
use Rattle.scene_defs.specs.Visible.{met}
use Rattle.scene_defs.specs.Walk.{walked}
use Rattle.cover_defs.specs.Steps.{steps_of}
use Rattle.cover_defs.specs.Walks.{from_handle, waits_on}
use Rattle.gui_paint.specs.Painting.{Painting, Paints}

abbrev pub number_of : Option Handle → Option ℕ
number_of h = option_map (λ h. h.0) h

-- what is seen through a clip of an object with this row and place
abbrev pub seen_through : Rect → Row → Option Rect → Option Rect
seen_through clip row place = if is_on row.flags Hidden then None else met (Some clip) place

-- an object by itself of which so much is seen, and its bars
abbrev pub seen_so : Scene → Rect → ℕ → Seen
seen_so scene visible h = seen_as (entry_coats scene) (Some visible) (own h)

abbrev pub bars_so : Scene → Rect → ℕ → Seen
bars_so scene visible h = seen_as (entry_coats scene) (Some visible) (bars_over h)

-- what a walk meets from an object down; the clip is what is seen of its parent
abbrev pub tree_walk : Scene → Rect → ℕ → List Seen
tree_walk scene clip h =
    walked (place scene) (entry_coats scene) (Some clip) (tree_by (is_at h) scene.trees)

-- what it meets below an object of which so much is seen
abbrev pub below_walk : Scene → Rect → ℕ → List Seen
below_walk scene visible h =
    walked (place scene) (entry_coats scene) (Some visible) (children_by (is_at h) scene.trees)

-- an object stands at a place from which it can be painted
pub record StandsAt (scene : Scene) (h : ℕ) (area : Rect) : Type 0 where
  pub there : is_there scene h ≡ true
  pub stands : place scene h ≡ Some area
  pub near : IsNear area
  pub narrow : width_of area ≤ 8191

-- An object stands there, so much is seen of it, and a walk meets it before all below it, and its bars after.
pub record IsVisit (scene : Scene) (clip : Rect) (h : ℕ) (area visible : Rect) : Type 0 where
  pub stands : StandsAt scene h area
  pub walk : tree_walk scene clip h
      ≡ seen_so scene visible h ∷ (below_walk scene visible h ++ bars_so scene visible h ∷ [])
  pub small : size (children_by (is_at h) scene.trees) < size (tree_by (is_at h) scene.trees)

-- whether an object is the one that a walk waits for, or it waits for none
abbrev pub is_awaited : Option ℕ → ℕ → Bool
is_awaited None h = true
is_awaited (Some k) h = h == k

-- entries one after another
abbrev pub painted_each : List Seen → Painting
painted_each list x y under = fold (paint_seen x y) under list

-- A walk that waits for an object has met these, in so many visits: it has painted those from that object on.
pub record PaintsMet (scene : Scene) (list : List Seen) (waits_before waits_after : Option ℕ) (old new : Buffer)
    (visits from to : ℕ) : Type 0 where
  pub waits : waits_after ≡ waits_on waits_before list
  pub painted : Paints old new (painted_each (from_handle waits_before list))
  pub steps : to
      ≤ from + (visits + sum_by (steps_of scene (size_of old.area)) (from_handle waits_before list))
