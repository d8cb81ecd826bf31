-- What `Places` shows: its limits, and the place of each object.
use Rattle.std.specs.Prelude.{◌≡◌, ℕ, true, List, option_map, is_some}
use Rattle.std.specs.declared.option.Option.{Option}
use Rattle.gui_base.specs.Area.{Rect}
use Rattle.gui_base.specs.Bounded.{bounds_of}
use Rattle.gui_base.specs.Limits.{Bounds}
use Rattle.gui_base.specs.Forest.{has}
use Rattle.gui_base.specs.declared.Handle.{Handle}
use Rattle.gui_pool.specs.Table.{value_at}
use Rattle.scene_defs.specs.Scene.{Scene, handles_of}
use Rattle.gui_layout.specs.declared.places.Places.{Places}
use Rattle.layout_defs.specs.Solving.{Span}
use Rattle.scene_defs.specs.Place.{offset, place, reach}
use Rattle.gui_layout.specs.Naturals.{AreNatural}
use Rattle.gui_layout.specs.Scenes.{scene_box, HoldsBoxes}
use Rattle.gui_boxes.specs.declared.entry.Entry.{Entry}
use Rattle.gui_layout.specs.Scrolled.{IsScrolledIn}
use Rattle.gui_boxes.specs.Scrolls.{moves_of, span_of}
use Rattle.gui_boxes.specs.Settled.{Layout, known, known_at, IsSettled}
use Rattle.gui_boxes.specs.Tables.{area_in, told}
use Rattle.gui_boxes.specs.Touched.{IsAtRest}

abbrev pub limits_of : Places → Bounds
limits_of p = bounds_of p.limits

-- the place of h, if it has one
abbrev pub place_at : Places → ℕ → Option Rect
place_at p h = option_map area_in (value_at p.entries h)

-- how far the children of h reach out of its content area, and how far it moves them, if it has a place
abbrev pub reach_in : Entry → Span
reach_in e = span_of e.scrolled.reach

abbrev pub offset_in : Entry → Span
offset_in e = moves_of e.scrolled.offset

abbrev pub reach_at : Places → ℕ → Option Span
reach_at p h = option_map reach_in (value_at p.entries h)

abbrev pub offset_at : Places → ℕ → Option Span
offset_at p h = option_map offset_in (value_at p.entries h)

-- the objects that were listed when the places were settled last
abbrev pub moved_in : Places → List Handle
moved_in p = p.found.items

-- each object of a scene has its place, and nothing else has one
abbrev pub AreSolved : Places → Scene → Type 0
AreSolved p scene = (h : ℕ) → place_at p h ≡ place scene h

-- and so far the children of each object reach, and so far it moves them
pub record AreReached (p : Places) (scene : Scene) : Type 0 where
  pub reaches : (h : ℕ) → reach_at p h ≡ reach scene h
  pub offsets : (h : ℕ) → offset_at p h ≡ offset scene h

-- what is found of each object
abbrev pub layout_of : Places → Layout
layout_of p = told p.entries

-- and its box and its natural sizes are known
pub record AreStanding (p : Places) (scene : Scene) : Type 0 where
  pub boxes : HoldsBoxes (layout_of p).boxes scene
  pub settled : IsSettled scene.limits.width scene.limits.height
      (known (scene_box scene) (layout_of p) (handles_of scene.trees))
  pub there : (h : ℕ) → is_some (value_at p.entries h) ≡ has (handles_of scene.trees) h
  pub solved : AreSolved p scene

-- and how far its children are scrolled, its natural sizes are those of the definition, and all are at rest
pub record AreSettled (p : Places) (scene : Scene) : Type 0 where
  pub boxes : HoldsBoxes (layout_of p).boxes scene
  pub settled : IsSettled scene.limits.width scene.limits.height
      (known (scene_box scene) (layout_of p) (handles_of scene.trees))
  pub there : (h : ℕ) → is_some (value_at p.entries h) ≡ has (handles_of scene.trees) h
  pub solved : AreSolved p scene
  pub scrolled : (h : ℕ) → has (handles_of scene.trees) h ≡ true →
      IsScrolledIn (known_at (scene_box scene) (layout_of p)) (layout_of p).scrolls (handles_of scene.trees) h
  pub reached : AreReached p scene
  pub naturals : AreNatural p scene
  pub calm : (h : ℕ) → has (handles_of scene.trees) h ≡ true → IsAtRest (layout_of p) h
