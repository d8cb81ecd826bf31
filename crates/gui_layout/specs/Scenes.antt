-- What layout sees of the objects of a scene by handle, and what is shown of them.
use Rattle.std.specs.Prelude.{◌≡◌, ℕ, Bool, ◌==◌, ◌||◌, if◌then◌else◌, List, Option, Some, None, IsSome, slice_index_or}
use Rattle.gui_base.specs.Area.{Rect}
use Rattle.layout_defs.specs.Boxes.{Box}
use Rattle.layout_defs.specs.OwnHeights.{but_height}
use Rattle.scene_defs.specs.Edits.{text_at}
use Rattle.scene_defs.specs.Place.{panel_of, box_of}
use Rattle.scene_defs.specs.declared.Row.{Row}
use Rattle.scene_defs.specs.Scene.{Object, Scene, object_at}
use Rattle.gui_boxes.specs.declared.layout_box.LayoutBox.{LayoutBox}
use Rattle.gui_boxes.specs.Views.{no_box, box_at}

-- the object of a handle that has this row
abbrev pub object_with : Scene → ℕ → Row → Object
object_with scene h row = record { handle = h; row = row; text = text_at scene h }

-- the box of h: one of no size where it is not there
abbrev pub box_or_none : Scene → ℕ → Option Object → Box
box_or_none scene h None = no_box h
box_or_none scene h (Some object) = box_of scene object

abbrev pub scene_box : Scene → ℕ → Box
scene_box scene h = box_or_none scene h (object_at scene h)

-- the boxes that are there are those of the objects, but for their own heights
abbrev pub HoldsBoxes : List (Option LayoutBox) → Scene → Type 0
HoldsBoxes boxes scene =
    (h : ℕ) → IsSome (slice_index_or boxes h None) → but_height (box_at boxes h) ≡ but_height (scene_box scene h)

-- the panel, where h is the active screen or a layer
abbrev pub is_shown : Scene → ℕ → Bool
is_shown scene h = h == scene.active || (h == 1 || h == 2)

abbrev pub shown_panel : Scene → ℕ → Option Rect
shown_panel scene h = if is_shown scene h then Some (panel_of scene) else None
