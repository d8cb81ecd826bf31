-- What is seen of objects.
use Rattle.std.specs.Prelude.{ℕ, Bool, false, if◌then◌else◌, Some, None, ℤ}
use Rattle.std.specs.declared.option.Option.{Option}
use Rattle.gui_base.specs.declared.words.Flag.TheVariants.{Hidden}
use Rattle.gui_base.specs.Area.{Rect, has, is_empty, common}
use Rattle.gui_base.specs.Forest.{Forest, Empty, Tree, has_by, and_then}
use Rattle.scene_defs.specs.Row.{is_on}
use Rattle.scene_defs.specs.Scene.{Object, Scene, is_at}
use Rattle.scene_defs.specs.Place.{panel_of, place}

-- the area, where it has a pixel
abbrev pub some_area : Rect → Option Rect
some_area area = if is_empty area then None else Some area

-- the pixels that both have, where there are both
abbrev pub met : Option Rect → Option Rect → Option Rect
met None area = None
met (Some clip) None = None
met (Some clip) (Some area) = some_area (common clip area)

-- whether the area, if there is one, has the pixel
abbrev pub holds : Option Rect → ℤ → ℤ → Bool
holds None x y = false
holds (Some area) x y = has area x y

-- what is seen of an object through a clip: nothing of a hidden one
abbrev pub seen_of : (ℕ → Option Rect) → Option Rect → Object → Option Rect
seen_of place clip object = if is_on object.row.flags Hidden then None else met clip (place object.handle)

-- what is seen of h among these trees; the clip is what is seen of their parent
abbrev pub visible_in : (ℕ → Option Rect) → Option Rect → Forest Object → ℕ → Option Rect
visible_in place clip Empty h = None
visible_in place clip (Tree object cs rest) h =
    if is_at h object then seen_of place clip object
    else if has_by (is_at h) cs then visible_in place (seen_of place clip object) cs h
    else visible_in place clip rest h

-- the tree of the root h
abbrev pub root_tree : Forest Object → ℕ → Forest Object
root_tree Empty h = Empty
root_tree (Tree object cs rest) h = if is_at h object then Tree object cs Empty else root_tree rest h

-- the active screen, and the layers above it
abbrev pub shown_trees : Scene → Forest Object
shown_trees scene =
    and_then (root_tree scene.trees scene.active)
    (and_then (root_tree scene.trees 1) (root_tree scene.trees 2))

-- what is seen of h: its area met with those of all ancestors and with the panel; nothing where it, or one
-- above it, is hidden or not shown
abbrev pub visible : Scene → ℕ → Option Rect
visible scene h = visible_in (place scene) (Some (panel_of scene)) (shown_trees scene) h
