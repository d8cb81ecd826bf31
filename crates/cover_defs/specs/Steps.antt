-- How many steps a slice of the picture may take, and a refresh.
use Rattle.std.specs.Prelude.{ℕ, ◌+◌, ◌*◌, if◌then◌else◌, List, length, sum_by}
use Rattle.gui_base.specs.Area.{Rect, size_of}
use Rattle.gui_base.specs.Forest.{preorder}
use Rattle.scene_defs.specs.Items.{bars, items, chars_at}
use Rattle.scene_defs.specs.Scene.{Scene, handles_of}
use Rattle.scene_defs.specs.Shown.{Seen}
use Rattle.cover_defs.specs.Cover.{late, items_shown}

-- the objects of a scene
abbrev pub handles : Scene → List ℕ
handles scene = preorder (handles_of scene.trees)

abbrev pub object_count : Scene → ℕ
object_count scene = length (handles scene)

-- how many characters the text of an object has, and those of all objects
abbrev pub letters_at : Scene → ℕ → ℕ
letters_at scene h = length (chars_at scene h)

abbrev pub letter_count : Scene → ℕ
letter_count scene = sum_by (letters_at scene) (handles scene)

-- Besides its pixels a slice visits each object three times, as it looks for a cover, as it paints the object and
-- as it paints its bars, and looks at each character six times: once for each item that an object may have.
abbrev pub slice_extra : Scene → ℕ
slice_extra scene = 3 * object_count scene + 6 * letter_count scene

-- the most steps of painting an object by itself in an area of so many pixels
abbrev pub object_steps : Scene → ℕ → ℕ → ℕ
object_steps scene size h = length (items scene h) * size + 6 * letters_at scene h

-- those of its bars, which have no text
abbrev pub bar_steps : Scene → ℕ → ℕ → ℕ
bar_steps scene size h = length (bars scene h) * size

-- those of an object that is seen, or of its bars
abbrev pub steps_of : Scene → ℕ → Seen → ℕ
steps_of scene size s =
    if s.is_bars then bar_steps scene size s.handle else object_steps scene size s.handle

-- the most steps of painting an area that is black: each of its pixels once for each item from the cover on
abbrev pub slice_steps : Scene → Rect → ℕ
slice_steps scene part = size_of part * late scene part + slice_extra scene

-- the same with those that make it black
abbrev pub begun_steps : Scene → Rect → ℕ
begun_steps scene part = size_of part * (1 + late scene part) + slice_extra scene

-- the most steps of painting any area of so many pixels
abbrev pub most_steps : Scene → ℕ → ℕ
most_steps scene size = size * items_shown scene + slice_extra scene
