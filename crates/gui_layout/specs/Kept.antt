-- Objects of which nothing else sees that they changed.
use Rattle.std.specs.Prelude.{◌≡◌, ℕ, true, is_some, slice_index}
use Rattle.gui_base.specs.Forest.{Forest, Empty, children_of, has, parent_of}
use Rattle.gui_pool.specs.Table.{Table, value_at}
use Rattle.layout_defs.specs.Boxes.{Box, inner, inset}
use Rattle.layout_defs.specs.Solving.{natural_size}
use Rattle.scene_defs.specs.Scene.{Scene}
use Rattle.gui_boxes.specs.declared.entry.Entry.{Entry}
use Rattle.gui_boxes.specs.Tables.{told}
use Rattle.gui_layout.specs.Renewed.{IsRenewed}
use Rattle.gui_layout.specs.Scenes.{scene_box}

-- how high an object is by nature that has no children and is so wide
abbrev pub height_alone : Box → ℕ → ℕ
height_alone box width = natural_size box.down.size (inset box.down) (box.own_height (inner box.across width))

-- An object that has a parent and no children was there, and to its parent it is what it was: its box is the one that
-- is told, but for its own height, and its natural height is.
pub record Keeps (f : Forest ℕ) (entries : Table Entry) (scene : Scene) (h : ℕ) : Type 0 where
  pub there : has f h ≡ true
  pub under : is_some (parent_of f h) ≡ true
  pub alone : children_of f h ≡ Empty
  pub some : is_some (value_at entries h) ≡ true
  pub box : IsRenewed scene (told entries).boxes h
  pub height : slice_index (told entries).natural_heights h
      ≡ height_alone (scene_box scene h) (slice_index (told entries).widths h)
