-- Objects that go by none of their children.
use Rattle.std.specs.Prelude.{◌≡◌, ℕ, Bool, true, ◌&&◌, is_some}
use Rattle.gui_base.specs.Forest.{Forest, has}
use Rattle.gui_pool.specs.Table.{Table, value_at}
use Rattle.scene_defs.specs.Scene.{Scene, handles_of}
use Rattle.gui_boxes.specs.declared.entry.Entry.{Entry}
use Rattle.gui_layout.specs.declared.places.Places.{Places}
use Rattle.gui_boxes.specs.Settled.{is_steady}
use Rattle.gui_layout.specs.Solved.{layout_of}
use Rattle.gui_boxes.specs.Tables.{told}
use Rattle.gui_boxes.specs.Views.{box_at}

-- an object is there, and by the box that it has it is steady
pub record Rests (f : Forest ℕ) (entries : Table Entry) (k : ℕ) : Type 0 where
  pub there : has f k ≡ true
  pub some : is_some (value_at entries k) ≡ true
  pub steady : is_steady (box_at (told entries).boxes k) ≡ true

-- whether that is so
abbrev pub rests : Forest ℕ → Table Entry → ℕ → Bool
rests f entries k =
    has f k && (is_some (value_at entries k) && is_steady (box_at (told entries).boxes k))

-- whether it is so of an object of a scene, by the places that were found
abbrev pub rests_at : Places → Scene → ℕ → Bool
rests_at p scene k =
    has (handles_of scene.trees) k
    && (is_some (value_at p.entries k) && is_steady (box_at (layout_of p).boxes k))
