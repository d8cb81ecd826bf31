-- What a walk rests on: that each handle stands once, and where the trees that are left stand.
use Rattle.std.specs.Prelude.{◌≡◌, ℕ, Option, option_map}
use Rattle.gui_base.specs.Forest.{Forest, Tree, first_root, StandsOnce}
use Rattle.gui_base.specs.declared.Handle.{Handle}
use Rattle.gui_tree.specs.Handles.{as_handle}
use Rattle.gui_tree.specs.Walks.{trees_from}

-- these trees stand side by side somewhere in the forest
pub data IsPart : Forest ℕ → Forest ℕ → Type 0 where
  whole : {f : Forest ℕ} → IsPart f f
  below : {h : ℕ} {cs rest g : Forest ℕ} → IsPart cs g → IsPart (Tree h cs rest) g
  beside : {h : ℕ} {cs rest g : Forest ℕ} → IsPart rest g → IsPart (Tree h cs rest) g

-- the handle of the first tree
abbrev pub first_of : Forest ℕ → Option Handle
first_of f = option_map as_handle (first_root f)

-- the first tree of a list is found by its handle, and the list is what stands from it on
pub record IsNext (f : Forest ℕ) (next : Option Handle) : Type 0 where
  pub part : IsPart f (trees_from next f)
  pub first : next ≡ first_of (trees_from next f)

-- each handle stands once, and the trees from `next` on are the rest of some children
pub record IsWalk (f : Forest ℕ) (next : Option Handle) : Type 0 where
  pub once : StandsOnce f
  pub at : IsNext f next
