-- What a change whose numbers lie in their intervals does to the parts of a store.
use Rattle.std.specs.Prelude.{◌≡◌, Result}
use Rattle.gui_base.specs.declared.refusal.Refusal.{Refusal}
use Rattle.gui_base.specs.Refusing.{result_of}
use Rattle.scene_defs.specs.declared.Change.{Change}
use Rattle.scene_defs.specs.Change.{answer_in_range, scene_by}
use Rattle.gui_store.specs.Parts.{Parts, scene_in}
use Rattle.gui_store.specs.Removed.{removed_by}

-- it is done as a whole, or refused with all as it was
pub record IsChanged (old new : Parts) (change : Change) (answer : Result (Unit {0}) Refusal) : Type 0 where
  pub answer_is : answer ≡ result_of (answer_in_range (scene_in old) change)
  pub scene : scene_in new ≡ scene_by (answer_in_range (scene_in old) change) (scene_in old) change
  pub removed : new.tree.removed
      ≡ removed_by (answer_in_range (scene_in old) change) old.tree.removed (scene_in old) change
