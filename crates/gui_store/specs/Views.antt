-- What a store shows: a scene, and the handles that were removed last.
use Rattle.std.specs.Prelude.{ℕ, List, Result}
use Rattle.gui_base.specs.declared.refusal.Refusal.{Refusal}
use Rattle.gui_base.specs.Bounded.{bounds_of}
use Rattle.scene_defs.specs.declared.Change.{Change}
use Rattle.scene_defs.specs.Scene.{Scene}
use Rattle.gui_store.specs.declared.store.Store.{Store}
use Rattle.gui_store.specs.Changed.{IsChanged}
use Rattle.gui_store.specs.Parts.{Parts, scene_in}

abbrev pub parts_of : Store → Parts
parts_of store = record {
  tree = store.tree;
  rows = store.rows.rows;
  spare_texts = store.rows.spare_texts;
  styles = store.styles;
  fonts = store.fonts;
  images = store.images;
  active = store.active.0;
  limits = bounds_of store.limits;
}

abbrev pub scene_of : Store → Scene
scene_of store = scene_in (parts_of store)

abbrev pub removed_of : Store → List ℕ
removed_of store = store.tree.removed

-- the parts of one store become those of the other
abbrev pub Changes : Store → Store → Change → Result (Unit {0}) Refusal → Type 0
Changes old new change answer = IsChanged (parts_of old) (parts_of new) change answer
