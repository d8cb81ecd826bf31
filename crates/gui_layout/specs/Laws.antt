-- From what places may be settled.
use Rattle.std.specs.Prelude.{◌≡◌, ℕ, false}
use Rattle.gui_boxes.specs.Marks.{is_changed, is_marked, is_parent}
use Rattle.gui_boxes.specs.declared.marks.Marks.{Marks}
use Rattle.gui_store.specs.Views.{scene_of}
use Rattle.gui_store.specs.declared.store.Store.{Store}
use Rattle.gui_layout.specs.declared.places.Places.{Places}
use Rattle.gui_layout.specs.SettledBut.{AreRightBut, DiffersInMarks, WereSettled, in_marked}
use Rattle.scene_defs.specs.Scene.{Scene}

-- the marked trees are right but for the marks: of places `settle` asks nothing else
abbrev pub MaySettle : Places → Scene → Marks → Type 0
MaySettle p scene marks =
    AreRightBut p scene (in_marked (is_marked marks) scene) (is_changed marks) (is_parent marks)

-- so they are where a scene differs from the store's in what is marked alone, and the marked trees were solved for it
abbrev pub DifferingMaySettle : Type 0
DifferingMaySettle =
    (p : Places) (store : Store) (marks : Marks) →
    DiffersInMarks p (scene_of store) (in_marked (is_marked marks) (scene_of store))
    (is_changed marks) (is_parent marks) →
    MaySettle p (scene_of store) marks

-- and where all places were settled for such a scene
abbrev pub SettledMaySettle : Type 0
SettledMaySettle =
    (p : Places) (store : Store) (marks : Marks) →
    WereSettled p (scene_of store) (is_changed marks) (is_parent marks) → MaySettle p (scene_of store) marks

-- and where nothing is marked, whatever the places are
abbrev pub UnmarkedMaySettle : Type 0
UnmarkedMaySettle =
    (p : Places) (scene : Scene) (marks : Marks) → ((k : ℕ) → is_marked marks k ≡ false) → MaySettle p scene marks
