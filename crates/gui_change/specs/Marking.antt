-- Which objects are marked: those that may stand elsewhere.
use Rattle.std.specs.Prelude.{◌≡◌, ◌<◌, ℕ, Bool, if◌then◌else◌, List, true, false}
use Rattle.gui_base.specs.declared.Handle.{Handle}
use Rattle.scene_defs.specs.declared.Change.{Change}
use Rattle.scene_defs.specs.Scene.{Scene, handles_of, is_there}
use Rattle.gui_boxes.specs.Listing.{times}
use Rattle.gui_layout.specs.Scenes.{scene_box}
use Rattle.gui_layout.specs.Solved.{AreSettled, limits_of, moved_in, offset_at, place_at, reach_at}
use Rattle.gui_layout.specs.Tops.{in_trees_at}
use Rattle.gui_boxes.specs.declared.marks.Marks.{Marks}
use Rattle.gui_layout.specs.declared.places.Places.{Places}
use Rattle.gui_boxes.specs.Marks.{is_changed, is_parent, solved_in}
use Rattle.gui_layout.specs.SettledBut.{WereSettled}
use Rattle.gui_change.specs.Edits.{WasEdited}
use Rattle.gui_concerns.specs.Moving.{moves_nobody}
use Rattle.gui_concerns.specs.declared.concerned.Concerned.{Concerned}
use Rattle.gui_concerns.specs.declared.concerned.Concerned.TheVariants.{Nobody}
use Rattle.gui_concerns.specs.declared.edit.Edit.{Edit}

-- places that were settled before a change were settled for a scene that differs in what the marks tell alone
abbrev pub MarksTell : Marks → Scene → Edit → Change → Concerned → List ℕ → Type 0
MarksTell marks after edit made concerned removed =
    (places : Places) → WasEdited places after edit made concerned removed →
    WereSettled places after (is_changed marks) (is_parent marks)

-- what is there and not marked has the box that it had before
abbrev pub BoxesStay : Marks → Scene → Edit → Change → Concerned → List ℕ → Type 0
BoxesStay marks after edit made concerned removed =
    (places : Places) (was : WasEdited places after edit made concerned removed) (k : ℕ) →
    is_there after k ≡ true → is_changed marks k ≡ false → scene_box after k ≡ scene_box was.was.before k

-- the children of k reach as far as before, and are moved as far
pub record MovesSame (old new : Places) (k : ℕ) : Type 0 where
  pub reach : reach_at new k ≡ reach_at old k
  pub offset : offset_at new k ≡ offset_at old k

-- so it is where k is scrollable; any other shows no bars
abbrev pub ScrollsSame : Places → Places → Scene → ℕ → Type 0
ScrollsSame old new scene k = (scene_box scene k).scrollable ≡ true → MovesSame old new k

-- The places are settled, and all objects but those of the trees at some stand where they stood.
pub record SettlesTrees (old new : Places) (scene : Scene) (tops : List Handle) : Type 0 where
  pub settled : AreSettled new scene
  pub limits : limits_of new ≡ limits_of old
  pub there : (u : ℕ) → 0 < times tops u → is_there scene u ≡ true
  pub stays : (k : ℕ) → is_there scene k ≡ true →
      in_trees_at (handles_of scene.trees) tops k ≡ false → place_at new k ≡ place_at old k

-- The places are settled. All objects but the moved ones stand where they stood, and move their children as before.
pub record SettlesMoved (old new : Places) (scene : Scene) (moved : List Handle) : Type 0 where
  pub settled : AreSettled new scene
  pub limits : limits_of new ≡ limits_of old
  pub stays : (k : ℕ) → is_there scene k ≡ true → times moved k ≡ 0 → place_at new k ≡ place_at old k
  pub scrolls : (k : ℕ) → is_there scene k ≡ true → times moved k ≡ 0 → MovesSame old new k

-- the moved ones: those that settling tells, or, where nothing was solved, the one that has changed
abbrev pub moved_by : Places → Marks → Bool → List Handle
moved_by places marks true = solved_in marks
moved_by places marks false = moved_in places

-- those that a change may concern and that need not be among the moved: where layout goes by what it sets, all are
abbrev pub beside_moved : Change → Concerned → Concerned
beside_moved made concerned = if moves_nobody made then concerned else Nobody
