-- The changes that the lines of a scene in JSON ask for, on a store as it is opened.
use Rattle.std.specs.Prelude.{◌≡◌, ℕ, true, List, map, Some, None, Ok, Err}
use Rattle.std.specs.declared.option.Option.{Option}
use Rattle.std.specs.declared.result.Result.{Result}
use Rattle.gui_base.specs.Forest.{Forest}
use Rattle.gui_base.specs.Limits.{Bounds}
use Rattle.gui_base.specs.declared.refusal.Refusal.{Refusal}
use Rattle.scene_defs.specs.declared.Change.{Change}
use Rattle.scene_defs.specs.Scene.{Scene, first_scene}
use Rattle.run_defs.specs.Script.{says, Whole}
use Rattle.line_texts.specs.Commands.{asks}
use Rattle.scene_json.specs.Scenes.{scene_text}
use Rattle.scene_check.specs.Checking.{refusal_of_all, changed_by_all}
use Rattle.scene_check.specs.Fitting.{only_full}
use Rattle.scene_check.specs.Made.{screen, on_screen, MayStand}
use Rattle.scene_check.specs.Nodes.{trees_of}
use Rattle.scene_check.specs.Trees.{Wanted, making, outline_wanted}

-- these bytes are a scene, and the text of its lines, read as a script, asks for these changes and says nothing
-- else
pub record AreOfScene (bytes : List ℕ) (changes : List Change) : Type 0 where
  pub text : List ℕ
  pub is_text : scene_text bytes ≡ Ok text
  pub asked : says Whole text ≡ map asks changes

-- they are the changes that make trees which may stand on the first screen, and these are those of the scene
pub record MakeTrees (bytes : List ℕ) (changes : List Change) : Type 0 where
  pub trees : Forest Wanted
  pub changes_are : changes ≡ making screen trees
  pub may_stand : MayStand trees
  pub trees_are : outline_wanted trees ≡ trees_of bytes

pub record ScenesAreMade : Type 0 where
  pub makes : (bytes : List ℕ) (changes : List Change) → AreOfScene bytes changes → MakeTrees bytes changes
  -- the first refusal of them is that of a full pool
  pub fits : (limits : Bounds) (bytes : List ℕ) (changes : List Change) → AreOfScene bytes changes →
      only_full (refusal_of_all (first_scene limits) changes) ≡ true
  -- where there is none, the trees of the scene are what stands on the first screen, in their order
  pub made : (limits : Bounds) (bytes : List ℕ) (changes : List Change) → AreOfScene bytes changes →
      refusal_of_all (first_scene limits) changes ≡ None →
      on_screen (changed_by_all (first_scene limits) changes) ≡ trees_of bytes

-- the refusal that is answered, where there is one
abbrev pub refusal_in : Result (Unit {0}) Refusal → Option Refusal
refusal_in (Ok done) = None
refusal_in (Err refusal) = Some refusal

-- what is answered to the changes of a scene, and what they make
pub record MakesScenes (before : Scene) (changes : List Change) (answer : Result (Unit {0}) Refusal) (after : Scene)
    : Type 0 where
  -- on a store as opened the refusal is that of a full pool
  pub full : (limits : Bounds) (bytes : List ℕ) → before ≡ first_scene limits → AreOfScene bytes changes →
      only_full (refusal_in answer) ≡ true
  -- where there is none, the trees of the scene are what stands on the first screen, in their order
  pub made : (limits : Bounds) (bytes : List ℕ) → before ≡ first_scene limits → AreOfScene bytes changes →
      answer ≡ Ok tt → on_screen after ≡ trees_of bytes
