-- The frame law of scenes, and what debts are.
use Rattle.std.specs.Prelude.{◌≡◌, true, false, is_some, [], ℤ}
use Rattle.std.specs.List.{list_all, AllByRecursion}
use Rattle.gui_base.specs.Area.{is_within}
use Rattle.gui_base.specs.Limits.{grid_in}
use Rattle.gui_base.specs.Rounding.{IsRound}
use Rattle.scene_defs.specs.declared.Change.{Change}
use Rattle.scene_defs.specs.Scene.{Scene}
use Rattle.scene_defs.specs.Change.{answer_of, changed}
use Rattle.scene_defs.specs.Place.{panel_of}
use Rattle.scene_defs.specs.Picture.{paint}
use Rattle.scene_defs.specs.Valid.{HasWholeBlocks, IsValid, IsChange}
use Rattle.debt_defs.specs.SceneLook.{color_at}
use Rattle.debt_defs.specs.Scenes.{look_of, debt_of}
use Rattle.debt_defs.specs.Frame.{covered}

-- a pixel that no area of the debt has keeps its colour
abbrev pub FrameOfScenes : Type 0
FrameOfScenes =
    (scene : Scene) (change : Change) (x y : ℤ) → IsValid scene → IsChange change →
    covered (debt_of scene change) x y ≡ false → paint (changed scene change) x y ≡ paint scene x y

-- a scene is painted as its look says
abbrev pub PaintedByLook : Type 0
PaintedByLook = (scene : Scene) (x y : ℤ) → paint scene x y ≡ color_at (look_of scene) x y

-- a change that is refused owes nothing
abbrev pub RefusedOwesNothing : Type 0
RefusedOwesNothing =
    (scene : Scene) (change : Change) → is_some (answer_of scene change) ≡ true →
    debt_of scene change ≡ []

-- where the panel consists of whole blocks, each area of a debt has a pixel, and lies in the panel
abbrev pub DebtWithinPanel : Type 0
DebtWithinPanel =
    (scene : Scene) (change : Change) → HasWholeBlocks scene.limits →
    list_all (is_within (panel_of scene)) (debt_of scene change) ≡ true

-- and consists of whole blocks
abbrev pub DebtIsRound : Type 0
DebtIsRound =
    (scene : Scene) (change : Change) → HasWholeBlocks scene.limits →
    AllByRecursion (IsRound (grid_in scene.limits)) (debt_of scene change)
