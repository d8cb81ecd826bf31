-- The looks of scenes, and the debts of their changes.
use Rattle.std.specs.Prelude.{ℕ, Some, None, List, [], map, ℤ}
use Rattle.std.specs.declared.option.Option.{Option}
use Rattle.gui_base.specs.declared.refusal.Refusal.{Refusal}
use Rattle.gui_base.specs.Area.{Rect}
use Rattle.gui_base.specs.Coats.{Dab, Coat}
use Rattle.gui_base.specs.Limits.{grid_in}
use Rattle.widget_defs.specs.Items.{Item}
use Rattle.scene_defs.specs.declared.Change.{Change}
use Rattle.scene_defs.specs.Scene.{Scene}
use Rattle.scene_defs.specs.Change.{answer_of, scene_after}
use Rattle.scene_defs.specs.Visible.{visible}
use Rattle.scene_defs.specs.Items.{items, bars}
use Rattle.scene_defs.specs.Shown.{order, entries, entry_coats}
use Rattle.debt_defs.specs.SceneLook.{SceneLook}
use Rattle.debt_defs.specs.Same.{same_item}
use Rattle.debt_defs.specs.Debt.{touched, touched_areas}
use Rattle.debt_defs.specs.Named.{named}

-- what a coat is at a pixel
abbrev pub dab_at : ℤ → ℤ → Coat → Option Dab
dab_at x y coat = coat x y

-- what is seen of a scene
abbrev pub look_of : Scene → SceneLook Item
look_of scene = record {
  order = order scene;
  entries = entries scene;
  visible = visible scene;
  items = items scene;
  bars = bars scene;
  lays = λ e x y. map (dab_at x y) (entry_coats scene e);
}

-- the objects that a change with this answer touches: a refused one touches none
abbrev pub touched_by : Option Refusal → Scene → Change → List ℕ
touched_by (Some refusal) scene change = []
touched_by None scene change =
    touched same_item (named change) (look_of scene) (look_of (scene_after scene change))

abbrev pub touched_of : Scene → Change → List ℕ
touched_of scene change = touched_by (answer_of scene change) scene change

-- where the objects that a change with this answer touches are seen: a refused one touches none
abbrev pub touched_areas_by : Option Refusal → Scene → Change → List Rect
touched_areas_by (Some refusal) scene change = []
touched_areas_by None scene change =
    touched_areas same_item (named change) (look_of scene) (look_of (scene_after scene change))

-- where the objects that a change of a scene touches are seen
abbrev pub touched_areas_of : Scene → Change → List Rect
touched_areas_of scene change = touched_areas_by (answer_of scene change) scene change

-- the debt, the areas that a change of a scene owes: those areas, rounded to whole blocks of the panel
abbrev pub debt_of : Scene → Change → List Rect
debt_of scene change = map (grid_in scene.limits).round (touched_areas_of scene change)
