-- A change of a scene: whether it is done or why it is refused, and the scene after it.
use Rattle.std.specs.Prelude.{ℕ, Bool, true, false, not, nat_lt, if◌then◌else◌, Some, None, is_some}
use Rattle.std.specs.Prelude.{option_map, List, [], ◌∷◌, ◌++◌}
use Rattle.std.specs.declared.option.Option.{Option}
use Rattle.gui_base.specs.declared.pools.TheConstants.{POOLS}
use Rattle.gui_base.specs.declared.Handle.{Handle}
use Rattle.gui_base.specs.declared.limits.Pool.{Pool}
use Rattle.gui_base.specs.declared.refusal.Refusal.{Refusal}
use Rattle.gui_base.specs.declared.refusal.Refusal.TheVariants.{Range, Full}
use Rattle.gui_base.specs.Forest.{Forest}
use Rattle.gui_base.specs.Refusing.{Test, first_of, absent, parentless}
use Rattle.gui_base.specs.Refusing.{Unknown, Place}
use Rattle.text_defs.specs.Images.{Image, has_image}
use Rattle.scene_defs.specs.declared.Change.{Change}
use Rattle.scene_defs.specs.Assets.{AssetChange}
use Rattle.scene_defs.specs.Deeds.{asset_change_of, edit_of, is_in_range, setter_of, styling_of}
use Rattle.scene_defs.specs.Edits.{kind_tests, with_row}
use Rattle.scene_defs.specs.Row.{Setter}
use Rattle.scene_defs.specs.Scene.{Scene, handles_of, spare}
use Rattle.scene_defs.specs.Styling.{Styling}
use Rattle.scene_defs.specs.Texts.{is_whole_image}

-- whether a pool has fewer free slots than are needed
abbrev pub lacks : Scene → Pool → ℕ → Bool
lacks scene pool need = nat_lt (spare scene pool) need

-- how many slots of a pool a change takes
abbrev pub need_by : Option Styling → Option AssetChange → Scene → Change → Pool → ℕ
need_by (Some styling) assets scene change pool = styling.need pool
need_by None (Some assets) scene change pool = assets.need pool
need_by None None scene change pool = (edit_of change).need scene pool

-- what a change does to the styles of a scene, if it changes them
abbrev pub styling_in : Scene → Change → Option Styling
styling_in scene change = styling_of scene.fonts scene.book change

-- what a change does to the fonts and images of a scene, if it changes them
abbrev pub asset_change_in : Scene → Change → Option AssetChange
asset_change_in scene change = asset_change_of scene.fonts scene.images change

-- how many slots of a pool a change takes of a scene
abbrev pub need_of : Scene → Change → Pool → ℕ
need_of scene change pool = need_by (styling_in scene change) (asset_change_in scene change) scene change pool

-- how many slots of a pool it frees
abbrev pub freed_by_styling : Option Styling → Scene → Change → Pool → ℕ
freed_by_styling (Some styling) scene change pool = styling.freed pool
freed_by_styling None scene change pool = (edit_of change).freed scene pool

abbrev pub freed_by : Scene → Change → Pool → ℕ
freed_by scene change pool = freed_by_styling (styling_in scene change) scene change pool

-- the first of these pools that has fewer free slots than a change takes
abbrev pub first_short : Scene → Change → List Pool → Option Pool
first_short scene change [] = None
first_short scene change (pool ∷ others) =
    if lacks scene pool (need_of scene change pool) then Some pool else first_short scene change others

-- The tests of a setter: of what it names, of the kind, and of the place.

-- an image that is named is not there
abbrev pub absent_image : List Image → Option ℕ → List Test
absent_image images None = []
absent_image images (Some i) = (not (has_image images i), Unknown) ∷ []

-- an image that is named is not finished
abbrev pub unfinished_image : List Image → Option ℕ → List Test
unfinished_image images None = []
unfinished_image images (Some i) = (not (is_whole_image images i), Place) ∷ []

-- a root, where the change needs a parent
abbrev pub root_test : Forest ℕ → Bool → ℕ → List Test
root_test f true h = parentless f h ∷ []
root_test f false h = []

-- the tests of a setter, in order
abbrev pub setter_tests : Scene → Setter → List Test
setter_tests scene setter =
    absent (handles_of scene.trees) setter.handle.0
    ∷ (absent_image scene.images setter.image
    ++ (kind_tests scene setter.feature setter.handle.0
    ++ (root_test (handles_of scene.trees) setter.needs_parent setter.handle.0
    ++ unfinished_image scene.images setter.image)))

-- an object that is named is not there
abbrev pub object_tests : Forest ℕ → Option Handle → List Test
object_tests f None = []
object_tests f (Some h) = absent f h.0 ∷ []

-- the tests of a change of styles: its object comes first
abbrev pub styling_tests : Forest ℕ → Styling → List Test
styling_tests f styling = object_tests f styling.object ++ styling.tests

-- The tests of a change, in order: what is asked whatever room there is.
abbrev pub tests_by : Option Setter → Option Styling → Option AssetChange → Scene → Change → List Test
tests_by (Some setter) styling assets scene change = setter_tests scene setter
tests_by None (Some styling) assets scene change = styling_tests (handles_of scene.trees) styling
tests_by None None (Some assets) scene change = assets.tests
tests_by None None None scene change = (edit_of change).tests scene

-- the tests of a change of a scene, in order
abbrev pub tests : Scene → Change → List Test
tests scene change =
    tests_by (setter_of change) (styling_in scene change) (asset_change_in scene change) scene change

-- the first refusal of a change whose numbers lie in their intervals: the first test that holds, or the first
-- pool without room; none where it is done
abbrev pub answer_in_range : Scene → Change → Option Refusal
answer_in_range scene change =
    first_of (tests scene change) (option_map Full (first_short scene change POOLS))

-- the first refusal of a change, or none where it is done
abbrev pub answer_of : Scene → Change → Option Refusal
answer_of scene change = if is_in_range change then answer_in_range scene change else Some Range

-- the scene after a change that is done
abbrev pub after_by : Option Setter → Option Styling → Option AssetChange → Scene → Change → Scene
after_by (Some setter) styling assets scene change = with_row scene setter.handle.0 setter.after
after_by None (Some styling) assets scene change = record scene { book = styling.after }
after_by None None (Some assets) scene change =
    record scene { fonts = assets.fonts; images = assets.images }
after_by None None None scene change = (edit_of change).after scene

-- the scene after a change, if that is done
abbrev pub scene_after : Scene → Change → Scene
scene_after scene change =
    after_by (setter_of change) (styling_in scene change) (asset_change_in scene change) scene change

-- the scene after a change with this answer: a refusal leaves it as it is
abbrev pub scene_by : Option Refusal → Scene → Change → Scene
scene_by refusal scene change = if is_some refusal then scene else scene_after scene change

-- the scene after a change
abbrev pub changed : Scene → Change → Scene
changed scene change = scene_by (answer_of scene change) scene change
