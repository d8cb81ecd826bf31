-- What keeps its order in a change.
use Rattle.std.specs.Prelude.{◌≡◌, ℕ, Bool, true, false, not, ◌&&◌, ◌||◌, Some, None, is_some, ℤ}
use Rattle.std.specs.declared.option.Option.{Option}
use Rattle.std.specs.List.{filter}
use Rattle.gui_base.specs.Forest.{has_by, tree_by}
use Rattle.scene_defs.specs.declared.Change.{Change}
use Rattle.scene_defs.specs.declared.Change.TheVariants as change
use Rattle.scene_defs.specs.Scene.{Scene, is_at}
use Rattle.scene_defs.specs.Deeds.{row_set}
use Rattle.scene_defs.specs.Change.{changed, styling_in, asset_change_in}
use Rattle.scene_defs.specs.Visible.{shown_trees, visible, holds}
use Rattle.scene_defs.specs.Shown.{order, entries}
use Rattle.scene_defs.specs.Valid.{IsValid, IsChange}
use Rattle.scene_defs.specs.Walk.{IsShowable}
use Rattle.debt_defs.specs.Named.{named}

-- whether h stands in a tree that is shown
abbrev pub is_shown : Scene → ℕ → Bool
is_shown scene h = has_by (is_at h) (shown_trees scene)

-- whether k is h or lies below it, where h is shown
abbrev pub is_part : Scene → ℕ → ℕ → Bool
is_part scene h k = has_by (is_at k) (tree_by (is_at h) (shown_trees scene))

-- the same for what a change names, if it names something
abbrev pub is_part_of : Scene → Option ℕ → ℕ → Bool
is_part_of scene None k = false
is_part_of scene (Some h) k = is_part scene h k

-- whether k is shown before and after a change, and neither what it names nor below that
abbrev pub remains : Option ℕ → Scene → Scene → ℕ → Bool
remains named before after k =
    (is_shown before k && is_shown after k)
    && (not (is_part_of before named k) && not (is_part_of after named k))

-- what is painted of what remains keeps its order
abbrev pub KeepOrder : Option ℕ → Scene → Scene → Type 0
KeepOrder named before after =
    filter (λ e. remains named before after e.handle) (entries before)
    ≡ filter (λ e. remains named before after e.handle) (entries after)

abbrev pub OthersKeepOrder : Type 0
OthersKeepOrder =
    (scene : Scene) (change : Change) → IsValid scene → IsChange change →
    KeepOrder (named change) scene (changed scene change)

abbrev pub sets_text : Change → Bool
sets_text (change.Text h text) = true
sets_text change = false

-- whether a change sets a row, a text, styles, fonts or images, and so leaves the trees
abbrev pub leaves_trees : Scene → Change → Bool
leaves_trees scene change =
    is_some (row_set change)
    || (sets_text change || (is_some (styling_in scene change) || is_some (asset_change_in scene change)))

-- then all keeps its order, and so does what is painted
abbrev pub SettersKeepOrder : Type 0
SettersKeepOrder =
    (scene : Scene) (change : Change) → leaves_trees scene change ≡ true →
    (order (changed scene change) ≡ order scene) × (entries (changed scene change) ≡ entries scene)

-- an object is seen only inside of what is seen of those above it
abbrev pub SeenInsideAbove : Type 0
SeenInsideAbove =
    (scene : Scene) (h k : ℕ) → IsShowable scene → is_part scene h k ≡ true →
    (x y : ℤ) → holds (visible scene k) x y ≡ true → holds (visible scene h) x y ≡ true
