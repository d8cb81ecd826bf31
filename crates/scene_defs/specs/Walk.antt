-- What is shown, found by one walk down the trees.
use Rattle.std.specs.Prelude.{◌≡◌, ◌≢◌, ℕ, false, None, Some, List, [], ◌∷◌, ◌++◌}
use Rattle.std.specs.declared.option.Option.{Option}
use Rattle.std.specs.List.{All}
use Rattle.std.specs.Option.{IsSomeAnd}
use Rattle.gui_base.specs.Area.{Rect, is_empty, Covers}
use Rattle.gui_base.specs.Coats.{Coat}
use Rattle.gui_base.specs.Forest.{Forest, Empty, Tree, StandsOnce}
use Rattle.scene_defs.specs.Scene.{Object, Scene, handles_of}
use Rattle.scene_defs.specs.Place.{panel_of, place}
use Rattle.scene_defs.specs.Visible.{seen_of, shown_trees}
use Rattle.scene_defs.specs.Shown.{Entry, Seen, bars_over, entry_coats, own, painted, seen_as, shown}

-- an entry by itself, where something is seen of it
abbrev pub seen_alone : (Entry → List Coat) → Option Rect → Entry → List Seen
seen_alone lays None e = []
seen_alone lays (Some area) e = seen_as lays (Some area) e ∷ []

-- what is painted of these trees, each object before those below it, and its bars after them; the clip is what
-- is seen of the trees' parent
abbrev pub walked : (ℕ → Option Rect) → (Entry → List Coat) → Option Rect → Forest Object → List Seen
walked place lays clip Empty = []
walked place lays clip (Tree object cs rest) =
    let area = seen_of place clip object in
    seen_alone lays area (own object.handle) ++ (walked place lays area cs ++
    (seen_alone lays area (bars_over object.handle) ++ walked place lays clip rest))

-- a scene's handles stand once each, and its active screen is no layer
pub record IsShowable (scene : Scene) : Type 0 where
  pub once : StandsOnce (handles_of scene.trees)
  pub above_top : scene.active ≢ 1
  pub above_system : scene.active ≢ 2

-- the walk meets what is painted, in its order
abbrev pub ShownByWalk : Type 0
ShownByWalk =
    (scene : Scene) → IsShowable scene →
    painted scene ≡ walked (place scene) (entry_coats scene) (Some (panel_of scene)) (shown_trees scene)

-- nothing is seen below what is not seen
abbrev pub NothingBelowNothing : Type 0
NothingBelowNothing =
    (place : ℕ → Option Rect) (lays : Entry → List Coat) (trees : Forest Object) →
    walked place lays None trees ≡ []

-- something is seen of the object, and only inside the area
abbrev pub IsSeenInside : Rect → Seen → Type 0
IsSeenInside area s = IsSomeAnd s.visible (λ v. (is_empty v ≡ false) × Covers area v)

-- a walk goes nowhere outside its clip
abbrev pub WalkedInside : Type 0
WalkedInside =
    (place : ℕ → Option Rect) (lays : Entry → List Coat) (clip : Rect) (trees : Forest Object) →
    All (IsSeenInside clip) (walked place lays (Some clip) trees)

-- all that is shown is seen inside the panel
abbrev pub ShownInside : Type 0
ShownInside = (scene : Scene) → All (IsSeenInside (panel_of scene)) (shown scene)
