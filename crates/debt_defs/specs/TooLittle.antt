-- Debts that are too little: for each there is a change that paints a pixel outside of it.
use Rattle.std.specs.Prelude.{◌≡◌, ℕ, false, pos, Option, None, Some, List, [], ◌∷◌}
use Rattle.std.specs.List.{flat_map}
use Rattle.gui_base.specs.Area.{Rect}
use Rattle.scene_defs.specs.declared.Change.{Change}
use Rattle.scene_defs.specs.Scene.{Scene}
use Rattle.scene_defs.specs.Change.{changed}
use Rattle.scene_defs.specs.Picture.{paint}
use Rattle.scene_defs.specs.Walk.{IsShowable}
use Rattle.debt_defs.specs.Same.{same_item, same_color}
use Rattle.debt_defs.specs.Debt.{listed, owed_by, touched_areas}
use Rattle.debt_defs.specs.Named.{named}
use Rattle.debt_defs.specs.Scenes.{look_of, touched_of}
use Rattle.debt_defs.specs.Frame.{covered}
use Rattle.debt_defs.specs.Examples.{one, moves, in_row, narrows, overlapping, goes_to_front}
use Rattle.debt_defs.specs.Examples.{styled, turns_green, labelled, says_other}

-- in a scene that is in order, the change paints a pixel anew that none of the areas has
pub record Misses (areas : List Rect) (scene : Scene) (change : Change) (x y : ℕ) : Type 0 where
  pub showable : IsShowable scene
  pub outside : covered areas (pos x) (pos y) ≡ false
  pub painted :
      same_color (paint scene (pos x) (pos y)) (paint (changed scene change) (pos x) (pos y)) ≡ false

-- the areas of these objects
abbrev pub owed_by_some : List ℕ → Scene → Change → List Rect
owed_by_some hs scene change = flat_map (owed_by (look_of scene) (look_of (changed scene change))) hs

-- where the touched objects are seen now
abbrev pub new_places_only : Scene → Change → List Rect
new_places_only scene change =
    flat_map (λ h. listed ((look_of (changed scene change)).visible h)) (touched_of scene change)

abbrev handles : Option ℕ → List ℕ
handles None = []
handles (Some h) = h ∷ []

abbrev pub named_object_only : Scene → Change → List Rect
named_object_only scene change = owed_by_some (handles (named change)) scene change

abbrev first_of : List ℕ → List ℕ
first_of [] = []
first_of (h ∷ hs) = h ∷ []

-- of the users of a style the first
abbrev pub one_user_only : Scene → Change → List Rect
one_user_only scene change = owed_by_some (first_of (touched_of scene change)) scene change

-- nothing for what a change names, where it looks the same
abbrev pub differing_only : Scene → Change → List Rect
differing_only scene change = touched_areas same_item None (look_of scene) (look_of (changed scene change))

pub record TooLittleIsOwed : Type 0 where
  -- a moved object leaves its old place
  pub new_places : Misses (new_places_only one moves) one moves 1 1
  -- a sibling follows
  pub named_object : Misses (named_object_only in_row narrows) in_row narrows 3 0
  -- the other user of the style has its colour too
  pub one_user : Misses (one_user_only styled turns_green) styled turns_green 2 0
  -- what was covered is seen
  pub differing : Misses (differing_only overlapping goes_to_front) overlapping goes_to_front 1 0
  -- another text is seen, though the items are the same
  pub text : Misses (differing_only labelled says_other) labelled says_other 1 0
