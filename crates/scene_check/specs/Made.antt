-- Trees on the first screen of a store as it is opened.
use Rattle.std.specs.Prelude.{◌≡◌, ◌≤◌, ◌==◌, ℕ, Bool, true, not, ◌&&◌, List, [], ◌∷◌, ◌++◌, None}
use Rattle.std.specs.List.{list_all, list_any}
use Rattle.gui_base.specs.Forest.{Forest, all_by, children_by, height}
use Rattle.gui_base.specs.Limits.{Bounds}
use Rattle.gui_base.specs.declared.Handle.{Handle}
use Rattle.scene_defs.specs.declared.Change.{Change}
use Rattle.scene_defs.specs.declared.Change.TheVariants as change
use Rattle.scene_defs.specs.Deeds.{is_in_range}
use Rattle.scene_defs.specs.Scene.{Scene, first_scene}
use Rattle.scene_check.specs.Checking.{refusal_of_all, changed_by_all}
use Rattle.scene_check.specs.Fitting.{only_full}
use Rattle.scene_check.specs.Outlines.{Node, is_node, outline_of}
use Rattle.scene_check.specs.Trees.{Wanted, is_wanted, making, outline_wanted}

abbrev pub screen : Handle
screen = record { 0 = 3 }

-- the objects on the first screen, with those below them
abbrev pub on_screen : Scene → Forest Node
on_screen scene = children_by (is_node 3) (outline_of scene.trees)

-- The handles of the objects that changes make.

abbrev pub is_among : ℕ → List ℕ → Bool
is_among n ids = list_any (λ id. id == n) ids

-- whether a change makes an object with none of these handles, and the handles with its own
abbrev pub is_other : List ℕ → Change → Bool
is_other ids (change.New n p kind) = not (is_among n.0 ids)
is_other ids other = true

abbrev pub ids_after : List ℕ → Change → List ℕ
ids_after ids (change.New n p kind) = ids ++ n.0 ∷ []
ids_after ids other = ids

-- whether changes make no two objects with one handle, and none with one of these
abbrev pub are_other : List ℕ → List Change → Bool
are_other ids [] = true
are_other ids (change ∷ changes) = is_other ids change && are_other (ids_after ids change) changes

-- trees that may stand there: not too deep, each number in its interval, and no handle twice
pub record MayStand (trees : Forest Wanted) : Type 0 where
  pub low : height trees ≤ 15
  pub wanted : all_by is_wanted trees ≡ true
  pub in_range : list_all is_in_range (making screen trees) ≡ true
  pub differ : are_other [] (making screen trees) ≡ true

pub record TreesAreMade : Type 0 where
  -- the first refusal of the changes that make them is that of a full pool
  pub fits : (limits : Bounds) (trees : Forest Wanted) → MayStand trees →
      only_full (refusal_of_all (first_scene limits) (making screen trees)) ≡ true
  -- where there is none, they are what stands there, of these kinds and in this order
  pub made : (limits : Bounds) (trees : Forest Wanted) → MayStand trees →
      refusal_of_all (first_scene limits) (making screen trees) ≡ None →
      on_screen (changed_by_all (first_scene limits) (making screen trees)) ≡ outline_wanted trees
