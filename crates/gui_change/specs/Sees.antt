-- What is known while objects that are shown are seen again, in any order.
use Rattle.std.specs.Prelude.{◌≡◌, ◌≤◌, ℕ, List, [], ◌++◌, Bool, false, Some, None, is_some, vec_len, vec_capacity}
use Rattle.std.specs.declared.option.Option.{Option}
use Rattle.std.specs.List.{flat_map}
use Rattle.std.specs.List.Sorted.{IsPermutation}
use Rattle.std.specs.Global.{Vec}
use Rattle.gui_base.specs.Area.{Rect}
use Rattle.gui_base.specs.Forest.{parent_of}
use Rattle.gui_base.specs.declared.Handle.{Handle}
use Rattle.gui_damage.specs.Gridded.{GridList, added_all_in}
use Rattle.gui_boxes.specs.Tables.{listing_of}
use Rattle.gui_pool.specs.Table.{Table, value_at}
use Rattle.scene_defs.specs.Scene.{Scene, handles_of}
use Rattle.scene_defs.specs.Shown.{order}
use Rattle.debt_defs.specs.SceneLook.{is_among}
use Rattle.gui_change.specs.Again.{owed_again}
use Rattle.gui_concerns.specs.Concerned.{is_below_user}
use Rattle.gui_debts.specs.Seen.{IsSeen}
use Rattle.gui_debts.specs.Sights.{KeepOthers}
use Rattle.gui_concerns.specs.declared.concerned.Concerned.{Concerned}
use Rattle.gui_debts.specs.declared.seen.Seen.{Seen}

-- what is shown owes by a table of what is known
abbrev pub owing : Option ℕ → Table Seen → Scene → List Rect
owing named table scene = flat_map (owed_again named table scene) (order scene)

-- what is known of an object, if anything is, is what is seen of it
abbrev pub IsSeenIn : Table Seen → Scene → ℕ → Type 0
IsSeenIn table scene h = (s : Seen) → value_at table h ≡ Some s → IsSeen scene h s

-- something is known of exactly what is shown
abbrev pub KnowsShown : Table Seen → Scene → Type 0
KnowsShown table scene = (h : ℕ) → is_some (value_at table h) ≡ is_among (order scene) h

-- Some objects are seen again. The areas that they owe are listed, in any order; what they owe by the new
-- table is left.
pub record SeesAgain (named : Option ℕ) (scene : Scene) (old new : Table Seen) (before after : GridList) : Type 0 where
  pub listing : listing_of new ≡ listing_of old
  pub seen : (h : ℕ) → IsSeenIn old scene h → IsSeenIn new scene h
  pub keeps : (concerned : Concerned) → KeepOthers old concerned scene → KeepOthers new concerned scene
  pub areas : List Rect
  pub lists : after ≡ added_all_in before areas
  pub owes : IsPermutation (areas ++ owing None new scene) (owing named old scene)

-- whether an object stands below a user of a style
abbrev pub is_below_one : Scene → ℕ → Option ℕ → Bool
is_below_one scene number None = false
is_below_one scene number (Some p) = is_below_user scene number p

abbrev pub is_below_other : Scene → ℕ → ℕ → Bool
is_below_other scene number h = is_below_one scene number (parent_of (handles_of scene.trees) h)

-- a list is empty, and has room for so many
pub record IsRoom (objects : ℕ) (listed : Vec Handle) : Type 0 where
  pub empty : listed.items ≡ []
  pub len : vec_len listed ≡ 0
  pub room : objects ≤ vec_capacity listed
