-- How handlers and groups are kept. No public clause cites this module.
use Rattle.std.specs.Prelude.{◌≡◌, ℕ, suc, ◌≤◌, Bool, if◌then◌else◌, List, [], ◌∷◌, length}
use Rattle.std.specs.Prelude.{Some, None, option_map}
use Rattle.std.specs.declared.option.Option.{Option}
use Rattle.gui_pool.specs.Lists.{Lists}
use Rattle.play_defs.specs.declared.Group.{Group}
use Rattle.play_defs.specs.declared.Handler.{Handler}
use Rattle.play_defs.specs.declared.Member.{Member}
use Rattle.gui_event.specs.Groups.{FocusGroups}
use Rattle.gui_event.specs.Handlers.{Handlers}

abbrev pub handlers_in : Lists Handler → Handlers
handlers_in l = record { lists = l.lists; size = l.size }

pub record AreHandlers (l : Lists Handler) : Type 0 where
  pub handles : length l.lists ≡ 65536

abbrev pub groups_in : List Group → List Member → ℕ → ℕ → FocusGroups
groups_in groups members size objects =
    record { all = record { groups = groups; members = members }; size = size; objects = objects }

-- the place of the first that passes a test, counted from 0
abbrev pub place_by : {A : Type 0} → (A → Bool) → List A → Option ℕ
place_by test [] = None
place_by test (x ∷ xs) = if test x then Some 0 else option_map suc (place_by test xs)

-- a list within its limit, and the limit within the room that was taken
pub record HasRoom (length limit capacity : ℕ) : Type 0 where
  pub few : length ≤ limit
  pub room : limit ≤ capacity
