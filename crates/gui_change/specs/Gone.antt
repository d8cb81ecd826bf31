-- Of what was shown those that are shown no longer.
use Rattle.std.specs.Prelude.{◌<◌, ℕ, Bool, if◌then◌else◌, List, [], ◌∷◌, None}
use Rattle.std.specs.declared.option.Option.{Option}
use Rattle.gui_base.specs.Area.{Rect}
use Rattle.gui_base.specs.declared.Handle.{Handle}
use Rattle.gui_boxes.specs.Listing.{HasThese, times}
use Rattle.gui_pool.specs.Table.{Table, value_at}
use Rattle.scene_defs.specs.Scene.{Scene}
use Rattle.scene_defs.specs.Shown.{order}
use Rattle.debt_defs.specs.Debt.{is_named}
use Rattle.debt_defs.specs.SceneLook.{is_among}
use Rattle.gui_debts.specs.Owed.{owed, sight_of}
use Rattle.gui_debts.specs.declared.seen.Seen.{Seen}

abbrev pub is_shown : Scene → ℕ → Bool
is_shown scene h = is_among (order scene) h

-- of these handles those that are shown
abbrev pub shown_of : Scene → List Handle → List Handle
shown_of scene [] = []
shown_of scene (h ∷ hs) = if is_shown scene h.0 then h ∷ shown_of scene hs else shown_of scene hs

-- and those that are not
abbrev pub gone_of : Scene → List Handle → List Handle
gone_of scene [] = []
gone_of scene (h ∷ hs) = if is_shown scene h.0 then gone_of scene hs else h ∷ gone_of scene hs

-- what an object owes that is shown no longer
abbrev pub owed_gone : Option ℕ → Table Seen → ℕ → List Rect
owed_gone named old h = owed (is_named named h) (sight_of (value_at old h)) (sight_of None)

-- something is known of some of these handles, and of no other; so many fit in all
pub record KnowsSome (objects : ℕ) (t : Table Seen) (hs : List Handle) : Type 0 where
  pub known : List Handle
  pub these : HasThese objects t known
  pub within : (k : ℕ) → 0 < times known k → 0 < times hs k
