-- Scenes between which some objects moved or look different.
use Rattle.std.specs.Prelude.{◌≡◌, ◌<◌, ℕ, Bool, if◌then◌else◌, true, false, is_some, List, None, option_map}
use Rattle.std.specs.declared.option.Option.{Option}
use Rattle.gui_base.specs.Forest.{parent_of}
use Rattle.gui_base.specs.declared.words.Flag.TheVariants.{Hidden}
use Rattle.gui_base.specs.declared.Handle.{Handle}
use Rattle.gui_boxes.specs.Listing.{times}
use Rattle.gui_pool.specs.Table.{Table, value_at}
use Rattle.scene_defs.specs.Items.{bars}
use Rattle.scene_defs.specs.Place.{place}
use Rattle.scene_defs.specs.declared.Row.{Row}
use Rattle.scene_defs.specs.Row.{is_on}
use Rattle.scene_defs.specs.Scene.{Scene, handles_of, is_there, row_at}
use Rattle.scene_defs.specs.Valid.{IsValid}
use Rattle.debt_defs.specs.Debt.{is_named}
use Rattle.gui_layout.specs.Scenes.{shown_panel}
use Rattle.gui_concerns.specs.Concerned.{may_be}
use Rattle.gui_concerns.specs.declared.concerned.Concerned.{Concerned}
use Rattle.gui_concerns.specs.declared.concerned.Concerned.TheVariants.{Nobody, One}
use Rattle.gui_debts.specs.Sights.{AreSeen}
use Rattle.gui_debts.specs.declared.seen.Seen.{Seen}
use Rattle.gui_debts.specs.Owed.{sight_of}
use Rattle.gui_change.specs.Again.{sight_in}
use Rattle.gui_change.specs.Gone.{is_shown}
use Rattle.gui_change.specs.Settled.{LooksSame}

-- whether an object is hidden, if it is there
abbrev pub hidden_in : Scene → ℕ → Option Bool
hidden_in scene h = option_map (λ (r : Row). is_on r.flags Hidden) (row_at scene h)

-- an object stands as before below the same parent, as far as that is told by itself
pub record StandsStill (before after : Scene) (k : ℕ) : Type 0 where
  pub parents : parent_of (handles_of after.trees) k ≡ parent_of (handles_of before.trees) k
  pub hides : hidden_in after k ≡ hidden_in before k
  pub stands : place after k ≡ place before k
  pub panel : shown_panel after k ≡ shown_panel before k

-- and paints the same
pub record PaintsAlike (before after : Scene) (k : ℕ) : Type 0 where
  pub looks : LooksSame before after k
  pub shows : bars after k ≡ bars before k

-- What is known was seen of a scene. Of what is there still all but the moved and the named stand as before, and all but these and the
-- concerned paint the same.
pub record WasShifted (table : Table Seen) (after : Scene) (named : Option ℕ) (concerned : Concerned) (moved : List Handle) : Type 0 where
  pub before : Scene
  pub valid : IsValid before
  pub seen : AreSeen table before
  pub stands : (k : ℕ) → is_some (value_at table k) ≡ true → is_there after k ≡ true → times moved k ≡ 0 →
      is_named named k ≡ false → StandsStill before after k
  pub paints : (k : ℕ) → is_some (value_at table k) ≡ true → is_there after k ≡ true → times moved k ≡ 0 →
      is_named named k ≡ false → may_be after concerned k ≡ false → PaintsAlike before after k

-- And of what is shown for the first time nothing was seen. It is among the moved.
pub record WasJoined (table : Table Seen) (after : Scene) (named : Option ℕ) (concerned : Concerned) (moved : List Handle) : Type 0 where
  pub was : WasShifted table after named concerned moved
  pub unseen : (k : ℕ) → is_shown after k ≡ true → value_at table k ≡ None → sight_in was.before k ≡ sight_of None
  pub fresh : (k : ℕ) → is_shown after k ≡ true → value_at table k ≡ None → 0 < times moved k

-- Those that may paint otherwise, but for the named one, where that is all of them.
abbrev pub but_named : Concerned → Option ℕ → Concerned
but_named (One h) named = if is_named named h.0 then Nobody else One h
but_named some named = some
