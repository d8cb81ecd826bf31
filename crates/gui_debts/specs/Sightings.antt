-- What the code knows of where objects are seen.
use Rattle.std.specs.Prelude.{◌≡◌, ℕ, None, option_map}
use Rattle.gui_base.specs.Corners.{rect_of}
use Rattle.scene_defs.specs.Items.{bars}
use Rattle.scene_defs.specs.Place.{place}
use Rattle.scene_defs.specs.Scene.{Scene}
use Rattle.scene_defs.specs.Visible.{visible}
use Rattle.gui_debts.specs.Seen.{bars_seen, items_known, place_in}
use Rattle.gui_debts.specs.declared.seen.Seen.{Seen}
use Rattle.gui_debts.specs.declared.sighting.Sighting.{Sighting}
use Rattle.gui_debts.specs.declared.sighting.Nearby.{Nearby}

-- an object stands there and is seen there
pub record IsSighted (scene : Scene) (s : Sighting) : Type 0 where
  pub place : option_map rect_of s.place ≡ place scene s.h.0
  pub visible : option_map rect_of s.visible ≡ visible scene s.h.0

pub record AreSighted (scene : Scene) (nearby : Nearby) : Type 0 where
  pub last : IsSighted scene nearby.last
  pub above : IsSighted scene nearby.above

-- what is known of an object was seen nowhere, and it is seen nowhere
pub record IsUnseen (sighting : Sighting) (s : Seen) : Type 0 where
  pub was : option_map rect_of s.visible ≡ None
  pub is : option_map rect_of sighting.visible ≡ None

-- what is known of an object was seen in the same place, and it is seen where it was seen
pub record IsThere (sighting : Sighting) (s : Seen) : Type 0 where
  pub place : place_in (items_known s.paints) ≡ option_map rect_of sighting.place
  pub visible : option_map rect_of s.visible ≡ option_map rect_of sighting.visible

-- and it shows the bars that it showed
abbrev pub KeepsBars : Scene → ℕ → Seen → Type 0
KeepsBars scene h s = bars_seen s ≡ bars scene h
