-- What a panel shows of a scene, and what refreshes and pumps do to it.
use Rattle.std.specs.Prelude.{◌≡◌, ◌<◌, ℕ, true, is_some}
use Rattle.std.specs.Option.{ForSome}
use Rattle.scene_defs.specs.Scene.{Scene}
use Rattle.scene_defs.specs.Picture.{paint}
use Rattle.gui_edge.specs.Panel.{PanelState, HasSizes}
use Rattle.gui_damage.specs.Pending.{Pending}
use Rattle.gui_refresh.specs.Owing.{standing_of, flight_of}
use Rattle.gui_refresh.specs.Refreshes.{KeepsPanel, Sends, IsAtRest, StopsAtFault, failures, failures_in}
use Rattle.cover_defs.specs.Cover.{items_shown}
use Rattle.cover_defs.specs.Steps.{slice_extra}
use Rattle.gui_refresh.specs.Slicing.{DrawsSlices, DrawsOne}
use Rattle.gui_refresh.specs.Stages.{Refreshing, Stage, AgreesAt, sizes_of, stage, work, progress_of}
use Rattle.gui_refresh.specs.Steps.{PumpStep}
use Rattle.gui_refresh.specs.declared.Refreshed.{Refreshed}
use Rattle.gui_refresh.specs.declared.Refreshed.TheVariants.{Done, Fault}
use Rattle.owed_defs.specs.Flights.{Flies}
use Rattle.owed_defs.specs.Happenings.{Pumps as PumpHappens}
use Rattle.owed_defs.specs.Progress.{Pumping}
use Rattle.owed_defs.specs.Pumping.{moves_in, waits_in}
use Rattle.owed_defs.specs.Standings.{Refreshes as SendsPending}
use Rattle.owed_defs.specs.declared.Pumped.{Pumped}
use Rattle.owed_defs.specs.declared.Pumped.TheVariants.{Idle, Moved, Waiting, Fault as Failed}
use Rattle.run_defs.specs.Owing.{panel_size, slice_limit}
use Rattle.run_defs.specs.Run.{ShowsScene}

-- each pixel is pending, or its newest copy has the scene's colour, where the panel tells
abbrev pub AgreesWith : Stage → Scene → Type 0
AgreesWith now scene = AgreesAt (paint scene) now

-- The panel is opened with the scene's sizes. It has a transfer in flight exactly where the refresher has
-- started a buffer that it has not got back. A buffer in flight has the scene's limit.
pub record CanSend (now : Stage) (scene : Scene) : Type 0 where
  pub sizes : HasSizes now.panel scene.limits
  pub started : now.refresher.started ≡ is_some now.panel.coming
  pub coming : ForSome now.panel.coming (λ buf. buf.limit ≡ slice_limit scene.limits)

-- Where the scene changes from one to the other, and what is pending too, a panel of the scene's sizes goes
-- on agreeing.
abbrev pub GoesOnAgreeing : Pending → Pending → Scene → Scene → Type 0
GoesOnAgreeing before after old new =
    (refresher : Refreshing) (panel : PanelState) → HasSizes panel old.limits →
    AgreesWith (stage refresher panel before) old → AgreesWith (stage refresher panel after) new

-- what refreshes and pumps of a scene lead to in which so many starts and transfers failed
pub record SendsScene (old new : Stage) (scene : Scene) (failed : ℕ) : Type 0 where
  pub keeps : KeepsPanel old.panel new.panel
  pub can : CanSend new scene
  -- each pixel is still pending, or its newest copy is right
  pub agrees : AgreesWith old scene → AgreesWith new scene
  -- what was sent was to be sent, and the slice that failed is pending again; where the list had no room for
  -- that, it is the whole panel alone
  pub sends : Sends old new failed
  -- the same, as the accounts of a run tell it
  pub counts : SendsPending (panel_size scene.limits) (slice_limit scene.limits)
      (standing_of old) (standing_of new)

-- a refresh of this scene
pub record Refreshes (old new : Stage) (scene : Scene) (answer : Refreshed) : Type 0 where
  pub sends : SendsScene old new scene (failures answer)
  pub flies : Flies (flight_of old) (flight_of new) 0 0
  -- a buffer is free
  pub free : 0 < new.refresher.free
  -- Done: nothing failed, nothing is pending, drawn or in flight, and the panel shows the picture
  pub flawless : answer ≡ Done → new.panel.flush_faults ≡ old.panel.flush_faults
  pub clear : answer ≡ Done → IsAtRest new
  pub done : answer ≡ Done → AgreesWith old scene → ShowsScene new.panel.shows scene
  -- Fault: a start or a transfer failed, after which nothing was asked for, and its slice is pending again
  pub fault : answer ≡ Fault → old.panel.flush_faults < new.panel.flush_faults
  pub stops : answer ≡ Fault → StopsAtFault old new
  pub again : answer ≡ Fault → (progress_of new).pending ≡ true

-- By the answer: a step leaves less work, and in an idle one nothing was left to do; where a start or a
-- transfer failed its slice is pending again, and a buffer is free.
abbrev pub Leaves : Stage → Stage → Scene → Pumped → Type 0
Leaves old new scene Idle = AgreesWith old scene → ShowsScene new.panel.shows scene
Leaves old new scene Moved =
    (work new < work old) × (new.panel.flush_faults ≡ old.panel.flush_faults)
Leaves old new scene Waiting =
    (work new < work old) × (new.panel.flush_faults ≡ old.panel.flush_faults)
Leaves old new scene Failed = StopsAtFault old new

-- a pump of this scene
pub record Pumps (old new : Stage) (scene : Scene) (answer : Pumped) : Type 0 where
  pub step : PumpStep (paint scene) old new answer
  pub sends : SendsScene old new scene (failures_in answer)
  pub pumping : Pumping (progress_of old) (progress_of new) answer
  pub flies : Flies (flight_of old) (flight_of new)
      (moves_in (PumpHappens answer)) (waits_in (PumpHappens answer))
  pub leaves : Leaves old new scene answer

-- a refresh draws slices of this scene's picture: a pixel takes a step for each item that is shown, and a
-- slice those of looking at each object three times and at each character six times
abbrev pub DrawsScene : Stage → Stage → Scene → Refreshed → ℕ → ℕ → Type 0
DrawsScene old new scene answer from to =
    DrawsSlices (sizes_of scene.limits).limit (items_shown scene) (slice_extra scene)
    old new (failures answer) from to

-- a pump draws one of them at most
abbrev pub DrawsPart : Stage → Stage → Scene → Pumped → ℕ → ℕ → Type 0
DrawsPart old new scene answer from to =
    DrawsOne (items_shown scene) (slice_extra scene) old new (failures_in answer) from to
