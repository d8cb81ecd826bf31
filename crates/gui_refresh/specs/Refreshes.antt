-- What a refresh and a pump do to a panel and to the areas that are pending.
use Rattle.std.specs.Prelude.{◌≡◌, ℕ, ◌+◌, ◌*◌, ◌<◌, ◌≤◌, min, true, List, [], ◌∷◌, length, ℤ, IsSome, ◌⊎◌, None}
use Rattle.gui_base.specs.declared.color.Rgb565.{Rgb565}
use Rattle.gui_base.specs.Area.{Rect, has, size_of}
use Rattle.gui_color.specs.Buffer.{Buffer}
use Rattle.gui_edge.specs.Causes.{last_count}
use Rattle.gui_edge.specs.Panel.{PanelState, Starts, StartFailed, Breaks}
use Rattle.gui_damage.specs.Adding.{added}
use Rattle.gui_damage.specs.Pending.{covered, total, most_areas}
use Rattle.gui_refresh.specs.Stages.{Stage, CanRefresh, AgreesAt, ShowsPicture, drawn_size, to_send, work, progress_of}
use Rattle.gui_refresh.specs.Steps.{PumpStep}
use Rattle.gui_refresh.specs.declared.Refreshed.{Refreshed}
use Rattle.gui_refresh.specs.declared.Refreshed.TheVariants.{Done, Fault}
use Rattle.owed_defs.specs.Happenings.{Pumps}
use Rattle.owed_defs.specs.Progress.{Pumping, Counted}
use Rattle.owed_defs.specs.Pumping.{moves_in, waits_in}
use Rattle.owed_defs.specs.declared.Pumped.{Pumped}
use Rattle.owed_defs.specs.declared.Pumped.TheVariants.{Idle, Moved, Waiting, Fault as Failed}

-- what a refresh and a pump leave as it was
pub record KeepsPanel (old new : PanelState) : Type 0 where
  pub told : IsSome old.shows → IsSome new.shows
  pub frames : new.frames ≡ old.frames
  pub present_faults : new.present_faults ≡ old.present_faults
  pub flush_faults : old.flush_faults ≤ new.flush_faults
  pub turn : new.turn ≡ old.turn

-- What was sent and is still to be sent is no more than what was, and a slice for each start or transfer that
-- failed. The list grew by one area at most for each.
pub record SendsPending (old new : Stage) (failed : ℕ) : Type 0 where
  pub sizes : new.panel.sent + to_send new
      ≤ old.panel.sent + to_send old + failed * old.refresher.sizes.limit
  pub counts : length new.pending.areas ≤ length old.pending.areas + failed

-- the list had no room for what failed, and became the whole panel alone
pub record SendsWhole (old new : Stage) (failed : ℕ) : Type 0 where
  pub some : 0 < failed
  pub whole : new.pending.areas ≡ new.pending.panel ∷ []
  pub full : most_areas < length old.pending.areas + failed
  pub sizes : new.panel.sent + to_send new
      ≤ old.panel.sent + to_send old + failed * old.refresher.sizes.limit + size_of new.pending.panel

-- only what was to be sent is sent, each pixel as often as it was listed or drawn
abbrev pub Sends : Stage → Stage → ℕ → Type 0
Sends old new failed = SendsPending old new failed ⊎ SendsWhole old new failed

-- how many starts and transfers failed in a refresh that ended so, and in a pump
abbrev pub failures : Refreshed → ℕ
failures Done = 0
failures Fault = 1

abbrev pub failures_in : Pumped → ℕ
failures_in Idle = 0
failures_in Moved = 0
failures_in Waiting = 0
failures_in Failed = 1

-- what every step leads to in which so many starts and transfers failed
pub record Keeps (color : ℤ → ℤ → Rgb565) (old new : Stage) (failed : ℕ) : Type 0 where
  pub can : CanRefresh new
  pub sizes : new.refresher.sizes ≡ old.refresher.sizes
  pub panel : KeepsPanel old.panel new.panel
  pub agrees : AgreesAt color old → AgreesAt color new
  pub sends : Sends old new failed

-- So many pixels were asked for, and so many moves and waits were counted: `sent` and `waits` grew by these
-- numbers, or came to the last count.
pub record Counts (old new : Stage) (moves waits : ℕ) : Type 0 where
  pub asked : ℕ
  pub sent : min (old.panel.sent + asked) last_count ≤ new.panel.sent
  pub waited : min (old.panel.waits + waits) last_count ≤ new.panel.waits
  pub moved : Counted moves asked (progress_of old) (progress_of new)

-- nothing is pending, drawn or in flight
pub record IsAtRest (now : Stage) : Type 0 where
  pub pending : now.pending.areas ≡ []
  pub drawn : now.refresher.drawn ≡ None
  pub coming : now.panel.coming ≡ None

-- all that was pending came to the panel
pub record SendsAll (color : ℤ → ℤ → Rgb565) (old new : Stage) : Type 0 where
  pub rest : IsAtRest new
  pub free : 0 < new.refresher.free
  pub faults : new.panel.flush_faults ≡ old.panel.flush_faults
  pub shows : AgreesAt color old → ShowsPicture color new.panel

-- a buffer's start failed, or its transfer
abbrev pub FailsWith : PanelState → PanelState → Buffer → Type 0
FailsWith old new buf = (Starts old new buf × StartFailed old new buf buf) ⊎ Breaks old new buf

-- One start or transfer failed, after which nothing was asked for. Its slice is pending again, and a buffer
-- is free.
pub record StopsAtFault (old new : Stage) : Type 0 where
  -- the panel before that call, and what was listed beside its slice
  pub before : PanelState
  pub buf : Buffer
  pub left : List Rect
  pub faults : before.flush_faults ≡ old.panel.flush_faults
  pub fails : FailsWith before new.panel buf
  pub rose : before.flush_faults < new.panel.flush_faults
  pub some : 0 < size_of buf.area
  -- what was sent, that slice too, was to be sent, each pixel as often as it was listed or drawn
  pub sent : new.panel.sent + (total left + drawn_size new.refresher.drawn) ≤ old.panel.sent + to_send old
  pub listed : new.pending ≡ added (record new.pending { areas = left }) buf.area
  pub pending : 0 < length new.pending.areas
  pub again : (x y : ℤ) → has buf.area x y ≡ true → covered new.pending.areas x y ≡ true
  pub free : 0 < new.refresher.free

-- a refresh with a picture of these colours
pub record RefreshesAt (color : ℤ → ℤ → Rgb565) (old new : Stage) (answer : Refreshed) : Type 0 where
  pub keeps : Keeps color old new (failures answer)
  pub counts : Counts old new 0 0
  pub done : answer ≡ Done → SendsAll color old new
  pub fault : answer ≡ Fault → StopsAtFault old new

-- by the answer: a step leaves less work, an idle one found nothing to do
abbrev pub Leaves : (ℤ → ℤ → Rgb565) → Stage → Stage → Pumped → Type 0
Leaves color old new Idle = SendsAll color old new
Leaves color old new Moved =
    (work new < work old) × (new.panel.flush_faults ≡ old.panel.flush_faults)
Leaves color old new Waiting =
    (work new < work old) × (new.panel.flush_faults ≡ old.panel.flush_faults)
Leaves color old new Failed = StopsAtFault old new

-- a pump with a picture of these colours
pub record PumpsAt (color : ℤ → ℤ → Rgb565) (old new : Stage) (answer : Pumped) : Type 0 where
  pub step : PumpStep color old new answer
  pub keeps : Keeps color old new (failures_in answer)
  pub leaves : Leaves color old new answer
  pub pumping : Pumping (progress_of old) (progress_of new) answer
  pub counts : Counts old new (moves_in (Pumps answer)) (waits_in (Pumps answer))
