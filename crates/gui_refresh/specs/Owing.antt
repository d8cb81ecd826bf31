-- What changes, refreshes and pumps are to the accounts of a run.
use Rattle.std.specs.Prelude.{◌≡◌, ◌*◌, ℤ, true, List, length}
use Rattle.std.specs.List.{list_all}
use Rattle.gui_base.specs.declared.color.Rgb565.{Rgb565}
use Rattle.gui_base.specs.Area.{Rect, size_of, is_within}
use Rattle.gui_damage.specs.Pending.{Pending, IsPending}
use Rattle.gui_damage.specs.Adding.{AddsAll}
use Rattle.gui_refresh.specs.Refreshes.{RefreshesAt, PumpsAt}
use Rattle.gui_refresh.specs.Stages.{Stage, to_send, progress_of}
use Rattle.gui_refresh.specs.declared.Refreshed.{Refreshed}
use Rattle.gui_refresh.specs.declared.Refreshed.TheVariants.{Done}
use Rattle.owed_defs.specs.Flights.{Flight}
use Rattle.owed_defs.specs.Happenings.{debt_of}
use Rattle.owed_defs.specs.Progress.{Changing, at_rest}
use Rattle.owed_defs.specs.Standings.{Standing, Changes, Refreshes, IsClear}
use Rattle.owed_defs.specs.declared.Pumped.{Pumped}

abbrev pub standing_of : Stage → Standing
standing_of now = record {
  sent = now.panel.sent;
  pending = to_send now;
  listed = length now.pending.areas;
  faults = now.panel.flush_faults;
}

abbrev pub flight_of : Stage → Flight
flight_of now = record { sent = now.panel.sent; waits = now.panel.waits; progress = progress_of now }

-- areas that become pending are a change that owes them
abbrev pub AddingCounts : Type 0
AddingCounts = (now : Stage) (after : Pending) (areas : List Rect) →
    AddsAll now.pending after areas →
    Changes (size_of now.pending.panel) (standing_of now) (standing_of (record now { pending = after }))
    (debt_of areas)

-- for the pumps too; each of these areas lies in the panel
abbrev pub AddingFlies : Type 0
AddingFlies = (now : Stage) (after : Pending) (areas : List Rect) →
    IsPending now.pending → list_all (is_within now.pending.panel) areas ≡ true →
    AddsAll now.pending after areas →
    Changing (debt_of areas) (progress_of now) (progress_of (record now { pending = after }))

-- a refresh sends what was to be sent
abbrev pub RefreshCounts : Type 0
RefreshCounts = (color : ℤ → ℤ → Rgb565) (old new : Stage) (answer : Refreshed) →
    RefreshesAt color old new answer →
    Refreshes (new.panel.width * new.panel.height) old.refresher.sizes.limit
    (standing_of old) (standing_of new)

-- so does a pump
abbrev pub PumpCounts : Type 0
PumpCounts = (color : ℤ → ℤ → Rgb565) (old new : Stage) (answer : Pumped) →
    PumpsAt color old new answer →
    Refreshes (new.panel.width * new.panel.height) old.refresher.sizes.limit
    (standing_of old) (standing_of new)

-- one that is done leaves nothing pending, drawn or in flight
pub record DoneIsClear : Type 0 where
  pub clear : (color : ℤ → ℤ → Rgb565) (old new : Stage) →
      RefreshesAt color old new Done → IsClear (standing_of new)
  pub rest : (color : ℤ → ℤ → Rgb565) (old new : Stage) →
      RefreshesAt color old new Done → progress_of new ≡ at_rest
