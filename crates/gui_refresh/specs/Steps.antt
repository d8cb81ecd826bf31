-- What one step does to a refresher, a panel and what is pending.
use Rattle.std.specs.Prelude.{◌≡◌, ◌+◌, ◌*◌, ◌<◌, ◌≤◌, ◌⊎◌, true, false, Bool, [], length, Some, None, ℤ}
use Rattle.std.specs.declared.option.Option.{Option}
use Rattle.gui_base.specs.declared.color.Rgb565.{Rgb565}
use Rattle.gui_base.specs.Area.{has, size_of}
use Rattle.gui_color.specs.Buffer.{Buffer, color_at}
use Rattle.gui_damage.specs.Adding.{added}
use Rattle.gui_base.specs.Rounding.{IsRound}
use Rattle.gui_damage.specs.Joining.{JoinsAll}
use Rattle.gui_damage.specs.Pending.{Pending, IsPending}
use Rattle.gui_damage.specs.Rounded.{round_slice_of, left_round}
use Rattle.gui_damage.specs.Slices.{Takes}
use Rattle.gui_edge.specs.Panel.{Starts, Started, StartFailed, Arrives, GoesOn, Breaks}
use Rattle.gui_refresh.specs.Stages.{Refreshing, Stage, grid_with}
use Rattle.owed_defs.specs.declared.Pumped.{Pumped}
use Rattle.owed_defs.specs.declared.Pumped.TheVariants.{Idle, Moved, Waiting, Fault}

-- the buffer in flight arrived, and is free
pub record ArrivedStep (old new : Stage) : Type 0 where
  pub buf : Buffer
  pub arrives : Arrives old.panel new.panel buf
  pub refresher : new.refresher ≡ record old.refresher { free = old.refresher.free + 1; started = false }
  pub pending : new.pending ≡ old.pending

-- it came back by a failure: it is free, and its slice is pending again
pub record BrokenStep (old new : Stage) : Type 0 where
  pub buf : Buffer
  pub breaks : Breaks old.panel new.panel buf
  pub refresher : new.refresher ≡ record old.refresher { free = old.refresher.free + 1; started = false }
  pub pending : new.pending ≡ added old.pending buf.area
  pub sound : IsPending old.pending

-- the transfer goes on
pub record GoesOnStep (old new : Stage) : Type 0 where
  pub goes_on : GoesOn old.panel new.panel
  pub refresher : new.refresher ≡ old.refresher
  pub pending : new.pending ≡ old.pending

-- the drawn buffer was started
pub record StartedStep (old new : Stage) : Type 0 where
  pub buf : Buffer
  pub was : old.refresher.drawn ≡ Some buf
  pub starts : Starts old.panel new.panel buf
  pub started : Started old.panel new.panel buf
  pub refresher : new.refresher ≡ record old.refresher { drawn = None; started = true }
  pub pending : new.pending ≡ old.pending

-- it was handed back: it is free, and its slice is pending again
pub record UnstartedStep (old new : Stage) : Type 0 where
  pub buf : Buffer
  pub back : Buffer
  pub was : old.refresher.drawn ≡ Some buf
  pub starts : Starts old.panel new.panel buf
  pub failed : StartFailed old.panel new.panel buf back
  pub refresher : new.refresher ≡ record old.refresher { drawn = None; free = old.refresher.free + 1 }
  pub pending : new.pending ≡ added old.pending buf.area
  pub sound : IsPending old.pending

-- the next slice, of whole blocks, was drawn into a free buffer, which then waits
pub record DrawnStep (color : ℤ → ℤ → Rgb565) (old new : Refreshing) (before after : Pending) : Type 0 where
  pub buf : Buffer
  pub refresher : new ≡ record old { drawn = Some buf; free = new.free }
  pub one_less : old.free ≡ new.free + 1
  pub slice : Some buf.area ≡ round_slice_of (grid_with old.sizes) old.sizes.limit before.areas
  pub pending : after ≡ record before {
    areas = left_round (grid_with old.sizes) old.sizes.limit before.areas;
  }
  pub takes : Takes before.panel old.sizes.limit before.areas
      (left_round (grid_with old.sizes) old.sizes.limit before.areas) buf.area
  pub blocks : IsRound (grid_with old.sizes) buf.area
  -- the slice is the last of its area, which is listed no more, or it has half of the limit
  pub cut : (length (left_round (grid_with old.sizes) old.sizes.limit before.areas) < length before.areas)
      ⊎ (old.sizes.limit ≤ 2 * size_of buf.area)
  pub limit : buf.limit ≡ old.sizes.limit
  pub paints : (x y : ℤ) → has buf.area x y ≡ true → color_at buf.area buf.pixels x y ≡ color x y

-- nothing was drawn, for want of a free buffer or of a pending area
pub record UndrawnStep (old new : Refreshing) (before after : Pending) : Type 0 where
  pub refresher : new ≡ old
  pub pending : after ≡ before
  pub why : (old.free ≡ 0) ⊎ (before.areas ≡ [])

abbrev pub DrawAnswer : (ℤ → ℤ → Rgb565) → Refreshing → Refreshing → Pending → Pending → Bool → Type 0
DrawAnswer color old new before after true = DrawnStep color old new before after
DrawAnswer color old new before after false = UndrawnStep old new before after

abbrev pub StartAnswer : Stage → Stage → Pumped → Type 0
StartAnswer old new Idle = ⊥
StartAnswer old new Moved = StartedStep old new
StartAnswer old new Waiting = ⊥
StartAnswer old new Fault = UnstartedStep old new

abbrev pub FlightAnswer : Stage → Stage → Option Pumped → Type 0
FlightAnswer old new None = GoesOnStep old new
FlightAnswer old new (Some Idle) = ⊥
FlightAnswer old new (Some Moved) = ArrivedStep old new
FlightAnswer old new (Some Waiting) = ⊥
FlightAnswer old new (Some Fault) = BrokenStep old new

-- a slice was drawn while a transfer goes on
pub record DrawnBeside (color : ℤ → ℤ → Rgb565) (old new : Stage) : Type 0 where
  pub goes_on : GoesOn old.panel new.panel
  pub drawn : DrawnStep color old.refresher new.refresher old.pending new.pending

-- nothing was in flight or drawn: the areas were joined, and a slice was drawn
pub record DrawnFirst (color : ℤ → ℤ → Rgb565) (old new : Stage) : Type 0 where
  pub still : old.panel.coming ≡ None
  pub none : old.refresher.drawn ≡ None
  pub panel : new.panel ≡ old.panel
  pub joined : Pending
  pub joins : JoinsAll (grid_with old.refresher.sizes).round old.pending joined
  pub drawn : DrawnStep color old.refresher new.refresher joined new.pending

-- a transfer goes on, and nothing else could be done
pub record WaitedStep (old new : Stage) : Type 0 where
  pub goes_on : GoesOn old.panel new.panel
  pub undrawn : UndrawnStep old.refresher new.refresher old.pending new.pending

-- nothing was pending, drawn or in flight
pub record IdleStep (old new : Stage) : Type 0 where
  pub pending : old.pending.areas ≡ []
  pub drawn : old.refresher.drawn ≡ None
  pub coming : old.panel.coming ≡ None
  pub same : new ≡ old

-- what a pump did, by its answer
abbrev pub PumpStep : (ℤ → ℤ → Rgb565) → Stage → Stage → Pumped → Type 0
PumpStep color old new Idle = IdleStep old new
PumpStep color old new Moved =
    ArrivedStep old new ⊎ ((old.panel.coming ≡ None) × StartedStep old new)
    ⊎ DrawnBeside color old new ⊎ DrawnFirst color old new
PumpStep color old new Waiting = WaitedStep old new
PumpStep color old new Fault = BrokenStep old new ⊎ ((old.panel.coming ≡ None) × UnstartedStep old new)
