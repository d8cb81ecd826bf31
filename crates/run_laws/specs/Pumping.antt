-- How the pumps of a run answer.
use Rattle.std.specs.Prelude.{◌≡◌, ℕ, ◌≤◌, true, Ok, Err, List, [], ◌∷◌, ◌++◌, length}
use Rattle.owed_defs.specs.Flights.{Flight, Flies, IsFlown, grown}
use Rattle.owed_defs.specs.Happenings.{Pumps, debt_of as sizes_of}
use Rattle.owed_defs.specs.Progress.{Pumping, Changing, at_rest}
use Rattle.owed_defs.specs.Pumping.{moves_in, waits_in}
use Rattle.run_defs.specs.declared.FrameEnd.TheVariants.{Done, Fault}
use Rattle.run_defs.specs.declared.Line.TheVariants.{Blank, Frame, Pump, Make}
use Rattle.run_defs.specs.declared.Outcome.{Outcome}
use Rattle.run_defs.specs.declared.Outcome.TheVariants.{Frame as OfFrame, Pump as OfPump}
use Rattle.run_defs.specs.Machine.{Machine}
use Rattle.run_defs.specs.Run.{first_moment, after_all, entries, outcome_count}
use Rattle.run_defs.specs.Script.{Said}
use Rattle.run_defs.specs.Owing.{PumpsAsOwed, command_owes, happenings}

-- the pumps of a run answer as they may, and how all stands goes with the pump state
abbrev pub IsRunFlown : Machine → List Said → List Outcome → Flight → Flight → Type 0
IsRunFlown first lines outcomes start now = IsFlown (happenings (first_moment first) lines outcomes) start now

-- what a line that has its outcome does to how all stands
abbrev pub LineFlies : Machine → Said → List Outcome → Flight → Flight → Type 0
LineFlies machine (Ok Blank) outcomes old new = new ≡ old
LineFlies machine (Ok Frame) [] old new = ⊥
LineFlies machine (Ok Frame) (OfFrame Done ∷ outcomes) old new =
    (new.progress ≡ at_rest) × Flies old new 0 0
LineFlies machine (Ok Frame) (OfFrame Fault ∷ outcomes) old new =
    (new.progress.pending ≡ true) × Flies old new 0 0
LineFlies machine (Ok Frame) (OfPump answer ∷ outcomes) old new = ⊥
LineFlies machine (Ok Pump) [] old new = ⊥
LineFlies machine (Ok Pump) (OfFrame end ∷ outcomes) old new = ⊥
LineFlies machine (Ok Pump) (OfPump answer ∷ outcomes) old new =
    Pumping old.progress new.progress answer
    × Flies old new (moves_in (Pumps answer)) (waits_in (Pumps answer))
LineFlies machine (Ok (Make command)) outcomes old new =
    Changing (sizes_of (command_owes machine command)) old.progress new.progress
    × (new.sent ≡ old.sent) × (new.waits ≡ old.waits)
LineFlies machine (Err fault) outcomes old new = new ≡ old

abbrev pub LineKeepsFlight : Type 0
LineKeepsFlight =
    (first : Machine) (before : List Said) (said : Said) (outcomes more : List Outcome)
    (start old new : Flight) →
    length outcomes ≡ outcome_count (entries (first_moment first) before) →
    LineFlies (after_all (first_moment first) before).machine said more old new →
    IsRunFlown first before outcomes start old →
    IsRunFlown first (before ++ said ∷ []) (outcomes ++ more) start new

-- Further lines, which were not reached, have no pump that answered. More may have been asked for since.
abbrev pub FlightsBound : Type 0
FlightsBound =
    (first : Machine) (lines unreached : List Said) (outcomes : List Outcome) (start now : Flight)
    (sent waits more waited : ℕ) →
    length outcomes ≡ outcome_count (entries (first_moment first) lines) →
    grown now.sent more ≤ sent → grown now.waits waited ≤ waits → IsRunFlown first lines outcomes start now →
    PumpsAsOwed first (lines ++ unreached) outcomes start.sent start.waits sent waits
