-- Windows that were worked out by hand.
use Rattle.std.specs.Prelude.{◌≡◌, ℕ, List, [], ◌∷◌, map, sum_by}
use Rattle.owed_defs.specs.Happenings.{Happening, Owes, Finished, Faulted, Pumps}
use Rattle.owed_defs.specs.Pumping.{PumpState, Rest, Fresh, Busy, Obeys, pump_after, moves_in, waits_in}
use Rattle.owed_defs.specs.declared.Pumped.TheVariants.{Moved, Waiting, Fault}
use Rattle.owed_defs.specs.Windows.{windows, overflows, allowance}

abbrev pub OverflowsAreWorked : Type 0
OverflowsAreWorked = map overflows (0 ∷ 1 ∷ 32 ∷ 33 ∷ 64 ∷ 65 ∷ []) ≡ 0 ∷ 0 ∷ 0 ∷ 1 ∷ 1 ∷ 2 ∷ []

abbrev owes : ℕ → ℕ → Happening
owes size count = Owes (record { size = size; count = count })

-- A panel of 8 by 6 pixels: two areas of 6 pixels are owed, and a fault keeps the window open. Then 33 areas
-- of a pixel are owed.
abbrev moves : List Happening
moves = Finished ∷ owes 12 2 ∷ Faulted ∷ owes 6 1 ∷ Finished ∷ owes 33 33 ∷ []

abbrev pub WindowsAreWorked : Type 0
WindowsAreWorked = windows 48 moves
    ≡ record { size = 33; count = 33 }
    ∷ record { size = 18; count = 3 }
    ∷ record { size = 48; count = 1 }
    ∷ []

-- in slices of 8 pixels, with the one start that failed: 33 + 48, 18, 48, and 8 + 48
abbrev pub AllowancesAreWorked : Type 0
AllowancesAreWorked = allowance 48 8 (windows 48 moves) 1 ≡ 203

-- the states before, between and after happenings
abbrev states : PumpState → List Happening → List PumpState
states state [] = state ∷ []
states state (happening ∷ happenings) = state ∷ states (pump_after state happening) happenings

-- An object of a line of 4 pixels in a panel of 4 by 2 gets its colour, two pumps move, it gets another
-- colour while its pixels are in flight, a pump moves and one waits, and a frame is done.
abbrev colors_in_flight : List Happening
colors_in_flight =
    owes 8 1 ∷ owes 12 2 ∷ owes 4 1 ∷ owes 4 1 ∷ Pumps Moved ∷ Pumps Moved
    ∷ owes 4 1 ∷ Pumps Moved ∷ Pumps Waiting ∷ Finished ∷ []

abbrev pub PumpStatesAreWorked : Type 0
PumpStatesAreWorked = states Fresh colors_in_flight
    ≡ Fresh ∷ Fresh ∷ Fresh ∷ Fresh ∷ Fresh ∷ Busy 2 ∷ Busy 1 ∷ Busy 3 ∷ Busy 2 ∷ Busy 2 ∷ Rest ∷ []

abbrev pub PumpsAreWorked : Type 0
PumpsAreWorked = Obeys Fresh colors_in_flight

abbrev pub MovesAreWorked : Type 0
MovesAreWorked = sum_by moves_in colors_in_flight ∷ sum_by waits_in colors_in_flight ∷ [] ≡ 3 ∷ 1 ∷ []

-- nothing is drawn or in flight at the opening and at rest, so no pump faults there
abbrev pub NoFaultIsFirst : Type 0
NoFaultIsFirst = (Obeys Fresh (Pumps Fault ∷ []) → ⊥) × (Obeys Rest (Pumps Fault ∷ []) → ⊥)
