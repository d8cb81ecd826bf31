-- What was sent in a run against what its lines owe.
use Rattle.std.specs.Prelude.{◌≡◌, ℕ, ◌+◌, ◌≤◌, Ok, Err, List, [], ◌∷◌, ◌++◌, length}
use Rattle.gui_base.specs.Limits.{Bounds}
use Rattle.run_defs.specs.declared.FrameEnd.TheVariants.{Done, Fault}
use Rattle.run_defs.specs.declared.Line.TheVariants.{Blank, Frame, Pump, Make}
use Rattle.run_defs.specs.declared.Outcome.{Outcome}
use Rattle.run_defs.specs.declared.Outcome.TheVariants.{Frame as OfFrame, Pump as OfPump}
use Rattle.run_defs.specs.Machine.{Machine}
use Rattle.run_defs.specs.Run.{first_moment, after_all, entries, outcome_count}
use Rattle.run_defs.specs.Script.{Said}
use Rattle.owed_defs.specs.Accounts.{IsAccounted}
use Rattle.owed_defs.specs.Happenings.{debt_of as sizes_of}
use Rattle.owed_defs.specs.Standings.{Standing, IsOpening, Changes, Refreshes, IsClear}
use Rattle.run_defs.specs.Owing.{command_owes, panel_size, slice_limit, run_windows, may_send}

-- how things stand after these lines of a run is accounted for by what they owe
abbrev pub IsRunAccounted : Machine → List Said → List Outcome → Standing → Standing → Type 0
IsRunAccounted first lines outcomes start now =
    IsAccounted (panel_size first.scene.limits) (slice_limit first.scene.limits)
    (run_windows first lines outcomes) start now

-- what a frame does: a refresh, after which nothing is pending where it was done
abbrev pub FrameCounts : Bounds → List Outcome → Standing → Standing → Type 0
FrameCounts limits [] old new = Refreshes (panel_size limits) (slice_limit limits) old new
FrameCounts limits (OfFrame Done ∷ outcomes) old new =
    Refreshes (panel_size limits) (slice_limit limits) old new × IsClear new
FrameCounts limits (OfFrame Fault ∷ outcomes) old new =
    Refreshes (panel_size limits) (slice_limit limits) old new
FrameCounts limits (OfPump answer ∷ outcomes) old new =
    Refreshes (panel_size limits) (slice_limit limits) old new

-- what a line does: a command lists what it owes, and only a frame and a pump send
abbrev pub LineCounts : Bounds → Machine → Said → List Outcome → Standing → Standing → Type 0
LineCounts limits machine (Ok Blank) outcomes old new = new ≡ old
LineCounts limits machine (Ok Frame) outcomes old new = FrameCounts limits outcomes old new
LineCounts limits machine (Ok Pump) outcomes old new =
    Refreshes (panel_size limits) (slice_limit limits) old new
LineCounts limits machine (Ok (Make command)) outcomes old new =
    Changes (panel_size limits) old new (sizes_of (command_owes machine command))
LineCounts limits machine (Err fault) outcomes old new = new ≡ old

-- before the first line
abbrev pub RunOpens : Type 0
RunOpens = (first : Machine) (start : Standing) →
    IsOpening (panel_size first.scene.limits) start → IsRunAccounted first [] [] start start

-- a line more, where each frame and each pump before it has its outcome
abbrev pub LineKeepsAccount : Type 0
LineKeepsAccount =
    (first : Machine) (before : List Said) (said : Said) (outcomes more : List Outcome)
    (start old new : Standing) →
    length outcomes ≡ outcome_count (entries (first_moment first) before) →
    LineCounts first.scene.limits (after_all (first_moment first) before).machine said more old new →
    IsRunAccounted first before outcomes start old →
    IsRunAccounted first (before ++ said ∷ []) (outcomes ++ more) start new

-- no more was sent than may be, whatever further lines were not reached
abbrev pub AccountBounds : Type 0
AccountBounds =
    (first : Machine) (lines unreached : List Said) (outcomes : List Outcome) (start now : Standing)
    (faults : ℕ) →
    length outcomes ≤ outcome_count (entries (first_moment first) lines) →
    now.faults ≤ start.faults + faults → IsRunAccounted first lines outcomes start now →
    now.sent ≤ start.sent + may_send first (lines ++ unreached) outcomes faults
