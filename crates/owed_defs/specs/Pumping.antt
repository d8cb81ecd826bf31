-- How the pumps of a run answer.
use Rattle.std.specs.Prelude.{◌≡◌, ℕ, zero, suc, ◌-◌, nat_lt, if◌then◌else◌, List, [], ◌∷◌, fold, ⊤}
use Rattle.owed_defs.specs.Happenings.{Happening, Owes, Finished, Faulted, Pumps}
use Rattle.owed_defs.specs.declared.Pumped.{Pumped}
use Rattle.owed_defs.specs.declared.Pumped.TheVariants.{Idle, Moved, Waiting, Fault}

-- what the answers so far tell of a run. Rest: nothing is pending, drawn or in flight. Fresh: something is
-- pending, and nothing is drawn or in flight. Busy: some pixels need so many moved pumps at least.
pub data PumpState : Type 0 where
  Rest : PumpState
  Fresh : PumpState
  Busy : (moves : ℕ) → PumpState

-- after a change that owes something
abbrev pub owing : PumpState → PumpState
owing Rest = Fresh
owing Fresh = Fresh
owing (Busy n) = Busy 3

-- after a pump that moved something
abbrev pub moved : PumpState → PumpState
moved Rest = Rest
moved Fresh = Busy 2
moved (Busy n) = Busy (n - 1)

-- the state after a happening; a fault leaves all pixels of a slice to be sent again
abbrev pub pump_after : PumpState → Happening → PumpState
pump_after state (Owes debt) = if nat_lt 0 debt.count then owing state else state
pump_after state Finished = Rest
pump_after state Faulted = Busy 3
pump_after state (Pumps Idle) = Rest
pump_after state (Pumps Moved) = moved state
pump_after state (Pumps Waiting) = state
pump_after state (Pumps Fault) = Busy 3

-- the state after a run from the opening on
abbrev pub pump_state : List Happening → PumpState
pump_state happenings = fold pump_after Fresh happenings

-- What a pump may answer in a state. A fault is that of a slice that was drawn or in flight, so there is none
-- at Rest and Fresh.
abbrev pub MayAnswer : PumpState → Pumped → Type 0
MayAnswer Rest answer = answer ≡ Idle
MayAnswer Fresh answer = answer ≡ Moved
MayAnswer (Busy zero) answer = ⊤
MayAnswer (Busy (suc n)) Idle = ⊥
MayAnswer (Busy (suc n)) Moved = ⊤
MayAnswer (Busy (suc n)) Waiting = ⊤
MayAnswer (Busy (suc n)) Fault = ⊤

-- what the happening may be in a state: a pump answers as it may
abbrev pub MayHappen : PumpState → Happening → Type 0
MayHappen state (Owes debt) = ⊤
MayHappen state Finished = ⊤
MayHappen state Faulted = ⊤
MayHappen state (Pumps answer) = MayAnswer state answer

-- each pump of a run answers as the state before it allows
abbrev pub Obeys : PumpState → List Happening → Type 0
Obeys state [] = ⊤
Obeys state (happening ∷ happenings) =
    MayHappen state happening × Obeys (pump_after state happening) happenings

-- 1 for a moved pump, else 0
abbrev pub moves_in : Happening → ℕ
moves_in (Owes debt) = 0
moves_in Finished = 0
moves_in Faulted = 0
moves_in (Pumps Idle) = 0
moves_in (Pumps Moved) = 1
moves_in (Pumps Waiting) = 0
moves_in (Pumps Fault) = 0

-- 1 for a waiting pump, else 0
abbrev pub waits_in : Happening → ℕ
waits_in (Owes debt) = 0
waits_in Finished = 0
waits_in Faulted = 0
waits_in (Pumps Idle) = 0
waits_in (Pumps Moved) = 0
waits_in (Pumps Waiting) = 1
waits_in (Pumps Fault) = 0
