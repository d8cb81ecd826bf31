-- Whole runs, by what each happening does to the panel and to the list of its pending areas.
use Rattle.std.specs.Prelude.{ℕ, ◌+◌, ◌≤◌, List, [], ◌∷◌, ◌++◌, map}
use Rattle.owed_defs.specs.Happenings.{Happening, Debt, Owes, Finished, Faulted, Pumps}
use Rattle.owed_defs.specs.declared.Pumped.{Pumped}
use Rattle.owed_defs.specs.Windows.{Window, windows, allowance}
use Rattle.owed_defs.specs.Standings.{Standing, IsOpening, Changes, Refreshes, IsClear}
use Rattle.owed_defs.specs.Accounts.{IsAccounted}

-- from a start to how things stand after these happenings
pub data Run (panel limit : ℕ) (start : Standing) : List Happening → Standing → Type 0 where
  opened : Run panel limit start [] start
  changed : {before : List Happening} {old new : Standing} (debt : Debt) →
      Run panel limit start before old → Changes panel old new debt →
      Run panel limit start (before ++ Owes debt ∷ []) new
  done : {before : List Happening} {old new : Standing} →
      Run panel limit start before old → Refreshes panel limit old new → IsClear new →
      Run panel limit start (before ++ Finished ∷ []) new
  faulted : {before : List Happening} {old new : Standing} →
      Run panel limit start before old → Refreshes panel limit old new →
      Run panel limit start (before ++ Faulted ∷ []) new
  pumped : {before : List Happening} {old new : Standing} (answer : Pumped) →
      Run panel limit start before old → Refreshes panel limit old new →
      Run panel limit start (before ++ Pumps answer ∷ []) new

-- no more was sent than may be
abbrev pub IsWithin : ℕ → ℕ → List Window → Standing → Standing → ℕ → Type 0
IsWithin panel limit run start now faults = now.sent ≤ start.sent + allowance panel limit run faults

-- a run sends no more than its windows owe, and what its failed starts and transfers cost
pub record SendsAsOwed : Type 0 where
  pub runs : (panel limit : ℕ) (start now : Standing) (hs : List Happening) (faults : ℕ) →
      IsOpening panel start → now.faults ≤ start.faults + faults → Run panel limit start hs now →
      IsWithin panel limit (windows panel hs) start now faults
  pub accounted : (panel limit : ℕ) (start now : Standing) (run : List Window) (faults : ℕ) →
      now.faults ≤ start.faults + faults → IsAccounted panel limit run start now →
      IsWithin panel limit run start now faults

-- debts that come after what was sent raise what may be sent
abbrev pub LaterDebtsRaise : Type 0
LaterDebtsRaise = (panel limit : ℕ) (hs : List Happening) (debts : List Debt) (faults : ℕ) →
    allowance panel limit (windows panel hs) faults
    ≤ allowance panel limit (windows panel (hs ++ map Owes debts)) faults
