-- What was sent against what was owed.
use Rattle.std.specs.Prelude.{ℕ, ◌+◌, ◌*◌, ◌<◌, ◌≤◌, List, [], ◌∷◌, sum_by}
use Rattle.owed_defs.specs.Happenings.{Debt, Owes, Finished, Faulted, Pumps}
use Rattle.owed_defs.specs.declared.Pumped.{Pumped}
use Rattle.owed_defs.specs.Windows.{Window, after, windows, allowed}
use Rattle.owed_defs.specs.Standings.{Standing, IsOpening, Changes, Refreshes, IsClear}

-- How the list has stood in the open window: how often it overflowed, how many starts and transfers failed in
-- it, and how many before it. `ended` is what may be sent for the windows before it.
pub record InWindow (panel limit : ℕ) (window : Window) (ended : ℕ) (start now : Standing) : Type 0 where
  pub overflowed : ℕ
  pub failed : ℕ
  pub earlier : ℕ
  pub faults : start.faults + earlier + failed ≤ now.faults
  pub sizes : now.sent + now.pending
      ≤ start.sent + ended + window.size + panel * overflowed + failed * limit
      + earlier * (limit + panel)
  pub counts : now.listed + 32 * overflowed ≤ window.count + failed
  -- the first overflow took one area more than the list has room for
  pub first : 0 < overflowed → 32 * overflowed < window.count + failed

-- the windows so far, the open one first
abbrev pub IsAccounted : ℕ → ℕ → List Window → Standing → Standing → Type 0
IsAccounted panel limit [] start now = ⊥
IsAccounted panel limit (window ∷ ended) start now =
    InWindow panel limit window (sum_by (allowed panel) ended) start now

abbrev pub OpensAccounts : Type 0
OpensAccounts = (panel limit : ℕ) (start : Standing) →
    IsOpening panel start → IsAccounted panel limit (windows panel []) start start

abbrev pub ChangeKeepsAccounts : Type 0
ChangeKeepsAccounts = (panel limit : ℕ) (run : List Window) (start old new : Standing) (debt : Debt) →
    Changes panel old new debt → IsAccounted panel limit run start old →
    IsAccounted panel limit (after run (Owes debt)) start new

abbrev pub DoneEndsWindow : Type 0
DoneEndsWindow = (panel limit : ℕ) (run : List Window) (start old new : Standing) →
    Refreshes panel limit old new → IsClear new → IsAccounted panel limit run start old →
    IsAccounted panel limit (after run Finished) start new

abbrev pub FaultKeepsWindow : Type 0
FaultKeepsWindow = (panel limit : ℕ) (run : List Window) (start old new : Standing) →
    Refreshes panel limit old new → IsAccounted panel limit run start old →
    IsAccounted panel limit (after run Faulted) start new

abbrev pub PumpKeepsWindow : Type 0
PumpKeepsWindow = (panel limit : ℕ) (run : List Window) (start old new : Standing) (answer : Pumped) →
    Refreshes panel limit old new → IsAccounted panel limit run start old →
    IsAccounted panel limit (after run (Pumps answer)) start new
