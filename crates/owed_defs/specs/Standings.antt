-- How a panel and the list of its pending areas stand, and what changes and refreshes make of it.
use Rattle.std.specs.Prelude.{◌≡◌, ℕ, ◌+◌, ◌*◌, ◌<◌, ◌≤◌, ◌⊎◌}
use Rattle.owed_defs.specs.Happenings.{Debt}

pub record Standing : Type 0 where
  -- how many pixels were sent
  pub sent : ℕ
  -- how many are pending, or drawn and wait
  pub pending : ℕ
  -- how many areas are listed
  pub listed : ℕ
  -- how many starts and transfers failed
  pub faults : ℕ

-- a change lists its debt
pub record Lists (old new : Standing) (debt : Debt) : Type 0 where
  pub sizes : new.pending ≤ old.pending + debt.size
  pub counts : new.listed ≤ old.listed + debt.count

-- or the list overflows to the whole panel; what is drawn and waits stays
pub record ListsWhole (panel : ℕ) (old new : Standing) (debt : Debt) : Type 0 where
  pub whole : (new.pending ≤ old.pending + panel) × (new.listed ≤ 1)
  pub full : 32 < old.listed + debt.count

pub record Changes (panel : ℕ) (old new : Standing) (debt : Debt) : Type 0 where
  pub sent : new.sent ≡ old.sent
  pub faults : new.faults ≡ old.faults
  pub lists : Lists old new debt ⊎ ListsWhole panel old new debt

-- a refresh or a pump in which so many starts and transfers failed sends what was pending or drawn, and what
-- failed is pending again
pub record Sends (limit : ℕ) (old new : Standing) (failed : ℕ) : Type 0 where
  pub sizes : new.sent + new.pending ≤ old.sent + old.pending + failed * limit
  pub counts : new.listed ≤ old.listed + failed

-- or the list overflows to the whole panel
pub record SendsWhole (panel limit : ℕ) (old new : Standing) (failed : ℕ) : Type 0 where
  pub some : 0 < failed
  pub whole : new.listed ≤ 1
  pub full : 32 < old.listed + failed
  pub sizes : new.sent + new.pending ≤ old.sent + old.pending + failed * limit + panel

pub record Refreshes (panel limit : ℕ) (old new : Standing) : Type 0 where
  pub failed : ℕ
  pub faults : old.faults + failed ≤ new.faults
  pub sends : Sends limit old new failed ⊎ SendsWhole panel limit old new failed

-- nothing is pending
pub record IsClear (now : Standing) : Type 0 where
  pub pending : now.pending ≡ 0
  pub listed : now.listed ≡ 0

-- at the opening the whole panel is pending
pub record IsOpening (panel : ℕ) (start : Standing) : Type 0 where
  pub pending : start.pending ≤ panel
  pub listed : start.listed ≤ 1
