-- Windows: the parts of a run between two frames that were done.
use Rattle.std.specs.Prelude.{ℕ, ◌+◌, ◌-◌, ◌*◌, ◌/◌, List, [], ◌∷◌, fold, sum_by}
use Rattle.owed_defs.specs.Happenings.{Debt, Happening, Owes, Finished, Faulted, Pumps}

-- what is owed in a window: pixels, and areas
pub record Window : Type 0 where
  pub size : ℕ
  pub count : ℕ

-- the window in which something more is owed
abbrev pub owing : Window → Debt → Window
owing window debt = record { size = window.size + debt.size; count = window.count + debt.count }

-- a window in which nothing is owed yet
abbrev pub new_window : Window
new_window = record { size = 0; count = 0 }

-- the windows, of which the open one comes first, after one happening more
abbrev pub after : List Window → Happening → List Window
after [] happening = []
after (window ∷ ended) (Owes debt) = owing window debt ∷ ended
after (window ∷ ended) Finished = new_window ∷ (window ∷ ended)
after (window ∷ ended) Faulted = window ∷ ended
after (window ∷ ended) (Pumps answer) = window ∷ ended

-- the windows of a run, the last first; in the first one the whole panel is owed besides, as one area
abbrev pub windows : ℕ → List Happening → List Window
windows panel happenings = fold after (record { size = panel; count = 1 } ∷ []) happenings

-- how many areas are listed as pending at most
abbrev pub most_areas : ℕ
most_areas = 32

-- How often the list can have overflowed where so many areas were added: the first time takes 33, and each
-- further one 32 more.
abbrev pub overflows : ℕ → ℕ
overflows count = (count - 1) / most_areas

-- what may be sent for a window: what is owed in it, and the whole panel for each overflow
abbrev pub allowed : ℕ → Window → ℕ
allowed panel window = window.size + panel * overflows window.count

-- what may be sent in a run of these windows in which so many starts and transfers failed
abbrev pub allowance : ℕ → ℕ → List Window → ℕ → ℕ
allowance panel limit run faults = sum_by (allowed panel) run + faults * (limit + panel)
