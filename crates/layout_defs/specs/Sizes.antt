-- The intervals of sizes, gaps and places.
use Rattle.std.specs.Prelude.{Bool, true, false, ℤ, pos, ◌≤ℤ◌}
use Rattle.gui_base.specs.declared.words.Placing.{Placing}
use Rattle.gui_base.specs.declared.words.Placing.TheVariants.{Start, End, Center}

-- a solved size
abbrev pub IsSize : ℤ → Type 0
IsSize n = (pos 0 ≤ℤ n) × (n ≤ℤ pos 8191)

abbrev pub IsGap : ℤ → Type 0
IsGap n = (pos 0 ≤ℤ n) × (n ≤ℤ pos 1000)

-- whether a placing serves an item in its track
abbrev pub is_cross : Placing → Bool
is_cross Start = true
is_cross End = true
is_cross Center = true
is_cross placing = false

-- how far an item may stand from its container's corner
abbrev pub IsReach : ℤ → Type 0
IsReach n = (pos 0 ≤ℤ n) × (n ≤ℤ pos 50000000)
