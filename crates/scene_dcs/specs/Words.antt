-- What the words say: how the panel is turned, and then the limits of the scene.
use Rattle.std.specs.Prelude.{ℕ, List, [], ◌∷◌, Some, None}
use Rattle.std.specs.declared.option.Option.{Option}
use Rattle.gui_base.specs.Limits.{Bounds}
use Rattle.panel_dcs.specs.Turning.{turn_said}
use Rattle.run_defs.specs.Words.{limits_of}

-- the number of quarters that the first word says, if there is one and it says any
abbrev pub turn_in : List (List ℕ) → Option ℕ
turn_in [] = None
turn_in (turn ∷ words) = turn_said turn

-- the limits of the words after it
abbrev pub limits_under : Option ℕ → List (List ℕ) → Option Bounds
limits_under None words = None
limits_under (Some turn) [] = None
limits_under (Some turn) (word ∷ words) = limits_of words

-- the limits that the words after the first one say, where that says a turn
abbrev pub limits_behind : List (List ℕ) → Option Bounds
limits_behind words = limits_under (turn_in words) words

-- the turn, which is 0 where the words say none
abbrev pub quarters_or_none : Option ℕ → ℕ
quarters_or_none None = 0
quarters_or_none (Some turn) = turn
