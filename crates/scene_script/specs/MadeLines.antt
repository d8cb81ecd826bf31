-- The lines of the made script by their places.
use Rattle.std.specs.Prelude.{◌≤◌, ℕ, ◌+◌, ◌-◌, ◌/◌, ◌%◌, ◌==◌, nat_lt, if◌then◌else◌, List, map, ⊤}
use Rattle.run_defs.specs.Made.{texts_drawn}
use Rattle.run_defs.specs.Script.{Said, parse}
use Rattle.run_defs.specs.declared.made.MadeCommand.{MadeCommand}
use Rattle.run_defs.specs.declared.made.MadeCommand.TheVariants.{New, Size, Pos, Color, Opacity}
use Rattle.run_defs.specs.declared.made.MadeLine.{MadeLine}
use Rattle.run_defs.specs.declared.made.MadeLine.TheVariants.{Object, Drawn, Frame}

-- the sizes of a panel
pub record IsSized (width height : ℕ) : Type 0 where
  pub some_width : 1 ≤ width
  pub most_width : width ≤ 1024
  pub some_height : 1 ≤ height
  pub most_height : height ≤ 1024

-- what the texts of lines in a row say
abbrev pub says_drawn : ℕ → ℕ → List MadeLine → ℕ → List Said
says_drawn width height lines x = map (λ line. parse line) (texts_drawn width height lines x)

-- a line that names an object names one that may be made
abbrev pub IsOnMade : MadeLine → Type 0
IsOnMade (Object command h) = (10 ≤ h) × (h ≤ 9999)
IsOnMade Drawn = ⊤
IsOnMade Frame = ⊤

-- the nth of the commands that make an object
abbrev pub making_at : ℕ → MadeCommand
making_at n =
    if n == 0 then New else if n == 1 then Size else if n == 2 then Pos else if n == 3 then Color else Opacity

-- the line at a place
unfoldable pub made_line_at : ℕ → MadeLine
made_line_at place =
    if nat_lt place 250 then Object (making_at (place % 5)) (10 + place / 5)
    else if (place - 250) % 101 == 0 then Frame
    else Drawn
