-- Parts of an area by its lines.
use Rattle.std.specs.Prelude.{ℕ, pos, ◌+ℤ◌, ◌-ℤ◌}
use Rattle.gui_base.specs.Area.{Rect}

-- the first lines of an area
abbrev pub top_lines : Rect → ℕ → Rect
top_lines area lines = record area { y2 = (area.y1 +ℤ pos lines) -ℤ pos 1 }

-- the lines of an area below its first ones
abbrev pub lines_below : Rect → ℕ → Rect
lines_below area lines = record area { y1 = area.y1 +ℤ pos lines }
