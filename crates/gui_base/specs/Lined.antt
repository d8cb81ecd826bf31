-- Areas are widened to whole lines of a panel.
use Rattle.gui_base.specs.Area.{Rect}
use Rattle.gui_base.specs.Rounding.{Rounding}

-- the lines of the panel that an area has
abbrev pub lined : Rect → Rect → Rect
lined panel area = record { x1 = panel.x1; y1 = area.y1; x2 = panel.x2; y2 = area.y2 }

abbrev pub lines_of : Rect → Rounding
lines_of panel = record { panel = panel; round = lined panel; step = 1 }
