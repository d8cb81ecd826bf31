-- The corners of an area.
use Rattle.gui_base.specs.Area.{Rect}
use Rattle.gui_base.specs.declared.area.Area.{Area}

abbrev pub rect_of : Area → Rect
rect_of area = record { x1 = area.x1; y1 = area.y1; x2 = area.x2; y2 = area.y2 }
