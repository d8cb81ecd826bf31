-- Laws of the records.
use Rattle.std.specs.Prelude.{◌≡◌, Some, option_map}
use Rattle.gui_base.specs.Area.{Rect}
use Rattle.pack_defs.specs.Packing.{packed}
use Rattle.pack_defs.specs.Paints.{items_in}
use Rattle.widget_defs.specs.Items.{items}
use Rattle.widget_defs.specs.Looks.{Look}

-- what an object paints is what its record says
abbrev pub EachIsKept : Type 0
EachIsKept = (look : Look) (area : Rect) → option_map items_in (packed (items look area)) ≡ Some (items look area)
