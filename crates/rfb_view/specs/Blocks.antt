-- A block of a panel's pixels, as an area.
use Rattle.std.specs.Prelude.{pos}
use Rattle.gui_base.specs.Area.{Rect, area_at}
use Rattle.rfb_view.specs.declared.block.Block.{Block}

abbrev pub block_area : Block → Rect
block_area block = area_at (pos block.left) (pos block.top) block.columns block.lines
