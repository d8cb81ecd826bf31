-- How the grid of the code rounds.
use Rattle.std.specs.Prelude.{◌≡◌}
use Rattle.gui_base.specs.Corners.{rect_of}
use Rattle.gui_base.specs.Grids.{BlockSize, one_pixel, blocks_of}
use Rattle.gui_base.specs.Rounding.{Rounding, WidensNothing}
use Rattle.gui_base.specs.declared.rounding.Block.{Block}
use Rattle.gui_base.specs.declared.rounding.Grid.{Grid}

abbrev pub rules_of : Grid → Rounding
rules_of grid = blocks_of grid.block.w grid.block.h (rect_of grid.panel)

-- the size of a block, and of those of a grid
abbrev pub size_in : Block → BlockSize
size_in block = record { w = block.w; h = block.h }

abbrev pub block_of : Grid → BlockSize
block_of grid = size_in grid.block

-- the blocks are single pixels
abbrev pub HasPixels : Grid → Type 0
HasPixels grid = block_of grid ≡ one_pixel

-- such blocks widen no area of the panel
abbrev pub PixelsWidenNothing : Type 0
PixelsWidenNothing = (grid : Grid) → HasPixels grid → WidensNothing (rules_of grid)
