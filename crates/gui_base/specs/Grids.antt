-- Areas are widened to whole blocks of a panel.
use Rattle.std.specs.Prelude.{◌≡◌, ℕ, ◌+◌, ◌-◌, ◌*◌, ◌/◌, ◌%◌, ◌≤◌, false, pos}
use Rattle.gui_base.specs.Area.{Rect, is_empty, nat_of, width_of, height_of}
use Rattle.gui_base.specs.Rounding.{Rounding}

-- the width and the height of a block, in pixels
pub record BlockSize : Type 0 where
  pub w : ℕ
  pub h : ℕ

-- a block of a single pixel
abbrev pub one_pixel : BlockSize
one_pixel = record { w = 1; h = 1 }

-- the sizes of a block
pub record IsBlock (w h : ℕ) : Type 0 where
  pub some_width : 1 ≤ w
  pub most_width : w ≤ 16
  pub some_height : 1 ≤ h
  pub most_height : h ≤ 16

-- the first number of the block that a number lies in, where blocks of so many numbers begin at 0
abbrev pub block_start : ℕ → ℕ → ℕ
block_start size n = n / size * size

-- the last number of the block that a number lies in
abbrev pub block_end : ℕ → ℕ → ℕ
block_end size n = n / size * size + (size - 1)

-- the least area of whole blocks that holds an area, which lies right of and below 0 0
abbrev pub in_blocks : ℕ → ℕ → Rect → Rect
in_blocks w h area = record {
  x1 = pos (block_start w (nat_of area.x1));
  y1 = pos (block_start h (nat_of area.y1));
  x2 = pos (block_end w (nat_of area.x2));
  y2 = pos (block_end h (nat_of area.y2));
}

-- a panel consists of whole blocks, the first of them at 0 0
pub record HasBlocks (w h : ℕ) (panel : Rect) : Type 0 where
  pub left : panel.x1 ≡ pos 0
  pub top : panel.y1 ≡ pos 0
  pub some : is_empty panel ≡ false
  pub wide : width_of panel % w ≡ 0
  pub high : height_of panel % h ≡ 0

-- the rounding of a panel in blocks of so many pixels and lines: areas grow to whole blocks, and cuts lie between
-- blocks
abbrev pub blocks_of : ℕ → ℕ → Rect → Rounding
blocks_of w h panel = record { panel = panel; round = in_blocks w h; step = h }

-- the grid of a panel in blocks of this size
abbrev pub grid_over : BlockSize → Rect → Rounding
grid_over block panel = blocks_of block.w block.h panel

-- there is such a grid: the panel consists of whole blocks
pub record IsGridded (block : BlockSize) (panel : Rect) : Type 0 where
  pub sizes : IsBlock block.w block.h
  pub whole : HasBlocks block.w block.h panel
