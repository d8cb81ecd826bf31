-- A refresher, a panel, and the areas of it that are pending.
use Rattle.std.specs.Prelude.{◌≡◌, ℕ, ◌+◌, ◌*◌, ◌≤◌, Bool, true, false, if◌then◌else◌, nat_lt, List, length}
use Rattle.std.specs.Prelude.{ℤ, pos, Some, None, is_some, IfSome}
use Rattle.std.specs.declared.option.Option.{Option}
use Rattle.std.specs.Option.{ForSome}
use Rattle.gui_base.specs.declared.color.Rgb565.{Rgb565}
use Rattle.gui_base.specs.Area.{Rect, area_at, has, is_within, size_of}
use Rattle.gui_base.specs.Grids.{BlockSize, IsGridded, grid_over}
use Rattle.gui_base.specs.Limits.{Bounds}
use Rattle.gui_base.specs.Rounding.{Rounding, IsRound}
use Rattle.gui_color.specs.Buffer.{Buffer, color_at}
use Rattle.gui_edge.specs.Panel.{PanelState, area_of}
use Rattle.gui_damage.specs.Pending.{Pending, covered, total}
use Rattle.owed_defs.specs.Progress.{Progress, one_if}

-- the sizes of a panel in pixels, how many pixels a slice may have, and the blocks that the panel takes
pub record Sizes : Type 0 where
  pub width : ℕ
  pub height : ℕ
  pub limit : ℕ
  pub block : BlockSize

-- all pixels of the panel, and its grid of blocks
abbrev pub panel_with : Sizes → Rect
panel_with sizes = area_at (pos 0) (pos 0) sizes.width sizes.height

abbrev pub grid_with : Sizes → Rounding
grid_with sizes = grid_over sizes.block (panel_with sizes)

pub record IsSizes (sizes : Sizes) : Type 0 where
  pub some_width : 1 ≤ sizes.width
  pub most_width : sizes.width ≤ 1024
  pub some_height : 1 ≤ sizes.height
  pub most_height : sizes.height ≤ 1024
  -- a slice has a line at least, and the panel's pixels at most
  pub least_limit : sizes.width ≤ sizes.limit
  pub most_limit : sizes.limit ≤ sizes.width * sizes.height
  -- the panel consists of whole blocks, and a slice has a row of them at least
  pub whole : IsGridded sizes.block (panel_with sizes)
  pub row : sizes.width * sizes.block.h ≤ sizes.limit

abbrev pub sizes_of : Bounds → Sizes
sizes_of limits = record {
  width = limits.width;
  height = limits.height;
  limit = limits.width * limits.lines;
  block = limits.block;
}

-- What callers see of a refresher: the sizes that it was opened for, the drawn buffer that waits, how many
-- buffers are free, and whether one was started and has not come back.
pub record Refreshing : Type 0 where
  pub sizes : Sizes
  pub drawn : Option Buffer
  pub free : ℕ
  pub started : Bool

-- a buffer was drawn for a panel of these sizes
pub record IsDrawn (sizes : Sizes) (buf : Buffer) : Type 0 where
  pub inside : is_within (panel_with sizes) buf.area ≡ true
  pub small : size_of buf.area ≤ sizes.limit
  pub blocks : IsRound (grid_with sizes) buf.area
  pub limit : buf.limit ≡ sizes.limit

-- what holds of each refresher: there are two buffers in all
pub record IsRefreshing (refresher : Refreshing) : Type 0 where
  pub sizes : IsSizes refresher.sizes
  pub two : refresher.free + one_if (is_some refresher.drawn) + one_if refresher.started ≡ 2
  pub drawn : ForSome refresher.drawn (IsDrawn refresher.sizes)

pub record Stage : Type 0 where
  pub refresher : Refreshing
  pub panel : PanelState
  pub pending : Pending

abbrev pub stage : Refreshing → PanelState → Pending → Stage
stage refresher panel pending = record { refresher = refresher; panel = panel; pending = pending }

-- The panel is opened with the refresher's sizes and blocks, and the pending areas are of it. It has a transfer in
-- flight exactly where the refresher has started a buffer that it has not got back. A buffer in flight has
-- the refresher's limit.
pub record CanRefresh (now : Stage) : Type 0 where
  pub width : now.panel.width ≡ now.refresher.sizes.width
  pub height : now.panel.height ≡ now.refresher.sizes.height
  pub limit : now.panel.limit ≡ now.refresher.sizes.limit
  pub block : now.panel.block ≡ now.refresher.sizes.block
  pub area : now.pending.panel ≡ area_of now.panel
  pub started : now.refresher.started ≡ is_some now.panel.coming
  pub coming : ForSome now.panel.coming (λ buf. buf.limit ≡ now.refresher.sizes.limit)

-- the colour of a pixel in a buffer, where there is one that has it, or else the other one
abbrev pub copy : Option Buffer → Rgb565 → ℤ → ℤ → Rgb565
copy None other x y = other
copy (Some buf) other x y = if has buf.area x y then color_at buf.area buf.pixels x y else other

-- the newest copy of a pixel that shows a colour: the one that is drawn and waits, the one in flight, or it
abbrev pub newest : Option Buffer → Option Buffer → Rgb565 → ℤ → ℤ → Rgb565
newest drawn coming shown x y = copy drawn (copy coming shown x y) x y

-- Each pixel of a panel is pending, or its newest copy has the picture's colour. `colors` has the colours
-- that the panel shows, row by row.
pub record Agrees (panel : Rect) (color : ℤ → ℤ → Rgb565) (areas : List Rect) (drawn coming : Option Buffer)
    (colors : List Rgb565) : Type 0 where
  pub each : (x y : ℤ) → has panel x y ≡ true → covered areas x y ≡ false →
      newest drawn coming (color_at panel colors x y) x y ≡ color x y

-- the same of a panel that tells what it shows
abbrev pub AgreesAt : (ℤ → ℤ → Rgb565) → Stage → Type 0
AgreesAt color now = IfSome now.panel.shows
    (Agrees (area_of now.panel) color now.pending.areas now.refresher.drawn now.panel.coming)

-- the panel shows the picture, where it tells
abbrev pub ShowsPicture : (ℤ → ℤ → Rgb565) → PanelState → Type 0
ShowsPicture color panel = IfSome panel.shows (λ colors. (x y : ℤ) → has (area_of panel) x y ≡ true →
    color_at (area_of panel) colors x y ≡ color x y)

abbrev pub drawn_size : Option Buffer → ℕ
drawn_size None = 0
drawn_size (Some buf) = size_of buf.area

-- how many pixels are pending, or drawn and wait
abbrev pub to_send : Stage → ℕ
to_send now = total now.pending.areas + drawn_size now.refresher.drawn

-- the work left: it falls at each step
abbrev pub work : Stage → ℕ
work now =
    4 * total now.pending.areas + 3 * drawn_size now.refresher.drawn + now.panel.left
    + one_if (is_some now.panel.coming)

abbrev pub progress_of : Stage → Progress
progress_of now = record {
  pending = nat_lt 0 (length now.pending.areas);
  drawn = is_some now.refresher.drawn;
  flying = is_some now.panel.coming;
}
