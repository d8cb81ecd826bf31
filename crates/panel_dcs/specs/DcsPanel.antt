-- A panel over a bus.
use Rattle.std.specs.Prelude.{◌≡◌, ℕ, ◌+◌, ◌-◌, ◌*◌, ◌<◌, ◌≤◌, true, List, length, Some, None, IfSome, option_map, pos}
use Rattle.std.specs.Option.{ForSome}
use Rattle.std.proofs.lemmas.List.FromFn.{length-map-range_with_len}
use Rattle.std.specs.declared.option.Option.{Option}
use Rattle.gui_base.specs.Area.{area_at, width_of, size_of, is_within}
use Rattle.gui_base.specs.Grids.{BlockSize, one_pixel, grid_over}
use Rattle.gui_base.specs.Ppm.{ppm}
use Rattle.gui_base.specs.Rounding.{IsRound}
use Rattle.gui_color.specs.Buffer.{Buffer}
use Rattle.gui_edge.specs.Panel.{PanelState}
use Rattle.gui_edge.specs.Sink.{SinkState}
use Rattle.panel_dcs.specs.Bus.{BusState, Opens, Feeds}
use Rattle.panel_dcs.specs.Transfers.{opening_bytes, row_bytes}
use Rattle.gui_edge.specs.declared.panel.Polled.{Polled}
use Rattle.gui_edge.specs.declared.panel.Polled.TheVariants.{Ready, NotYet, Failed}
use Rattle.panel_dcs.specs.Controller.{Chip}
use Rattle.panel_dcs.specs.Polls.{Sides, rows_of, next_row, IsSending}
use Rattle.panel_dcs.specs.declared.turn.Turn.{Turn}
use Rattle.panel_dcs.specs.Turning.{Turned, quarters_of, columns_of, pages_of, turned_area, shown, device}

-- a panel that is turned on its device, which stands behind a bus
pub record DcsState (Frames Link : Type 0) : Type 0 where
  pub frames : Frames
  pub bus : Link
  pub turned : Turned
  -- how many pixels a buffer may have; 0 where the panel is not opened
  pub limit : ℕ
  -- the panel takes whole blocks of this size
  pub block : BlockSize
  -- the buffer in flight
  pub coming : Option Buffer
  -- how many rows of it were sent
  pub row : ℕ
  pub sent : ℕ
  pub waits : ℕ

-- a buffer could be started on a panel of these sizes and blocks
pub record Fits (width height limit : ℕ) (block : BlockSize) (buf : Buffer) : Type 0 where
  pub inside : is_within (area_at (pos 0) (pos 0) width height) buf.area ≡ true
  pub small : size_of buf.area ≤ limit
  pub blocks : IsRound (grid_over block (area_at (pos 0) (pos 0) width height)) buf.area

-- the state, and that a buffer in flight could be started
pub record DcsValue (Frames Link : Type 0) : Type 0 where
  pub state : DcsState Frames Link
  pub flying : ForSome state.coming (Fits state.turned.width state.turned.height state.limit state.block)

-- where a panel tells what it shows, it tells each pixel
pub each_of : (t : Turned) (chip : Option Chip) →
    IfSome (option_map (λ c. shown t c.memory) chip) (λ colors. length colors ≡ t.width * t.height)
each_of t None = tt
each_of t (Some c) = length-map-range_with_len _ 0 (t.width * t.height)

-- a panel that is not opened
abbrev pub unopened : {Frames Link : Type 0} → Frames → Link → Turn → DcsState Frames Link
unopened frames bus turn = record {
  frames = frames;
  bus = bus;
  turned = record { turn = turn; width = 0; height = 0 };
  limit = 0;
  block = one_pixel;
  coming = None;
  row = 0;
  sent = 0;
  waits = 0;
}

-- how many pixels of a buffer are still to be sent
abbrev pub left_of : Turned → ℕ → Option Buffer → ℕ
left_of t row None = 0
left_of t row (Some buf) = (rows_of t buf.area - row) * width_of (turned_area t buf.area)

-- what is known of it as a panel, by what is known of its file of frames and of its bus
abbrev pub dcs_state : {Frames Link : Type 0} → (Frames → SinkState) → (Link → BusState) →
    DcsState Frames Link → PanelState
dcs_state frames bus panel = record {
  width = panel.turned.width;
  height = panel.turned.height;
  limit = panel.limit;
  block = panel.block;
  turn = quarters_of panel.turned.turn;
  shows = option_map (λ chip. shown panel.turned chip.memory) (bus panel.bus).chip;
  frames = (frames panel.frames).held;
  coming = panel.coming;
  left = left_of panel.turned panel.row panel.coming;
  sent = panel.sent;
  waits = panel.waits;
  flush_faults = (bus panel.bus).faults;
  present_faults = (frames panel.frames).faults;
}

-- the controller is of the panel's device
pub record IsDevice (t : Turned) (chip : Chip) : Type 0 where
  pub columns : chip.columns ≡ columns_of t
  pub pages : chip.pages ≡ pages_of t
  pub len : length chip.memory ≡ columns_of t * pages_of t

-- what is so of an opened panel
pub record IsReady (t : Turned) (bus : BusState) : Type 0 where
  pub opened : 0 < bus.columns
  pub columns : bus.columns ≡ columns_of t
  pub pages : bus.pages ≡ pages_of t
  pub width : t.width ≤ 1024
  pub height : t.height ≤ 1024
  pub device : (chip : Chip) → bus.chip ≡ Some chip → IsDevice t chip

-- what is so of a buffer in flight: so many of its rows have come to the controller, where it is told
pub record IsFlying (t : Turned) (limit : ℕ) (bus : BusState) (row : ℕ) (buf : Buffer) : Type 0 where
  pub ready : IsReady t bus
  pub sides : Sides t.width t.height buf.area
  pub small : size_of buf.area ≤ limit
  pub inside : is_within (device t) (turned_area t buf.area) ≡ true
  pub wide : 0 < width_of (turned_area t buf.area)
  pub few : row < rows_of t buf.area
  pub rows : rows_of t buf.area ≤ 1024
  pub sending : (chip : Chip) → bus.chip ≡ Some chip → IsSending t buf row chip

-- what is so of a panel between two calls
pub record IsDcs (t : Turned) (limit : ℕ) (bus : BusState) (coming : Option Buffer) (row : ℕ) : Type 0 where
  pub closed : limit ≡ 0 → t.width ≡ 0
  pub ready : 0 < limit → IsReady t bus
  pub flying : (buf : Buffer) → coming ≡ Some buf → IsFlying t limit bus row buf

-- the file of what a panel shows, where it tells that
abbrev pub WritesShown : Turned → Option Chip → (List ℕ → Type 0) → Type 0
WritesShown t chip Writes =
    IfSome (option_map (λ c. shown t c.memory) chip) (λ colors. Writes (ppm t.width t.height colors))

-- the bus was opened to the device of a panel, and what its controller wants to hear first came through
pub record OpensBus (t : Turned) (old new : BusState) : Type 0 where
  pub mid : BusState
  pub opens : Opens old mid (columns_of t) (pages_of t)
  pub hears : Feeds mid new opening_bytes

-- a panel of other sizes
abbrev pub resized : Turned → ℕ → ℕ → Turned
resized t width height = record { turn = t.turn; width = width; height = height }

-- what a poll sends: the next row, but where it fails
abbrev pub PollSends : Turned → BusState → BusState → Option Buffer → ℕ → Polled → Type 0
PollSends t old new coming row (Ready buf) = Feeds old new (row_bytes (next_row t buf row))
PollSends t old new coming row NotYet = ForSome coming (λ buf. Feeds old new (row_bytes (next_row t buf row)))
PollSends t old new coming row (Failed buf) = Unit {0}

-- how many rows were sent then: all of them where the transfer has ended, and one more where it goes on
abbrev pub PollCounts : Turned → ℕ → ℕ → Polled → Type 0
PollCounts t row next (Ready buf) = row + 1 ≡ rows_of t buf.area
PollCounts t row next NotYet = next ≡ row + 1
PollCounts t row next (Failed buf) = Unit {0}
