-- A panel that writes what it gets to a stream.
use Rattle.std.specs.Prelude.{◌≡◌, ℕ, ◌*◌, ◌<◌, ◌≤◌, Bool, true, false, List, [], length, ℤ, pos}
use Rattle.std.specs.Prelude.{Some, None, IfSome, option_map, ◌≤ℤ◌, ◌<ℤ◌}
use Rattle.std.specs.declared.option.Option.{Option}
use Rattle.std.specs.Option.{ForSome}
use Rattle.std.proofs.lemmas.List.FromFn.{length-map-range_with_len}
use Rattle.gui_base.specs.declared.color.Rgb565.{Rgb565}
use Rattle.gui_base.specs.Area.{Rect, area_at, size_of, is_within}
use Rattle.gui_base.specs.Grids.{BlockSize, one_pixel, grid_over}
use Rattle.gui_base.specs.Rounding.{IsRound}
use Rattle.gui_color.specs.Buffer.{Buffer, color_at}
use Rattle.gui_edge.specs.Panel.{PanelState}
use Rattle.gui_edge.specs.Sink.{SinkState}
use Rattle.panel_stream.specs.Viewer.{Viewer, replayed, picture_of, panel_of}

-- a panel whose pixels go to a stream as records, and not to a device
pub record StreamState (Out : Type 0) : Type 0 where
  -- where the stream goes
  pub out : Out
  pub width : ℕ
  pub height : ℕ
  -- how many pixels a buffer may have; 0 where the panel is not opened
  pub limit : ℕ
  pub block : BlockSize
  -- whether a write failed: from then on nothing is written, since no viewer could tell where a record begins
  pub broken : Bool
  -- the buffer in flight
  pub coming : Option Buffer
  pub sent : ℕ
  -- how many openings and transfers failed
  pub flush_faults : ℕ
  -- how many frames could not be presented; it stays at the last count
  pub present_faults : ℕ

-- a buffer could be started on a panel of these sizes and blocks
pub record Fits (width height limit : ℕ) (block : BlockSize) (buf : Buffer) : Type 0 where
  pub inside : is_within (area_at (pos 0) (pos 0) width height) buf.area ≡ true
  pub small : size_of buf.area ≤ limit
  pub blocks : IsRound (grid_over block (area_at (pos 0) (pos 0) width height)) buf.area

-- an area that a record can tell
pub record IsInside (area : Rect) : Type 0 where
  pub left : pos 0 ≤ℤ area.x1
  pub top : pos 0 ≤ℤ area.y1
  pub columns : area.x1 ≤ℤ area.x2
  pub lines : area.y1 ≤ℤ area.y2
  pub right : area.x2 <ℤ pos 65535
  pub bottom : area.y2 <ℤ pos 65535

-- the bytes are whole records
abbrev pub AreWhole : List ℕ → Type 0
AreWhole bytes = (replayed bytes).kept ≡ []

-- What is so of the bytes that the stream has, between two calls of the panel.
pub record Streams (width height limit : ℕ) (broken : Bool) (bytes : List ℕ) : Type 0 where
  pub whole : broken ≡ false → AreWhole bytes
  -- once the panel is opened a viewer has its sizes
  pub width_is : 0 < limit → (replayed bytes).width ≡ width
  pub height_is : 0 < limit → (replayed bytes).height ≡ height

-- what is so of a panel between two calls
pub record IsStreaming (width height limit : ℕ) (broken : Bool) (held : Option (List ℕ)) : Type 0 where
  pub closed : limit ≡ 0 → width ≡ 0
  pub streams : ForSome held (Streams width height limit broken)

-- the colour that a viewer has at a place
abbrev pub color_seen : Viewer → ℤ → ℤ → Rgb565
color_seen viewer x y = color_at (panel_of viewer.width viewer.height) viewer.pixels x y

-- what a panel of these sizes shows: the colours that a viewer has who replays the bytes
abbrev pub shown_by : ℕ → ℕ → List ℕ → List Rgb565
shown_by width height bytes = picture_of width height (color_seen (replayed bytes))

-- the pictures that a viewer kept who replays the bytes
abbrev pub frames_by : List ℕ → List ℕ
frames_by bytes = (replayed bytes).frames

-- how many pixels of a buffer in flight are still to be written: all of them, since one poll writes them
abbrev pub left_of : Option Buffer → ℕ
left_of None = 0
left_of (Some buf) = size_of buf.area

-- What is known of it as a panel, by what is known of its sink. Where the sink tells its bytes, the panel
-- shows what a viewer sees who replays them, and its frames are the pictures that the viewer has at the
-- marks.
abbrev pub stream_state : {Out : Type 0} → (Out → SinkState) → StreamState Out → PanelState
stream_state out panel = record {
  width = panel.width;
  height = panel.height;
  limit = panel.limit;
  block = panel.block;
  turn = 0;
  shows = option_map (shown_by panel.width panel.height) (out panel.out).held;
  frames = option_map frames_by (out panel.out).held;
  coming = panel.coming;
  left = left_of panel.coming;
  sent = panel.sent;
  waits = 0;
  flush_faults = panel.flush_faults;
  present_faults = panel.present_faults;
}

-- a panel that is not opened
abbrev pub unopened : {Out : Type 0} → Out → StreamState Out
unopened out = record {
  out = out;
  width = 0;
  height = 0;
  limit = 0;
  block = one_pixel;
  broken = false;
  coming = None;
  sent = 0;
  flush_faults = 0;
  present_faults = 0;
}

-- the state, and that a buffer in flight could be started
pub record StreamValue (Out : Type 0) : Type 0 where
  pub state : StreamState Out
  pub flying : ForSome state.coming (Fits state.width state.height state.limit state.block)

-- where a panel tells what it shows, it tells each pixel
pub each_of : (width height : ℕ) (held : Option (List ℕ)) →
    IfSome (option_map (shown_by width height) held) (λ colors. length colors ≡ width * height)
each_of width height None = tt
each_of width height (Some bytes) = length-map-range_with_len _ 0 (width * height)
