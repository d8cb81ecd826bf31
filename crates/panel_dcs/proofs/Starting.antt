-- What is so of a panel over a bus between two calls, and how it starts a transfer.
use Rattle.std.proofs.Common.{◌≡◌, ◌∙◌, sym, ap, refl, subst, ℕ, ◌+◌, ◌*◌, ◌<◌, ◌≤◌, min, pos, true, List, [], ◌++◌, append-nil, Option, Some, None, arith}
use Rattle.std.proofs.lemmas.Int.{ints}
use Rattle.std.proofs.lemmas.Bool.Decides.{nat_tests}
use Rattle.gui_base.specs.Area.{Rect, area_at, is_within, width_of, height_of, size_of}
use Rattle.gui_color.specs.Buffer.{Buffer}
use Rattle.gui_edge.specs.Causes.{last_count}
use Rattle.gui_edge.specs.KeepsTelling.{KeepsTelling}
use Rattle.gui_edge.specs.Panel.{CanStart, Starts, Started, StartFailed}
use Rattle.gui_edge.specs.Sink.{SinkState}
use Rattle.panel_dcs.specs.Bus.{BusState, Feeds, FeedsPrefix}
use Rattle.panel_dcs.specs.Controller.{Chip, fed, data_bytes}
use Rattle.panel_dcs.specs.declared.chip.Sent.{Sent}
use Rattle.panel_dcs.specs.declared.chip.Window.{Window}
use Rattle.panel_dcs.specs.DcsPanel.{DcsState, dcs_state, IsDevice, IsReady, IsFlying, IsDcs}
use Rattle.panel_dcs.specs.Polls.{Sides, rows_of, next_row, window_of, IsSending}
use Rattle.panel_dcs.specs.Transfers.{color_bytes, start_bytes}
use Rattle.panel_dcs.specs.Turning.{Turned, columns_of, pages_of, panel_of, turned_area}
use Rattle.panel_dcs.proofs.Polling.{sides, turned_sides, started_sends}
use Rattle.panel_dcs.proofs.Buses.{fed_columns, fed_pages, fed_length}
use Rattle.panel_dcs.proofs.Sizing.{few_of, rows_size}
use Rattle.panel_dcs.proofs.Telling.{sends_on, shown_starts}

pub some_is : {A : Type 0} (a b : A) → Some a ≡ Some b → a ≡ b
some_is a b h = cc

-- The controller stays one of the device, whatever bytes come.
device_on : (t : Turned) (old new : Option Chip) (bytes : List Sent) → ((c : Chip) → old ≡ Some c → IsDevice t c) → KeepsTelling old new (λ before after. after ≡ fed before bytes) → (c : Chip) → new ≡ Some c → IsDevice t c
device_on t None None bytes d k c e = absurd (cc)
device_on t None (Some y) bytes d k c e = absurd k
device_on t (Some x) None bytes d k c e = absurd k
device_on t (Some x) (Some y) bytes d k c e =
    let was = d x refl in
    subst (λ (chip : Chip). IsDevice t chip) (sym k ∙ some_is y c e)
    (record { columns = fed_columns x bytes ∙ was.columns; pages = fed_pages x bytes ∙ was.pages; len = fed_length x bytes ∙ was.len })

pub ready_feeds : (t : Turned) (old new : BusState) (bytes : List Sent) → IsReady t old → Feeds old new bytes → IsReady t new
ready_feeds t old new bytes r h = record {
  opened = subst (λ (n : ℕ). 0 < n) (sym (ap (λ (s : BusState). s.columns) h.is)) r.opened;
  columns = ap (λ (s : BusState). s.columns) h.is ∙ r.columns;
  pages = ap (λ (s : BusState). s.pages) h.is ∙ r.pages;
  width = r.width;
  height = r.height;
  device = device_on t old.chip new.chip bytes r.device h.chip;
}

-- nothing is in flight then
pub none_flies : (t : Turned) (limit : ℕ) → (limit ≡ 0 → t.width ≡ 0) → (old new : BusState) (bytes : List Sent) (coming : Option Buffer) (row : ℕ) → coming ≡ None → (0 < limit → IsReady t old) → Feeds old new bytes → IsDcs t limit new coming row
none_flies t limit closed old new bytes coming row gone r h = record { closed = closed; ready = λ some. ready_feeds t old new bytes (r some) h; flying = λ buf is. absurd (cc) }

-- the next row flies
pub next_flies : (t : Turned) (limit : ℕ) → (limit ≡ 0 → t.width ≡ 0) → (old new : BusState) (row rows : ℕ) (coming : Option Buffer) (buf : Buffer) (bytes : List ℕ) → coming ≡ Some buf → IsFlying t limit old row buf → bytes ≡ color_bytes (next_row t buf row) → Feeds old new (data_bytes bytes) → rows ≡ rows_of t buf.area → (row + 1 ≡ rows → ⊥) → IsDcs t limit new coming (row + 1)
next_flies t limit closed old new row rows coming buf bytes is f same h all more = record {
  closed = closed;
  ready = λ some. ready_feeds t old new (data_bytes bytes) f.ready h;
  flying = λ other is'.
      let few : row < rows_of t buf.area = f.few in
      let less : row + 1 < rows_of t buf.area = omega arith in
      subst (λ (b : Buffer). IsFlying t limit new (row + 1) b) (some_is buf other (sym is ∙ is'))
      (record {
        ready = ready_feeds t old new (data_bytes bytes) f.ready h;
        sides = f.sides;
        small = f.small;
        inside = f.inside;
        wide = f.wide;
        few = less;
        rows = f.rows;
        sending = sends_on t buf row old.chip new.chip f.sides less f.sending (subst (λ (l : List ℕ). Feeds old new (data_bytes l)) same h).chip;
      });
}

-- An area whose sides lie in a panel lies in it.
within_of : (columns pages : ℕ) (area : Rect) → Sides columns pages area → is_within (area_at (pos 0) (pos 0) columns pages) area ≡ true
within_of columns pages area s =
    let a = s.left in let b = s.top in let c = s.columns in let d = s.lines in let e = s.right in let f = s.bottom in
    grind (arith, ints, nat_tests)

record HasSize (columns pages : ℕ) (area : Rect) : Type 0 where
  wide : 0 < width_of area
  high : 0 < height_of area
  rows : height_of area ≤ pages

has_size : (columns pages : ℕ) (area : Rect) → Sides columns pages area → HasSize columns pages area
has_size columns pages area s =
    let a = s.left in let b = s.top in let c = s.columns in let d = s.lines in let e = s.right in let f = s.bottom in
    record { wide = grind (arith, ints); high = grind (arith, ints); rows = grind (arith, ints) }

positive : (a b : ℕ) → 0 < a → 0 < b → 0 < a * b
positive a b h k = grind arith

-- A panel that may start a transfer is opened.
pub has_limit : (t : Turned) (limit : ℕ) (area : Rect) → is_within (panel_of t) area ≡ true → size_of area ≤ limit → 0 < limit
has_limit t limit area inside small =
    let z = has_size t.width t.height area (sides t area inside) in
    let some : 0 < size_of area = positive (width_of area) (height_of area) z.wide z.high in
    omega arith

pub some_size : (t : Turned) (limit : ℕ) (area : Rect) → Sides t.width t.height area → size_of area ≤ limit → 0 < limit
some_size t limit area s small =
    let z = has_size t.width t.height area s in
    let some : 0 < size_of area = positive (width_of area) (height_of area) z.wide z.high in
    omega arith

first_sends : (t : Turned) (buf : Buffer) (old new : Option Chip) → Sides t.width t.height buf.area → columns_of t ≤ 65536 → pages_of t ≤ 65536 → ((c : Chip) → old ≡ Some c → IsDevice t c) → KeepsTelling old new (λ before after. after ≡ fed before (start_bytes (window_of t buf.area))) → (c : Chip) → new ≡ Some c → IsSending t buf 0 c
first_sends t buf None None s few many d k c e = absurd (cc)
first_sends t buf None (Some y) s few many d k c e = absurd k
first_sends t buf (Some x) None s few many d k c e = absurd k
first_sends t buf (Some x) (Some y) s few many d k c e =
    let was = d x refl in
    subst (λ (chip : Chip). IsSending t buf 0 chip) (sym k ∙ some_is y c e)
    (started_sends t buf x s few many was.columns was.pages was.len)

-- A buffer that was started flies.
pub start_flies : (t : Turned) (limit : ℕ) → (limit ≡ 0 → t.width ≡ 0) → (old new : BusState) (coming : Option Buffer) (buf : Buffer) (w : Window) → coming ≡ Some buf → (0 < limit → IsReady t old) → is_within (panel_of t) buf.area ≡ true → size_of buf.area ≤ limit → w ≡ window_of t buf.area → Feeds old new (start_bytes w) → IsDcs t limit new coming 0
start_flies t limit closed old new coming buf w is ready inside small same h =
    let r = ready (has_limit t limit buf.area inside small) in
    let s = sides t buf.area inside in
    let d = turned_sides t.turn t buf.area s in
    let z = has_size (columns_of t) (pages_of t) (turned_area t buf.area) d in
    let few : columns_of t ≤ 1024 = few_of t.turn t.width t.height r.width r.height in
    let many : pages_of t ≤ 1024 = few_of t.turn t.height t.width r.height r.width in
    let h' : Feeds old new (start_bytes (window_of t buf.area)) = subst (λ (v : Window). Feeds old new (start_bytes v)) same h in
    let rows = z.rows in
    record {
      closed = closed;
      ready = λ some. ready_feeds t old new (start_bytes w) r h;
      flying = λ other is'. subst (λ (b : Buffer). IsFlying t limit new 0 b) (some_is buf other (sym is ∙ is'))
          (record {
            ready = ready_feeds t old new (start_bytes w) r h;
            sides = s;
            small = small;
            inside = within_of (columns_of t) (pages_of t) (turned_area t buf.area) d;
            wide = z.wide;
            few = z.high;
            rows = omega arith;
            sending = first_sends t buf old.chip new.chip s (omega arith) (omega arith) r.device h'.chip;
          });
    }

module _ {Frames Link : Type 0} (frames : Frames → SinkState) (bus : Link → BusState) where
  pub can_start : (old now : DcsState Frames Link) (buf : Buffer) → old ≡ now → CanStart (dcs_state frames bus now) buf → CanStart (dcs_state frames bus old) buf
  can_start old now buf same h = subst (λ (d : DcsState Frames Link). CanStart (dcs_state frames bus d) buf) (sym same) h

  -- what each start does, by the bytes of it that came through
  pub dcs_starts : (old now : DcsState Frames Link) (link : Link) (coming : Option Buffer) (row sent : ℕ) (buf : Buffer) (w : Window) (prefix rest : List Sent) → old ≡ now → sent ≡ min (old.sent + size_of buf.area) last_count → prefix ++ rest ≡ start_bytes w → Feeds (bus old.bus) (bus link) prefix →
      Starts (dcs_state frames bus now) (dcs_state frames bus (record old { bus = link; coming = coming; row = row; sent = sent })) buf
  dcs_starts old now link coming row sent buf w prefix rest same count whole h =
      subst (λ (d : DcsState Frames Link). Starts (dcs_state frames bus d) (dcs_state frames bus (record old { bus = link; coming = coming; row = row; sent = sent })) buf) same
      (subst (λ (n : ℕ). Starts (dcs_state frames bus old) (dcs_state frames bus (record old { bus = link; coming = coming; row = row; sent = n })) buf) (sym count)
      (record { is = refl; shows = shown_starts old.turned buf.area w (bus old.bus).chip (bus link).chip prefix rest whole h.chip }))

  pub all_starts : (old now : DcsState Frames Link) (link : Link) (coming : Option Buffer) (row sent : ℕ) (buf : Buffer) (w : Window) → old ≡ now → sent ≡ min (old.sent + size_of buf.area) last_count → Feeds (bus old.bus) (bus link) (start_bytes w) →
      Starts (dcs_state frames bus now) (dcs_state frames bus (record old { bus = link; coming = coming; row = row; sent = sent })) buf
  all_starts old now link coming row sent buf w same count h = dcs_starts old now link coming row sent buf w (start_bytes w) [] same count (append-nil (start_bytes w)) h

  -- the buffer is in flight
  pub dcs_started : (old now : DcsState Frames Link) (link : Link) (coming : Option Buffer) (sent : ℕ) (buf : Buffer) → old ≡ now → coming ≡ Some buf → (bus link).faults ≡ (bus old.bus).faults →
      Started (dcs_state frames bus now) (dcs_state frames bus (record old { bus = link; coming = coming; row = 0; sent = sent })) buf
  dcs_started old now link coming sent buf same is kept =
      subst (λ (d : DcsState Frames Link). Started (dcs_state frames bus d) (dcs_state frames bus (record old { bus = link; coming = coming; row = 0; sent = sent })) buf) same
      (subst (λ (o : Option Buffer). Started (dcs_state frames bus old) (dcs_state frames bus (record old { bus = link; coming = o; row = 0; sent = sent })) buf) (sym is)
      (record { coming = refl; left = rows_size old.turned buf.area; count = kept }))

  -- the start failed
  pub dcs_unstarted : (old now : DcsState Frames Link) (link : Link) (sent : ℕ) (buf : Buffer) (w : Window) → old ≡ now → now.coming ≡ None → FeedsPrefix (bus old.bus) (bus link) (start_bytes w) →
      StartFailed (dcs_state frames bus now) (dcs_state frames bus (record old { bus = link; sent = sent })) buf buf
  dcs_unstarted old now link sent buf w same free h =
      let none : old.coming ≡ None = ap (λ (d : DcsState Frames Link). d.coming) same ∙ free in
      subst (λ (d : DcsState Frames Link). StartFailed (dcs_state frames bus d) (dcs_state frames bus (record old { bus = link; sent = sent })) buf buf) same
      (record { back_is = refl; coming = none; left = rw none refl; count = h.rose })
