-- How a panel over a bus is opened.
use Rattle.std.proofs.Common.{◌≡◌, ◌∙◌, sym, ap, refl, subst, ℕ, ◌*◌, ◌/◌, ◌%◌, ◌<◌, ◌≤◌, pos, List, [], map, length, Option, Some, None, arith}
use Rattle.std.specs.List.{range_with_len}
use Rattle.std.proofs.lemmas.List.{length-replicate}
use Rattle.gui_base.specs.declared.color.Rgb565.{Rgb565}
use Rattle.gui_color.specs.Buffer.{Buffer}
use Rattle.gui_edge.specs.KeepsTelling.{KeepsTelling}
use Rattle.gui_edge.specs.Panel as panel
use Rattle.gui_base.specs.Grids.{BlockSize}
use Rattle.gui_edge.specs.Panel.{PanelState, CanOpen}
use Rattle.gui_edge.specs.Sink.{SinkState}
use Rattle.panel_dcs.specs.Bus.{BusState, Opens, StaysClosed, Feeds, FeedsPrefix}
use Rattle.panel_dcs.specs.Controller.{Chip, opened}
use Rattle.panel_dcs.specs.declared.chip.Sent.{Sent}
use Rattle.panel_dcs.specs.DcsPanel.{DcsState, dcs_state, IsDevice, IsReady, IsFlying, IsDcs}
use Rattle.panel_dcs.specs.Transfers.{opening_bytes}
use Rattle.panel_dcs.specs.Turning.{Turned, columns_of, pages_of, color_behind, shown, upright_or}
use Rattle.panel_dcs.specs.declared.turn.Turn.{Turn}
use Rattle.panel_dcs.specs.declared.turn.Turn.TheVariants.{Upright, Quarter, Half, ThreeQuarters}
use Rattle.panel_dcs.proofs.Feeding.{told_then}
use Rattle.panel_dcs.proofs.Starting.{ready_feeds, some_size}
use Rattle.panel_dcs.proofs.Telling.{shows_of}
use Rattle.panel_dcs.proofs.Turns.{length-shown}

abbrev Tells : Option Chip → Option Chip → Type 0
Tells old new = KeepsTelling old new (λ before after. Unit {0})

tells : (old new : Option Chip) (R : Chip → Chip → Type 0) → KeepsTelling old new R → Tells old new
tells None None R h = tt
tells None (Some y) R h = absurd h
tells (Some x) None R h = absurd h
tells (Some x) (Some y) R h = tt

told_len : (t t' : Turned) (old new : Option Chip) → Tells old new → KeepsTelling (shows_of t old) (shows_of t' new) (λ before after. length after ≡ t'.width * t'.height)
told_len t t' None None h = tt
told_len t t' None (Some y) h = absurd h
told_len t t' (Some x) None h = absurd h
told_len t t' (Some x) (Some y) h = length-shown t' y.memory

-- a panel without a pixel shows none
shown_none : (t : Turned) (memory : List Rgb565) → t.width ≡ 0 → shown t memory ≡ []
shown_none t memory e =
    let none : t.width * t.height ≡ 0 = ap (λ (n : ℕ). n * t.height) e ∙ omega arith in
    ap (λ (n : ℕ). map (λ i. color_behind t memory (pos (i % t.width)) (pos (i / t.width))) (range_with_len 0 n)) none

shows_same : (t : Turned) → t.width ≡ 0 → (old new : Option Chip) → Tells old new → shows_of t new ≡ shows_of t old
shows_same t e None None h = refl
shows_same t e None (Some y) h = absurd h
shows_same t e (Some x) None h = absurd h
shows_same t e (Some x) (Some y) h = ap Some (shown_none t y.memory e ∙ sym (shown_none t x.memory e))

-- what is told after an opening whose bytes, or some of them, came through
open_tells : (old mid new : BusState) (columns pages : ℕ) (bytes : List Sent) → Opens old mid columns pages → Feeds mid new bytes → Tells old.chip new.chip
open_tells old mid new columns pages bytes o f = told_then old.chip mid.chip new.chip _ _ _ (λ x y z h k. tt) o.chip f.chip

some_is : {A : Type 0} (a b : A) → Some a ≡ Some b → a ≡ b
some_is a b h = cc

device_opened : (t : Turned) (old mid : Option Chip) → KeepsTelling old mid (λ before after. after ≡ opened (columns_of t) (pages_of t)) → (c : Chip) → mid ≡ Some c → IsDevice t c
device_opened t None None k c e = absurd (cc)
device_opened t None (Some y) k c e = absurd k
device_opened t (Some x) None k c e = absurd k
device_opened t (Some x) (Some y) k c e =
    subst (λ (chip : Chip). IsDevice t chip) (sym k ∙ some_is y c e) (record { columns = refl; pages = refl; len = length-replicate _ _ })

-- A panel that was opened is ready.
pub open_ready : (t : Turned) (old mid new : BusState) (bytes : List Sent) → t.width ≤ 1024 → t.height ≤ 1024 → 0 < columns_of t → Opens old mid (columns_of t) (pages_of t) → Feeds mid new bytes → IsReady t new
open_ready t old mid new bytes width height some o f =
    ready_feeds t mid new bytes (record {
      opened = subst (λ (n : ℕ). 0 < n) (sym (ap (λ (s : BusState). s.columns) o.is)) some;
      columns = ap (λ (s : BusState). s.columns) o.is;
      pages = ap (λ (s : BusState). s.pages) o.is;
      width = width;
      height = height;
      device = device_opened t old.chip mid.chip o.chip;
    }) f

-- nothing is in flight in a panel that is not opened
pub none_comes : (t : Turned) (limit : ℕ) (bus : BusState) (coming : Option Buffer) (row : ℕ) → limit ≡ 0 → IsDcs t limit bus coming row → coming ≡ None
none_comes t limit bus None row e d = refl
none_comes t limit bus (Some buf) row e d = let f = d.flying buf refl in absurd (flown f)
  where
    flown : IsFlying t limit bus row buf → ⊥
    flown f = let some = some_size t limit buf.area f.sides f.small in absurd (omega arith)

-- a panel that stays closed
pub closed_stays : (t : Turned) (limit : ℕ) (old new : BusState) (coming : Option Buffer) (row : ℕ) → limit ≡ 0 → IsDcs t limit old coming row → IsDcs t limit new coming row
closed_stays t limit old new coming row e d =
    let none = none_comes t limit old coming row e d in
    record { closed = d.closed; ready = λ some. absurd (omega arith); flying = λ buf is. absurd (cc) }

some_of : (turn : Turn) (w h : ℕ) → 1 ≤ w → 1 ≤ h → 0 < upright_or turn w h
some_of Upright w h a b = a
some_of Quarter w h a b = b
some_of Half w h a b = a
some_of ThreeQuarters w h a b = b

pub sized : (old mid : BusState) (c c' p p' : ℕ) → c ≡ c' → p ≡ p' → Opens old mid c p → Opens old mid c' p'
sized old mid c c' p p' h k o = subst (λ (n : ℕ). Opens old mid n p') h (subst (λ (n : ℕ). Opens old mid c n) k o)

-- a panel that was opened
pub opened_is : (t : Turned) (limit : ℕ) (old mid new : BusState) (coming : Option Buffer) (row : ℕ) → CanOpen t.width t.height limit → coming ≡ None → Opens old mid (columns_of t) (pages_of t) → Feeds mid new opening_bytes → IsDcs t limit new coming row
opened_is t limit old mid new coming row can none o f =
    let least = can.least_limit in
    let some = can.some_width in
    record {
      closed = λ e. absurd (omega arith);
      ready = λ l. open_ready t old mid new opening_bytes can.most_width can.most_height (some_of t.turn t.width t.height can.some_width can.some_height) o f;
      flying = λ buf is. absurd (cc);
    }

module _ {Frames Link : Type 0} (frames : Frames → SinkState) (bus : Link → BusState) where
  pub dcs_opens : (old now : DcsState Frames Link) (mid : BusState) (link : Link) (t : Turned) (limit : ℕ) (block : BlockSize) → old ≡ now → old.turned.turn ≡ t.turn → old.coming ≡ None → Opens (bus old.bus) mid (columns_of t) (pages_of t) → Feeds mid (bus link) opening_bytes → (bus link).faults ≡ mid.faults →
      panel.Opens (dcs_state frames bus now) (dcs_state frames bus (record old { bus = link; turned = t; limit = limit; block = block })) t.width t.height limit block
  dcs_opens old now mid link t limit block same stays none o f kept =
      subst (λ (d : DcsState Frames Link). panel.Opens (dcs_state frames bus d) (dcs_state frames bus (record old { bus = link; turned = t; limit = limit; block = block })) t.width t.height limit block) same
      (record {
        is = ap (λ (n : ℕ). let p : PanelState = record (dcs_state frames bus (record old { bus = link; turned = t; limit = limit; block = block })) { flush_faults = n } in p) (kept ∙ ap (λ (s : BusState). s.faults) o.is) ∙ rw (none, stays) refl;
        shows = told_len old.turned t (bus old.bus).chip (bus link).chip (open_tells (bus old.bus) mid (bus link) _ _ _ o f);
      })

  closed_is : (old now : DcsState Frames Link) (link : Link) → old ≡ now → old.limit ≡ 0 → old.turned.width ≡ 0 → Tells (bus old.bus).chip (bus link).chip → (bus old.bus).faults ≤ (bus link).faults → panel.StaysClosed (dcs_state frames bus now) (dcs_state frames bus (record old { bus = link }))
  closed_is old now link same e none h rose =
      subst (λ (d : DcsState Frames Link). panel.StaysClosed (dcs_state frames bus d) (dcs_state frames bus (record old { bus = link }))) same
      (record {
        is = ap (λ (o : Option (List Rgb565)). let p : PanelState = record (dcs_state frames bus (record old { bus = link })) { shows = o } in p) (shows_same old.turned none (bus old.bus).chip (bus link).chip h)
            ∙ ap (λ (n : ℕ). let p : PanelState = record (dcs_state frames bus (record old { bus = link })) { shows = shows_of old.turned (bus old.bus).chip; limit = n } in p) e;
        flush_faults = rose;
      })

  -- the bus was not opened
  pub bus_closed : (old now : DcsState Frames Link) (link : Link) → old ≡ now → old.limit ≡ 0 → (old.limit ≡ 0 → old.turned.width ≡ 0) → StaysClosed (bus old.bus) (bus link) → (bus old.bus).faults ≤ (bus link).faults → panel.StaysClosed (dcs_state frames bus now) (dcs_state frames bus (record old { bus = link }))
  bus_closed old now link same e none s rose = closed_is old now link same e (none e) (tells (bus old.bus).chip (bus link).chip _ s.chip) rose

  -- what comes first failed
  pub opening_failed : (old now : DcsState Frames Link) (mid : BusState) (link : Link) (columns pages : ℕ) → old ≡ now → old.limit ≡ 0 → (old.limit ≡ 0 → old.turned.width ≡ 0) → Opens (bus old.bus) mid columns pages → FeedsPrefix mid (bus link) opening_bytes →
      panel.StaysClosed (dcs_state frames bus now) (dcs_state frames bus (record old { bus = link })) × ((bus old.bus).faults < (bus link).faults)
  opening_failed old now mid link columns pages same e none o f =
      let kept : mid.faults ≡ (bus old.bus).faults = ap (λ (s : BusState). s.faults) o.is in
      let rose : mid.faults < (bus link).faults = f.rose in
      (closed_is old now link same e (none e) (open_tells (bus old.bus) mid (bus link) _ _ _ o f.feeds) (omega arith), omega arith)
