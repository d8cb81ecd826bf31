-- How a panel over a bus answers a poll.
use Rattle.std.proofs.Common.{◌≡◌, ◌∙◌, sym, ap, refl, subst, ℕ, ◌+◌, ◌-◌, ◌*◌, ◌<◌, min, true, List, Option, Some, None, arith}
use Rattle.gui_base.specs.Area.{is_within, width_of}
use Rattle.gui_color.specs.Buffer.{Buffer}
use Rattle.gui_edge.specs.Causes.{last_count}
use Rattle.gui_edge.specs.KeepsTelling.{KeepsTelling}
use Rattle.gui_edge.specs.Panel.{PanelState, SameOutside, Arrives, GoesOn, Breaks, area_of}
use Rattle.gui_edge.specs.Sink.{SinkState}
use Rattle.panel_dcs.specs.Bus.{BusState, Feeds, FeedsPrefix}
use Rattle.panel_dcs.specs.Controller.{data_bytes}
use Rattle.panel_dcs.specs.DcsPanel.{DcsState, dcs_state, left_of, IsFlying}
use Rattle.panel_dcs.specs.Polls.{Sides, rows_of, next_row}
use Rattle.panel_dcs.specs.Transfers.{row_bytes, color_bytes}
use Rattle.panel_dcs.specs.Turning.{device, turned_area}
use Rattle.panel_dcs.proofs.Telling.{Sending, shown_arrives, shown_goes_on, shown_breaks}

module _ {Frames Link : Type 0} (frames : Frames → SinkState) (bus : Link → BusState) where
  -- A row failed.
  pub dcs_breaks : (old : DcsState Frames Link) (link : Link) (buf : Buffer) → old.coming ≡ Some buf → Sides old.turned.width old.turned.height buf.area → Sending old.turned buf old.row (bus old.bus).chip →
      FeedsPrefix (bus old.bus) (bus link) (row_bytes (next_row old.turned buf old.row)) →
      Breaks (dcs_state frames bus old) (dcs_state frames bus (record old { bus = link; coming = None })) buf
  dcs_breaks old link buf e s sending h = record {
    was = e;
    is = refl;
    count = h.rose;
    shows = shown_breaks old.turned buf old.row (bus old.bus).chip (bus link).chip h.prefix h.rest s sending h.whole h.feeds.chip;
  }

  -- The last row came through.
  pub dcs_arrives : (old : DcsState Frames Link) (link : Link) (buf : Buffer) (row : ℕ) → old.coming ≡ Some buf → Sides old.turned.width old.turned.height buf.area → is_within (device old.turned) (turned_area old.turned buf.area) ≡ true → old.row + 1 ≡ rows_of old.turned buf.area →
      Sending old.turned buf old.row (bus old.bus).chip → Feeds (bus old.bus) (bus link) (row_bytes (next_row old.turned buf old.row)) → (bus link).faults ≡ (bus old.bus).faults →
      Arrives (dcs_state frames bus old) (dcs_state frames bus (record old { bus = link; coming = None; row = row })) buf
  dcs_arrives old link buf row e s inside last sending h same = record {
    was = e;
    is = ap (λ (n : ℕ). let p : PanelState = record (dcs_state frames bus (record old { bus = link; coming = None; row = row })) { flush_faults = n } in p) same;
    shows = shown_arrives old.turned buf old.row (bus old.bus).chip (bus link).chip s inside last sending h.chip;
  }

  some_left : (rows row w : ℕ) → row + 1 < rows → 0 < w → 0 < (rows - (row + 1)) * w
  some_left rows row w more some = grind arith

  less_left : (rows row w : ℕ) → row + 1 < rows → 0 < w → (rows - (row + 1)) * w < (rows - row) * w
  less_left rows row w more some =
      let one : rows - row ≡ (rows - (row + 1)) + 1 = omega arith in
      rw one (omega arith)

  -- Another row came through.
  pub dcs_goes_on : (old : DcsState Frames Link) (link : Link) (buf : Buffer) → old.coming ≡ Some buf → Sides old.turned.width old.turned.height buf.area → 0 < width_of (turned_area old.turned buf.area) → old.row + 1 < rows_of old.turned buf.area →
      Sending old.turned buf old.row (bus old.bus).chip → Feeds (bus old.bus) (bus link) (row_bytes (next_row old.turned buf old.row)) → (bus link).faults ≡ (bus old.bus).faults →
      GoesOn (dcs_state frames bus old) (dcs_state frames bus (record old { bus = link; row = old.row + 1; waits = min (old.waits + 1) last_count }))
  dcs_goes_on old link buf e s wide more sending h same = record {
    is = ap (λ (n : ℕ). let p : PanelState = record (dcs_state frames bus (record old { bus = link; row = old.row + 1; waits = min (old.waits + 1) last_count })) { flush_faults = n } in p) same;
    some = subst (λ (o : Option Buffer). 0 < left_of old.turned (old.row + 1) o) (sym e) (some_left (rows_of old.turned buf.area) old.row _ more wide);
    less = subst (λ (o : Option Buffer). left_of old.turned (old.row + 1) o < left_of old.turned old.row o) (sym e) (less_left (rows_of old.turned buf.area) old.row _ more wide);
    shows = λ other is.
        subst (λ (b : Buffer). KeepsTelling (dcs_state frames bus old).shows (dcs_state frames bus (record old { bus = link })).shows (SameOutside (area_of (dcs_state frames bus old)) b.area)) (some_same buf other (sym e ∙ is))
        (shown_goes_on old.turned buf old.row (bus old.bus).chip (bus link).chip s sending h.chip);
  }
    where
      some_same : (a b : Buffer) → Some a ≡ Some b → a ≡ b
      some_same a b h = cc

  -- What a call of the bus leaves: the panel that was, as its fields and as it is seen, and the bytes of a row.
  pub poll_breaks : (old now : DcsState Frames Link) (link : Link) (coming : Option Buffer) (buf : Buffer) (bytes : List ℕ) → old ≡ now → old.coming ≡ Some buf → coming ≡ None → IsFlying old.turned old.limit (bus old.bus) old.row buf → bytes ≡ color_bytes (next_row old.turned buf old.row) →
      FeedsPrefix (bus old.bus) (bus link) (data_bytes bytes) → Breaks (dcs_state frames bus now) (dcs_state frames bus (record old { bus = link; coming = coming })) buf
  poll_breaks old now link coming buf bytes same e gone f row h =
      subst (λ (d : DcsState Frames Link). Breaks (dcs_state frames bus d) (dcs_state frames bus (record old { bus = link; coming = coming })) buf) same
      (subst (λ (o : Option Buffer). Breaks (dcs_state frames bus old) (dcs_state frames bus (record old { bus = link; coming = o })) buf) (sym gone)
      (dcs_breaks old link buf e f.sides f.sending (subst (λ (l : List ℕ). FeedsPrefix (bus old.bus) (bus link) (data_bytes l)) row h)))

  pub poll_arrives : (old now : DcsState Frames Link) (link : Link) (coming : Option Buffer) (buf : Buffer) (bytes : List ℕ) (next rows : ℕ) → old ≡ now → old.coming ≡ Some buf → coming ≡ None → IsFlying old.turned old.limit (bus old.bus) old.row buf → bytes ≡ color_bytes (next_row old.turned buf old.row) →
      Feeds (bus old.bus) (bus link) (data_bytes bytes) → (bus link).faults ≡ (bus old.bus).faults → rows ≡ rows_of old.turned buf.area → old.row + 1 ≡ rows →
      Arrives (dcs_state frames bus now) (dcs_state frames bus (record old { bus = link; coming = coming; row = next })) buf
  poll_arrives old now link coming buf bytes next rows same e gone f row h kept all last =
      subst (λ (d : DcsState Frames Link). Arrives (dcs_state frames bus d) (dcs_state frames bus (record old { bus = link; coming = coming; row = next })) buf) same
      (subst (λ (o : Option Buffer). Arrives (dcs_state frames bus old) (dcs_state frames bus (record old { bus = link; coming = o; row = next })) buf) (sym gone)
      (dcs_arrives old link buf next e f.sides f.inside (last ∙ all) f.sending (subst (λ (l : List ℕ). Feeds (bus old.bus) (bus link) (data_bytes l)) row h) kept))

  pub poll_goes_on : (old now : DcsState Frames Link) (link : Link) (coming : Option Buffer) (buf : Buffer) (bytes : List ℕ) (waits rows : ℕ) → old ≡ now → old.coming ≡ Some buf → coming ≡ Some buf → IsFlying old.turned old.limit (bus old.bus) old.row buf → bytes ≡ color_bytes (next_row old.turned buf old.row) →
      Feeds (bus old.bus) (bus link) (data_bytes bytes) → (bus link).faults ≡ (bus old.bus).faults → rows ≡ rows_of old.turned buf.area → (old.row + 1 ≡ rows → ⊥) → waits ≡ min (old.waits + 1) last_count →
      GoesOn (dcs_state frames bus now) (dcs_state frames bus (record old { bus = link; coming = coming; row = old.row + 1; waits = waits }))
  poll_goes_on old now link coming buf bytes waits rows same e stays f row h kept all more count =
      subst (λ (d : DcsState Frames Link). GoesOn (dcs_state frames bus d) (dcs_state frames bus (record old { bus = link; coming = coming; row = old.row + 1; waits = waits }))) same
      (subst (λ (o : Option Buffer). GoesOn (dcs_state frames bus old) (dcs_state frames bus (record old { bus = link; coming = o; row = old.row + 1; waits = waits }))) (e ∙ sym stays)
      (subst (λ (n : ℕ). GoesOn (dcs_state frames bus old) (dcs_state frames bus (record old { bus = link; row = old.row + 1; waits = n }))) (sym count)
      (dcs_goes_on old link buf e f.sides f.wide (let few : old.row < rows_of old.turned buf.area = f.few in omega arith) f.sending (subst (λ (l : List ℕ). Feeds (bus old.bus) (bus link) (data_bytes l)) row h) kept)))
