-- What a pump comes to, by what happened, and a refresh by its pumps.
use Rattle.std.proofs.Common.{◌≡◌, ◌∙◌, refl, sym, ap, subst, ℕ, zero, suc, ◌+◌, ◌<◌, ℤ, true, false, Bool, List, [], ◌∷◌, length, inl, inr, ◌⊎◌, arith}
use Rattle.std.specs.Prelude.{Some, None, is_some, nat_lt}
use Rattle.std.specs.declared.option.Option.{Option}
use Rattle.std.specs.Option.{ForSome}
use Rattle.std.proofs.lemmas.Bool.{or_left}
use Rattle.std.proofs.lemmas.Bool.Decides.{nat_tests}
use Rattle.std.proofs.lemmas.List.{nil_from_length}
use Rattle.gui_base.specs.declared.color.Rgb565.{Rgb565}
use Rattle.gui_base.specs.Area.{Rect, has, size_of, is_within}
use Rattle.gui_base.specs.Grids.{BlockSize, grid_over}
use Rattle.gui_base.specs.Rounding.{IsRound}
use Rattle.gui_color.specs.Buffer.{Buffer}
use Rattle.gui_edge.specs.Panel.{PanelState, area_of, CanStart}
use Rattle.gui_damage.specs.Adding.{added, AddsAll}
use Rattle.gui_damage.specs.Joining.{JoinsAll}
use Rattle.gui_damage.specs.Pending.{Pending, IsPending, covered, total}
use Rattle.gui_damage.proofs.Debts.{adds_all}
use Rattle.gui_damage.proofs.Joins.{keeps_pixels}
use Rattle.gui_damage.proofs.Listed.{and_both}
use Rattle.gui_refresh.specs.Stages.{Refreshing, Stage, stage, CanRefresh, grid_with, drawn_size, work, progress_of}
use Rattle.gui_refresh.specs.Steps.{ArrivedStep, BrokenStep, GoesOnStep, StartedStep, UnstartedStep, DrawnStep, UndrawnStep, StartAnswer, FlightAnswer}
use Rattle.gui_refresh.specs.Refreshes.{Keeps, Counts, IsAtRest, RefreshesAt, PumpsAt}
use Rattle.gui_refresh.specs.declared.Refreshed.TheVariants.{Done, Fault as Stopped}
use Rattle.gui_refresh.proofs.Agreement.{shows_at_rest}
use Rattle.gui_refresh.proofs.Steps.{IsSound, Quiet, quiet_more, keeps_quiet, keeps_after, first_pixel, some_size, is_there, is_gone, drawn_inside}
use Rattle.gui_refresh.proofs.Steps.{quiet_arrived, quiet_waiting, quiet_started, quiet_drawn, quiet_joined, keeps_broken, keeps_unstarted, work_arrived, work_waiting, work_started, work_joined, work_drawn}
use Rattle.owed_defs.specs.Progress.{at_rest, one_if}
use Rattle.owed_defs.specs.declared.Pumped.{Pumped}
use Rattle.owed_defs.specs.declared.Pumped.TheVariants.{Idle, Moved, Waiting, Fault}

-- a stage with this refresher and this list
stage_of : (s : Stage) (r : Refreshing) (d : Pending) → s.refresher ≡ r → s.pending ≡ d → stage r s.panel d ≡ s
stage_of s r d a b = sym (ap (λ (r : Refreshing). stage r s.panel s.pending) a ∙ ap (λ (d : Pending). stage r s.panel d) b)

some_total : (areas : List Rect) → 0 < total areas → nat_lt 0 (length areas) ≡ true
some_total [] h = absurd (omega arith)
some_total (a ∷ rest) h = grind (arith, nat_tests)

pub some_covered : (areas : List Rect) (x y : ℤ) → covered areas x y ≡ true → nat_lt 0 (length areas) ≡ true
some_covered [] x y h = cc
some_covered (a ∷ rest) x y h = grind (arith, nat_tests)

no_areas : (areas : List Rect) → areas ≡ [] → nat_lt 0 (length areas) ≡ false
no_areas areas h = rw h refl

three : {a b c : Bool} → a ≡ false → b ≡ false → c ≡ false → record { pending = a; drawn = b; flying = c } ≡ at_rest
three x y z = rw (x, y, z) refl

pub rest_of : (now : Stage) → IsAtRest now → progress_of now ≡ at_rest
rest_of now h = three (no_areas now.pending.areas h.pending) (is_gone now.refresher.drawn h.drawn) (is_gone now.panel.coming h.coming)

none_before : (n : ℕ) → (0 < n → ⊥) → n ≡ 0
none_before zero h = refl
none_before (suc n) h = absurd (h (omega arith))

-- a slice of the panel was added again
adds_again : (now : Stage) (area : Rect) → CanRefresh now → IsPending now.pending → is_within (area_of now.panel) area ≡ true → AddsAll now.pending (added now.pending area) (area ∷ [])
adds_again now area can sound inside = adds_all (area ∷ []) now.pending sound (and_both _ _ (subst (λ (p : Rect). is_within p area ≡ true) (sym can.area) inside) refl)

-- it is listed beside what was listed before
listed_again : (d : Pending) (area : Rect) → AddsAll d (added d area) (area ∷ []) → added d area ≡ added (record (added d area) { areas = d.areas }) area
listed_again d area adds = ap (λ (panel : Rect). added (record { panel = panel; areas = d.areas }) area) (sym adds.panel)

above_zero : (n : ℕ) → nat_lt 0 n ≡ true → 0 < n
above_zero n h = grind (arith, nat_tests)

-- the counts of steps
counts_none : (old : Stage) (r : Refreshing) (d : Pending) → r.drawn ≡ old.refresher.drawn → Counts old (stage r old.panel d) 0 0
counts_none old r d same = record { asked = 0; sent = omega arith; waited = omega arith; moved = λ m all h. omega (arith, h, ap (λ (o : Option Buffer). one_if (is_some o)) same) }

pub counts_more : (a b c : Stage) (m n v w : ℕ) → Counts a b m v → Counts b c n w → Counts a c (m + n) (v + w)
counts_more a b c m n v w h k =
    let hs = h.sent in
    let ks = k.sent in
    let hw = h.waited in
    let kw = k.waited in
    record {
      asked = h.asked + k.asked;
      sent = omega arith;
      waited = omega arith;
      moved = λ x all t. let last = k.moved (x + m) (all + h.asked) (h.moved x all t) in omega (arith, last);
    }

module _ (color : ℤ → ℤ → Rgb565) (old : Stage) (h : IsSound old) where
  abbrev r : Refreshing
  r = old.refresher

  abbrev p : PanelState
  p = old.panel

  -- the transfer has ended
  pub pump_arrived : (new : Stage) → ArrivedStep old new → PumpsAt color old new Moved
  pump_arrived new step =
      let a = step.arrives in
      let q = new.panel in
      let there = is_there p.coming step.buf a.was in
      let gone = is_gone q.coming (ap (λ (s : PanelState). s.coming) a.is) in
      subst (λ (s : Stage). PumpsAt color old s Moved) (stage_of new _ _ step.refresher step.pending) (record {
        step = inl (record { buf = step.buf; arrives = a; refresher = refl; pending = refl });
        keeps = keeps_quiet color old _ (quiet_arrived color r p old.pending h q step.buf a);
        leaves = (work_arrived color r p old.pending h q step.buf a, ap (λ (s : PanelState). s.flush_faults) a.is);
        pumping = inr (inr (record { was = there; pending = refl; drawn = refl; flying = gone }));
        counts = record {
          asked = 0;
          sent = omega (arith, ap (λ (s : PanelState). s.sent) a.is);
          waited = omega (arith, ap (λ (s : PanelState). s.waits) a.is);
          moved = λ m all t. omega (arith, t, ap one_if there, ap one_if gone);
        };
      })

  -- it failed
  pub pump_broken : (new : Stage) → BrokenStep old new → PumpsAt color old new Fault
  pump_broken new step =
      let a = step.breaks in
      let q = new.panel in
      let there = is_there p.coming step.buf a.was in
      let gone = is_gone q.coming (ap (λ (s : PanelState). s.coming) a.is) in
      let inside = (h.flying step.buf a.was).inside in
      let adds = adds_again old step.buf.area h.can step.sound inside in
      let covers : (x y : ℤ) → has step.buf.area x y ≡ true → covered (added old.pending step.buf.area).areas x y ≡ true = λ x y i. adds.covers x y (or_left (has step.buf.area x y) false i) in
      let again = some_covered (added old.pending step.buf.area).areas _ _ (covers step.buf.area.x1 step.buf.area.y1 (first_pixel (area_of p) step.buf.area inside)) in
      subst (λ (s : Stage). PumpsAt color old s Fault) (stage_of new _ _ step.refresher step.pending) (record {
        step = inl (record { buf = step.buf; breaks = a; refresher = refl; pending = refl; sound = step.sound });
        keeps = keeps_broken color r p old.pending h q (added old.pending step.buf.area) step.buf a adds;
        leaves = record {
          before = p;
          buf = step.buf;
          left = old.pending.areas;
          faults = refl;
          fails = inr a;
          rose = a.count;
          some = some_size (area_of p) step.buf.area inside;
          sent = omega (arith, ap (λ (s : PanelState). s.sent) a.is);
          listed = listed_again old.pending step.buf.area adds;
          pending = above_zero _ again;
          again = covers;
          free = omega arith;
        };
        pumping = (again, inr there);
        counts = record {
          asked = 0;
          sent = omega (arith, ap (λ (s : PanelState). s.sent) a.is);
          waited = omega (arith, ap (λ (s : PanelState). s.waits) a.is);
          moved = λ m all t. omega (arith, t, ap one_if there, ap one_if gone);
        };
      })

  -- the drawn buffer was started
  pub pump_begun : (new : Stage) → p.coming ≡ None → StartedStep old new → PumpsAt color old new Moved
  pump_begun new free step =
      let s = step.starts in
      let a = step.started in
      let q = new.panel in
      let there = is_there r.drawn step.buf step.was in
      let still = is_gone p.coming free in
      let flies = is_there q.coming step.buf a.coming in
      let some = some_size (area_of p) step.buf.area (drawn_inside old step.buf h step.was) in
      subst (λ (t : Stage). PumpsAt color old t Moved) (stage_of new _ _ step.refresher step.pending) (record {
        step = inr (inl (free, record { buf = step.buf; was = step.was; starts = s; started = a; refresher = refl; pending = refl }));
        keeps = keeps_quiet color old _ (quiet_started color r p old.pending h q step.buf step.was free s a);
        leaves = (work_started color r p old.pending h q step.buf step.was free a, a.count);
        pumping = inr (inl (record { was = there; free = still; pending = refl; drawn = refl; flying = flies }));
        counts = record {
          asked = size_of step.buf.area;
          sent = omega (arith, ap (λ (t : PanelState). t.sent) s.is);
          waited = omega (arith, ap (λ (t : PanelState). t.waits) s.is);
          moved = λ m all t. omega (arith, t, some, ap one_if there, ap one_if still, ap one_if flies);
        };
      })

  -- it was handed back
  pub pump_unstarted : (new : Stage) → p.coming ≡ None → UnstartedStep old new → PumpsAt color old new Fault
  pump_unstarted new free step =
      let s = step.starts in
      let a = step.failed in
      let q = new.panel in
      let there = is_there r.drawn step.buf step.was in
      let still = is_gone p.coming free in
      let gone = is_gone q.coming a.coming in
      let inside = drawn_inside old step.buf h step.was in
      let some = some_size (area_of p) step.buf.area inside in
      let adds = adds_again old step.buf.area h.can step.sound inside in
      let covers : (x y : ℤ) → has step.buf.area x y ≡ true → covered (added old.pending step.buf.area).areas x y ≡ true = λ x y i. adds.covers x y (or_left (has step.buf.area x y) false i) in
      let again = some_covered (added old.pending step.buf.area).areas _ _ (covers step.buf.area.x1 step.buf.area.y1 (first_pixel (area_of p) step.buf.area inside)) in
      subst (λ (t : Stage). PumpsAt color old t Fault) (stage_of new _ _ step.refresher step.pending) (record {
        step = inr (free, record { buf = step.buf; back = step.back; was = step.was; starts = s; failed = a; refresher = refl; pending = refl; sound = step.sound });
        keeps = keeps_unstarted color r p old.pending h q (added old.pending step.buf.area) step.buf step.back step.was free s a adds;
        leaves = record {
          before = p;
          buf = step.buf;
          left = old.pending.areas;
          faults = refl;
          fails = inl (s, record { back_is = refl; coming = a.coming; left = a.left; count = a.count });
          rose = a.count;
          some = some;
          sent = omega (arith, ap (λ (t : PanelState). t.sent) s.is, ap drawn_size step.was);
          listed = listed_again old.pending step.buf.area adds;
          pending = above_zero _ again;
          again = covers;
          free = omega arith;
        };
        pumping = (again, inl there);
        counts = record {
          asked = size_of step.buf.area;
          sent = omega (arith, ap (λ (t : PanelState). t.sent) s.is);
          waited = omega (arith, ap (λ (t : PanelState). t.waits) s.is);
          moved = λ m all t. omega (arith, t, some, ap one_if there, ap one_if still, ap one_if gone);
        };
      })

  -- where a transfer is in flight and a buffer is free, no drawn one waits
  pub none_drawn : (buf : Buffer) → p.coming ≡ Some buf → 0 < r.free → r.drawn ≡ None
  none_drawn buf was free = go r.drawn h.refresher.two where
    on : one_if r.started ≡ 1
    on = ap one_if (h.can.started ∙ is_there p.coming buf was)

    go : (o : Option Buffer) → r.free + one_if (is_some o) + one_if r.started ≡ 2 → o ≡ None
    go None two = refl
    go (Some b) two = absurd (omega (arith, on))

  -- a transfer goes on
  sound_on : (mid : Stage) (buf : Buffer) → p.coming ≡ Some buf → GoesOnStep old mid → IsSound (stage r mid.panel old.pending)
  sound_on mid buf was step =
      let quiet = quiet_waiting color r p old.pending h mid.panel buf was step.goes_on in
      let on : mid.panel.coming ≡ p.coming = ap (λ (s : PanelState). s.coming) step.goes_on.is in
      record {
        can = quiet.can;
        refresher = h.refresher;
        flying = λ b e. let f = h.flying b (sym on ∙ e) in record {
          inside = subst (λ (a : Rect). is_within a b.area ≡ true) (sym (ap area_of step.goes_on.is)) f.inside;
          small = omega (arith, f.small, ap (λ (s : PanelState). s.limit) step.goes_on.is);
          blocks = subst (λ (k : BlockSize). IsRound (grid_over k (area_of mid.panel)) b.area) (sym (ap (λ (s : PanelState). s.block) step.goes_on.is)) f.blocks;
        };
      }

  -- it goes on, and a slice was drawn
  pub pump_beside : (mid : Stage) (s : Refreshing) (e : Pending) (buf : Buffer) → p.coming ≡ Some buf → GoesOnStep old mid → DrawnStep color mid.refresher s mid.pending e → PumpsAt color old (stage s mid.panel e) Moved
  pump_beside mid s e buf was step drawing =
      let k = subst (λ (d : Pending). DrawnStep color r s d e) step.pending (subst (λ (t : Refreshing). DrawnStep color t s mid.pending e) step.refresher drawing) in
      let less = k.one_less in
      let none = none_drawn buf was (omega arith) in
      let a = step.goes_on in
      let wait = quiet_waiting color r p old.pending h mid.panel buf was a in
      let sound = sound_on mid buf was step in
      let draw = quiet_drawn color r mid.panel old.pending sound s e none k in
      let first = work_waiting color r p old.pending h mid.panel a in
      let second = work_drawn color r mid.panel old.pending sound s e none k in
      let sizes = k.takes.sizes in
      let some = k.takes.some in
      let there : is_some s.drawn ≡ true = ap (λ (t : Refreshing). is_some t.drawn) k.refresher in
      let flies : is_some mid.panel.coming ≡ is_some p.coming = ap (λ (t : PanelState). is_some t.coming) a.is in
      record {
        step = inr (inr (inl (record { goes_on = a; drawn = k })));
        keeps = keeps_quiet color old _ (quiet_more color old _ _ wait draw);
        leaves = (omega (arith, first, second), ap (λ (t : PanelState). t.flush_faults) a.is);
        pumping = inl (record { was = some_total old.pending.areas (omega arith); room = is_gone r.drawn none; drawn = there; flying = flies });
        counts = record {
          asked = 0;
          sent = omega (arith, ap (λ (t : PanelState). t.sent) a.is);
          waited = omega (arith, ap (λ (t : PanelState). t.waits) a.is);
          moved = λ m all t. omega (arith, t, ap one_if there, ap one_if flies, ap one_if (is_gone r.drawn none));
        };
      }

  -- it goes on, and nothing else could be done
  pub pump_waiting : (mid : Stage) (s : Refreshing) (e : Pending) (buf : Buffer) → p.coming ≡ Some buf → GoesOnStep old mid → UndrawnStep mid.refresher s mid.pending e → PumpsAt color old (stage s mid.panel e) Waiting
  pump_waiting mid s e buf was step undrawn =
      let k = subst (λ (d : Pending). UndrawnStep r s d e) step.pending (subst (λ (t : Refreshing). UndrawnStep t s mid.pending e) step.refresher undrawn) in
      let a = step.goes_on in
      let flies : is_some mid.panel.coming ≡ is_some p.coming = ap (λ (t : PanelState). is_some t.coming) a.is in
      subst (λ (t : Stage). PumpsAt color old t Waiting) (stage_of (stage s mid.panel e) r old.pending k.refresher k.pending) (record {
        step = record { goes_on = a; undrawn = record { refresher = refl; pending = refl; why = k.why } };
        keeps = keeps_quiet color old _ (quiet_waiting color r p old.pending h mid.panel buf was a);
        leaves = (work_waiting color r p old.pending h mid.panel a, ap (λ (t : PanelState). t.flush_faults) a.is);
        pumping = (ap (λ b. record { pending = nat_lt 0 (length old.pending.areas); drawn = is_some r.drawn; flying = b }) flies, is_there p.coming buf was);
        counts = record {
          asked = 0;
          sent = omega (arith, ap (λ (t : PanelState). t.sent) a.is);
          waited = omega (arith, ap (λ (t : PanelState). t.waits) a.is);
          moved = λ m all t. omega (arith, t, ap one_if flies);
        };
      })

  -- the areas of a sound stage were joined
  sound_joined : (d : Pending) → JoinsAll (grid_with old.refresher.sizes).round old.pending d → IsSound (stage r p d)
  sound_joined d joins = record { can = (quiet_joined color r p old.pending d h.can joins).can; refresher = h.refresher; flying = h.flying }

  -- nothing was in flight or drawn: the areas were joined, and a slice was drawn
  pub pump_first : (d e : Pending) (s : Refreshing) → r.drawn ≡ None → p.coming ≡ None → JoinsAll (grid_with old.refresher.sizes).round old.pending d → DrawnStep color r s d e → PumpsAt color old (stage s p e) Moved
  pump_first d e s none still joins k =
      let join = quiet_joined color r p old.pending d h.can joins in
      let sound = sound_joined d joins in
      let draw = quiet_drawn color r p d sound s e none k in
      let first = work_joined r p old.pending d joins in
      let second = work_drawn color r p d sound s e none k in
      let sizes = k.takes.sizes in
      let some = k.takes.some in
      let smaller = (keeps_pixels (grid_with r.sizes).round _ _ joins.joins).smaller in
      let there : is_some s.drawn ≡ true = ap (λ (t : Refreshing). is_some t.drawn) k.refresher in
      record {
        step = inr (inr (inr (record { still = still; none = none; panel = refl; joined = d; joins = joins; drawn = k })));
        keeps = keeps_quiet color old _ (quiet_more color old _ _ join draw);
        leaves = (omega (arith, first, second), refl);
        pumping = inl (record { was = some_total old.pending.areas (omega arith); room = is_gone r.drawn none; drawn = there; flying = refl });
        counts = record {
          asked = 0;
          sent = omega arith;
          waited = omega arith;
          moved = λ m all t. omega (arith, t, ap one_if there, ap one_if (is_gone r.drawn none));
        };
      }

  -- nothing was pending, drawn or in flight
  pub pump_idle : (d e : Pending) (s : Refreshing) → r.drawn ≡ None → p.coming ≡ None → JoinsAll (grid_with old.refresher.sizes).round old.pending d → UndrawnStep r s d e → PumpsAt color old (stage s p e) Idle
  pump_idle d e s none still joins k =
      let two = h.refresher.two in
      let full : r.free ≡ 2 = omega (arith, ap one_if (is_gone r.drawn none), ap one_if (h.can.started ∙ is_gone p.coming still)) in
      let empty : d.areas ≡ [] = elim k.why [ inl z ↦ absurd (omega arith) | inr z ↦ z ] in
      let lost = (keeps_pixels (grid_with r.sizes).round _ _ joins.joins).none_lost in
      let was : old.pending.areas ≡ [] = nil_from_length old.pending.areas (none_before (length old.pending.areas) (λ t. let z = lost t in omega (arith, ap length empty))) in
      let same_panel : d.panel ≡ old.pending.panel = joins.panel in
      let same : d ≡ old.pending = rw (same_panel, empty, ← was) refl in
      let rest : IsAtRest old = record { pending = was; drawn = none; coming = still } in
      subst (λ (t : Stage). PumpsAt color old t Idle) (stage_of (stage s p e) r old.pending k.refresher (k.pending ∙ same)) (record {
        step = record { pending = was; drawn = none; coming = still; same = refl };
        keeps = record { can = h.can; sizes = refl; panel = record { told = λ t. t; frames = refl; present_faults = refl; flush_faults = omega arith; turn = refl }; agrees = λ t. t; sends = inl (record { sizes = omega arith; counts = omega arith }) };
        leaves = record { rest = rest; free = omega (arith, full); faults = refl; shows = shows_at_rest color old rest };
        pumping = (refl, rest_of old rest);
        counts = counts_none old r old.pending refl;
      })

  -- what a poll tells that ends the pump
  pub pump_polled : (new : Stage) (answer : Pumped) → FlightAnswer old new (Some answer) → PumpsAt color old new answer
  pump_polled new Idle step = absurd step
  pump_polled new Moved step = pump_arrived new step
  pump_polled new Waiting step = absurd step
  pump_polled new Fault step = pump_broken new step

  pub pump_start : (new : Stage) (answer : Pumped) → p.coming ≡ None → StartAnswer old new answer → PumpsAt color old new answer
  pump_start new Idle free step = absurd step
  pump_start new Moved free step = pump_begun new free step
  pump_start new Waiting free step = absurd step
  pump_start new Fault free step = pump_unstarted new free step

  -- the drawn buffer may be started
  pub can_start : ForSome r.drawn (CanStart p)
  can_start = λ buf e. let d = h.refresher.drawn buf e in record {
    inside = drawn_inside old buf h e;
    small = omega (arith, d.small, h.can.limit);
    blocks = subst (λ (k : BlockSize). IsRound (grid_over k (area_of p)) buf.area) (sym h.can.block) d.blocks;
  }

pub some_of : (o : Option Buffer) → is_some o ≡ true → (buf : Buffer) × (o ≡ Some buf)
some_of None h = cc
some_of (Some buf) h = (buf, refl)

pub none_of : (o : Option Buffer) → is_some o ≡ false → o ≡ None
none_of None h = refl
none_of (Some buf) h = cc

-- where nothing failed, a step was quiet
quiet_of : (color : ℤ → ℤ → Rgb565) (old new : Stage) → Keeps color old new 0 → new.panel.flush_faults ≡ old.panel.flush_faults → Quiet color old new
quiet_of color old new h same = record {
  can = h.can;
  sizes = h.sizes;
  panel = h.panel;
  agrees = h.agrees;
  amount = elim h.sends [ inl e ↦ let s = e.sizes in omega arith | inr e ↦ let some = e.some in absurd (omega arith) ];
  counts = elim h.sends [ inl e ↦ let n = e.counts in omega arith | inr e ↦ let some = e.some in absurd (omega arith) ];
  faults = same;
}

-- a pump after which there is more to do
pub goes_on : (color : ℤ → ℤ → Rgb565) (old new : Stage) (answer : Pumped) → PumpsAt color old new answer → (answer ≡ Moved) ⊎ (answer ≡ Waiting) → Quiet color old new × (work new < work old)
goes_on color old new Idle k is = absurd (elim is [ inl e ↦ idle_moved e | inr e ↦ idle_waiting e ]) where
  idle_moved : Idle ≡ Moved → ⊥
  idle_moved e = cc

  idle_waiting : Idle ≡ Waiting → ⊥
  idle_waiting e = cc
goes_on color old new Moved k is = (quiet_of color old new k.keeps k.leaves.1, k.leaves.0)
goes_on color old new Waiting k is = (quiet_of color old new k.keeps k.leaves.1, k.leaves.0)
goes_on color old new Fault k is = absurd (elim is [ inl e ↦ fault_moved e | inr e ↦ fault_waiting e ]) where
  fault_moved : Fault ≡ Moved → ⊥
  fault_moved e = cc

  fault_waiting : Fault ≡ Waiting → ⊥
  fault_waiting e = cc

-- how far a refresh has come
pub record Comes (color : ℤ → ℤ → Rgb565) (old now : Stage) : Type 0 where
  pub quiet : Quiet color old now
  pub counts : Counts old now 0 0

pub begins : (color : ℤ → ℤ → Rgb565) (old : Stage) (e : Pending) → CanRefresh old → JoinsAll (grid_with old.refresher.sizes).round old.pending e → Comes color old (stage old.refresher old.panel e)
begins color old e can joins = record { quiet = quiet_joined color old.refresher old.panel old.pending e can joins; counts = counts_none old old.refresher e refl }

fewer_counts : (a b : Stage) (m w : ℕ) → Counts a b m w → Counts a b 0 0
fewer_counts a b m w h =
    let sent = h.sent in
    let waited = h.waited in
    record { asked = h.asked; sent = sent; waited = omega arith; moved = λ x all t. let k = h.moved x all t in omega (arith, k) }

pub pumps_on : (color : ℤ → ℤ → Rgb565) (old mid new : Stage) (answer : Pumped) → Comes color old mid → PumpsAt color mid new answer → (answer ≡ Moved) ⊎ (answer ≡ Waiting) → Comes color old new
pumps_on color old mid new answer h k is = record {
  quiet = quiet_more color old mid new h.quiet (goes_on color mid new answer k is).0;
  counts = counts_more old mid new 0 0 0 0 h.counts (fewer_counts mid new _ _ k.counts);
}

pub refresh_done : (color : ℤ → ℤ → Rgb565) (old mid new : Stage) → Comes color old mid → PumpsAt color mid new Idle → RefreshesAt color old new Done
refresh_done color old mid new h k = record {
  keeps = keeps_after color old mid new 0 h.quiet k.keeps;
  counts = counts_more old mid new 0 0 0 0 h.counts (fewer_counts mid new _ _ k.counts);
  done = λ e. record { rest = k.leaves.rest; free = k.leaves.free; faults = k.leaves.faults ∙ h.quiet.faults; shows = λ t. k.leaves.shows (h.quiet.agrees t) };
  fault = λ e. cc;
}

pub refresh_stopped : (color : ℤ → ℤ → Rgb565) (old mid new : Stage) → Comes color old mid → PumpsAt color mid new Fault → RefreshesAt color old new Stopped
refresh_stopped color old mid new h k = record {
  keeps = keeps_after color old mid new 1 h.quiet k.keeps;
  counts = counts_more old mid new 0 0 0 0 h.counts (fewer_counts mid new _ _ k.counts);
  done = λ e. cc;
  fault = λ e. let s = k.leaves in record {
    before = s.before;
    buf = s.buf;
    left = s.left;
    faults = s.faults ∙ h.quiet.faults;
    fails = s.fails;
    rose = s.rose;
    some = s.some;
    sent = omega (arith, s.sent, h.quiet.amount);
    listed = s.listed;
    pending = s.pending;
    again = s.again;
    free = s.free;
  };
}
