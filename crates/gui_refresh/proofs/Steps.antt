-- How each step keeps a refresher, a panel and what is pending together.
use Rattle.std.proofs.Common.{◌≡◌, ◌∙◌, refl, sym, ap, subst, ℕ, ◌+◌, ◌*◌, ◌<◌, ◌≤◌, ℤ, true, false, List, [], ◌∷◌, length, inl, inr, arith}
use Rattle.std.specs.Prelude.{Some, None, IfSome, is_some}
use Rattle.std.specs.declared.option.Option.{Option}
use Rattle.std.specs.Option.{ForSome}
use Rattle.std.proofs.lemmas.Int.{ints}
use Rattle.std.proofs.lemmas.Bool.{or_left}
use Rattle.std.proofs.lemmas.List.Sums.{sum_by-cons}
use Rattle.gui_base.specs.declared.color.Rgb565.{Rgb565}
use Rattle.gui_base.specs.Area.{Rect, has, size_of, is_within}
use Rattle.gui_color.specs.Buffer.{Buffer}
use Rattle.gui_color.proofs.Places.{place_fits}
use Rattle.gui_edge.specs.KeepsTelling.{KeepsTelling}
use Rattle.gui_edge.specs.Panel.{PanelState, area_of, CanStart, Starts, Started, StartFailed, Arrives, GoesOn, Breaks}
use Rattle.gui_edge.proofs.Telling.{keeps_telling-some}
use Rattle.gui_damage.specs.Adding.{AddsAll}
use Rattle.gui_damage.specs.Joining.{JoinsAll}
use Rattle.gui_damage.specs.Pending.{Pending, covered, total}
use Rattle.gui_damage.specs.Rounded.{left_round}
use Rattle.gui_damage.proofs.Joins.{keeps_pixels}
use Rattle.gui_damage.proofs.Lines.{in_order}
use Rattle.gui_damage.proofs.Listed.{within}
use Rattle.gui_refresh.specs.Stages.{Sizes, Refreshing, IsRefreshing, Stage, stage, CanRefresh, Agrees, AgreesAt, panel_with, grid_with, drawn_size, to_send, work}
use Rattle.gui_refresh.specs.Steps.{DrawnStep}
use Rattle.gui_refresh.specs.Refreshes.{KeepsPanel, Keeps, Sends}
use Rattle.gui_refresh.proofs.Agreement.{told_on, if_told, agrees_more, agrees_drawn, agrees_started, agrees_unstarted, agrees_arrived, agrees_waiting, agrees_failed}
use Rattle.owed_defs.specs.Progress.{one_if}

-- a refresher, a panel and the areas of it that belong together, with what holds of each
pub record IsSound (now : Stage) : Type 0 where
  pub can : CanRefresh now
  pub refresher : IsRefreshing now.refresher
  pub flying : ForSome now.panel.coming (CanStart now.panel)

-- a step in which nothing failed
pub record Quiet (color : ℤ → ℤ → Rgb565) (old new : Stage) : Type 0 where
  pub can : CanRefresh new
  pub sizes : new.refresher.sizes ≡ old.refresher.sizes
  pub panel : KeepsPanel old.panel new.panel
  pub agrees : AgreesAt color old → AgreesAt color new
  pub amount : new.panel.sent + to_send new ≤ old.panel.sent + to_send old
  pub counts : length new.pending.areas ≤ length old.pending.areas
  pub faults : new.panel.flush_faults ≡ old.panel.flush_faults

panel_more : (a b c : PanelState) → KeepsPanel a b → KeepsPanel b c → KeepsPanel a c
panel_more a b c h k =
    let hf = h.flush_faults in
    let kf = k.flush_faults in
    record {
      told = λ t. k.told (h.told t);
      frames = k.frames ∙ h.frames;
      present_faults = k.present_faults ∙ h.present_faults;
      flush_faults = omega arith;
      turn = k.turn ∙ h.turn;
    }

pub quiet_more : (color : ℤ → ℤ → Rgb565) (a b c : Stage) → Quiet color a b → Quiet color b c → Quiet color a c
quiet_more color a b c h k =
    let hs = h.amount in
    let ks = k.amount in
    let hc = h.counts in
    let kc = k.counts in
    record {
      can = k.can;
      sizes = k.sizes ∙ h.sizes;
      panel = panel_more a.panel b.panel c.panel h.panel k.panel;
      agrees = λ t. k.agrees (h.agrees t);
      amount = omega arith;
      counts = omega arith;
      faults = k.faults ∙ h.faults;
    }

pub keeps_quiet : (color : ℤ → ℤ → Rgb565) (old new : Stage) → Quiet color old new → Keeps color old new 0
keeps_quiet color old new h = record { can = h.can; sizes = h.sizes; panel = h.panel; agrees = h.agrees; sends = inl (record { sizes = omega (arith, h.amount); counts = omega (arith, h.counts) }) }

-- quiet steps, and then one that may fail
pub keeps_after : (color : ℤ → ℤ → Rgb565) (a b c : Stage) (failed : ℕ) → Quiet color a b → Keeps color b c failed → Keeps color a c failed
keeps_after color a b c failed h k =
    let hs = h.amount in
    let hc = h.counts in
    let limit : failed * b.refresher.sizes.limit ≡ failed * a.refresher.sizes.limit = ap (λ (s : Sizes). failed * s.limit) h.sizes in
    record {
      can = k.can;
      sizes = k.sizes ∙ h.sizes;
      panel = panel_more a.panel b.panel c.panel h.panel k.panel;
      agrees = λ t. k.agrees (h.agrees t);
      sends = elim k.sends [
        | inl e ↦ let s = e.sizes in let n = e.counts in inl (record { sizes = omega (arith, limit); counts = omega arith })
        | inr e ↦ let s = e.sizes in let n = e.full in inr (record { some = e.some; whole = e.whole; full = omega arith; sizes = omega (arith, limit) })
      ];
    }

-- an area of the panel has the pixel at its first corner
pub first_pixel : (panel area : Rect) → is_within panel area ≡ true → has area area.x1 area.y1 ≡ true
first_pixel panel area inside =
    let order = in_order area (within panel area inside).some in
    let across = order.across in
    let down = order.down in
    grind (arith, ints)

pub some_size : (panel area : Rect) → is_within panel area ≡ true → 0 < size_of area
some_size panel area inside = omega (arith, place_fits area area.x1 area.y1 (first_pixel panel area inside))

pub is_there : (o : Option Buffer) (buf : Buffer) → o ≡ Some buf → is_some o ≡ true
is_there o buf e = rw e refl

pub is_gone : (o : Option Buffer) → o ≡ None → is_some o ≡ false
is_gone o e = rw e refl

for_none : (P : Buffer → Type 0) (o : Option Buffer) → o ≡ None → ForSome o P
for_none P o e = λ buf k. absurd (other buf (sym e ∙ k)) where
  other : (buf : Buffer) → None ≡ Some buf → ⊥
  other buf h = cc

same_buffer : (a b : Buffer) → Some a ≡ Some b → a ≡ b
same_buffer a b k = cc

pub for_one : (P : Buffer → Type 0) (o : Option Buffer) (buf : Buffer) → o ≡ Some buf → P buf → ForSome o P
for_one P o buf e h = λ b k. subst P (same_buffer buf b (sym e ∙ k)) h

pub size_gone : (o : Option Buffer) → o ≡ None → drawn_size o ≡ 0
size_gone o e = rw e refl

-- all pixels of the panel of a sound stage
pub panel_is : (now : Stage) → CanRefresh now → area_of now.panel ≡ panel_with now.refresher.sizes
panel_is now can = rw (can.width, can.height) refl

pub drawn_inside : (now : Stage) (buf : Buffer) → IsSound now → now.refresher.drawn ≡ Some buf → is_within (area_of now.panel) buf.area ≡ true
drawn_inside now buf h was = subst (λ (p : Rect). is_within p buf.area ≡ true) (sym (panel_is now h.can)) (h.refresher.drawn buf was).inside

keeps_panel : (p q : PanelState) (R : List Rgb565 → List Rgb565 → Type 0) → KeepsTelling p.shows q.shows R → q.frames ≡ p.frames → q.present_faults ≡ p.present_faults → p.flush_faults ≤ q.flush_faults → q.turn ≡ p.turn → KeepsPanel p q
keeps_panel p q R shows frames present later turn = record { told = keeps_telling-some p.shows q.shows R shows; frames = frames; present_faults = present; flush_faults = later; turn = turn }

-- agreement with the panel after a step, by what the step does to what is shown
agrees_on : (color : ℤ → ℤ → Rgb565) (p q : PanelState) (R : List Rgb565 → List Rgb565 → Type 0) (a b : List Rect) (d e f g : Option Buffer) → area_of q ≡ area_of p → KeepsTelling p.shows q.shows R →
    ((x y : List Rgb565) → R x y → Agrees (area_of p) color a d e x → Agrees (area_of p) color b f g y) → IfSome p.shows (Agrees (area_of p) color a d e) → IfSome q.shows (Agrees (area_of q) color b f g)
agrees_on color p q R a b d e f g same shows step h = subst (λ (area : Rect). IfSome q.shows (Agrees area color b f g)) (sym same) (told_on p.shows q.shows R _ _ shows step h)

-- the areas were joined
pub quiet_joined : (color : ℤ → ℤ → Rgb565) (r : Refreshing) (p : PanelState) (d e : Pending) → CanRefresh (stage r p d) → JoinsAll (grid_with r.sizes).round d e → Quiet color (stage r p d) (stage r p e)
quiet_joined color r p d e can joins =
    let keeps = keeps_pixels (grid_with r.sizes).round _ _ joins.joins in
    let smaller = keeps.smaller in
    record {
      can = record { width = can.width; height = can.height; limit = can.limit; block = can.block; area = joins.panel ∙ can.area; started = can.started; coming = can.coming };
      sizes = refl;
      panel = record { told = λ t. t; frames = refl; present_faults = refl; flush_faults = omega arith; turn = refl };
      agrees = if_told p.shows _ _ (λ colors. agrees_more (area_of p) color d.areas e.areas r.drawn p.coming colors keeps.covers);
      amount = omega arith;
      counts = keeps.fewer;
      faults = refl;
    }

pub work_joined : (r : Refreshing) (p : PanelState) (d e : Pending) → JoinsAll (grid_with r.sizes).round d e → work (stage r p e) ≤ work (stage r p d)
work_joined r p d e joins = let smaller = (keeps_pixels (grid_with r.sizes).round _ _ joins.joins).smaller in omega arith

module _ (color : ℤ → ℤ → Rgb565) (r : Refreshing) (p : PanelState) (d : Pending) (h : IsSound (stage r p d)) where
  abbrev old : Stage
  old = stage r p d

  abbrev Agreed : List Rect → Option Buffer → Option Buffer → List Rgb565 → Type 0
  Agreed areas drawn coming colors = Agrees (area_of p) color areas drawn coming colors

  -- the transfer has ended
  pub quiet_arrived : (q : PanelState) (buf : Buffer) → Arrives p q buf → Quiet color old (stage (record r { free = r.free + 1; started = false }) q d)
  quiet_arrived q buf a =
      let same = ap area_of a.is in
      let gone : q.coming ≡ None = ap (λ (s : PanelState). s.coming) a.is in
      record {
        can = record {
          width = ap (λ (s : PanelState). s.width) a.is ∙ h.can.width;
          height = ap (λ (s : PanelState). s.height) a.is ∙ h.can.height;
          limit = ap (λ (s : PanelState). s.limit) a.is ∙ h.can.limit;
          block = ap (λ (s : PanelState). s.block) a.is ∙ h.can.block;
          area = h.can.area ∙ sym same;
          started = sym (is_gone q.coming gone);
          coming = for_none (λ b. b.limit ≡ r.sizes.limit) q.coming gone;
        };
        sizes = refl;
        panel = keeps_panel p q _ a.shows (ap (λ (s : PanelState). s.frames) a.is) (ap (λ (s : PanelState). s.present_faults) a.is) (omega (arith, ap (λ (s : PanelState). s.flush_faults) a.is)) (ap (λ (s : PanelState). s.turn) a.is);
        agrees = agrees_on color p q _ d.areas d.areas r.drawn p.coming r.drawn q.coming same a.shows (λ x y s k.
            subst (λ (c : Option Buffer). Agreed d.areas r.drawn c y) (sym gone)
            (agrees_arrived (area_of p) color d.areas r.drawn buf x y s (subst (λ (c : Option Buffer). Agreed d.areas r.drawn c x) a.was k)));
        amount = omega (arith, ap (λ (s : PanelState). s.sent) a.is);
        counts = omega arith;
        faults = ap (λ (s : PanelState). s.flush_faults) a.is;
      }

  -- it goes on
  pub quiet_waiting : (q : PanelState) (buf : Buffer) → p.coming ≡ Some buf → GoesOn p q → Quiet color old (stage r q d)
  quiet_waiting q buf was a =
      let same = ap area_of a.is in
      let on : q.coming ≡ p.coming = ap (λ (s : PanelState). s.coming) a.is in
      let shows = a.shows buf was in
      record {
        can = record {
          width = ap (λ (s : PanelState). s.width) a.is ∙ h.can.width;
          height = ap (λ (s : PanelState). s.height) a.is ∙ h.can.height;
          limit = ap (λ (s : PanelState). s.limit) a.is ∙ h.can.limit;
          block = ap (λ (s : PanelState). s.block) a.is ∙ h.can.block;
          area = h.can.area ∙ sym same;
          started = h.can.started ∙ ap is_some (sym on);
          coming = λ b e. h.can.coming b (sym on ∙ e);
        };
        sizes = refl;
        panel = keeps_panel p q _ shows (ap (λ (s : PanelState). s.frames) a.is) (ap (λ (s : PanelState). s.present_faults) a.is) (omega (arith, ap (λ (s : PanelState). s.flush_faults) a.is)) (ap (λ (s : PanelState). s.turn) a.is);
        agrees = agrees_on color p q _ d.areas d.areas r.drawn p.coming r.drawn q.coming same shows (λ x y s k.
            subst (λ (c : Option Buffer). Agreed d.areas r.drawn c y) (sym (on ∙ was))
            (agrees_waiting (area_of p) color d.areas r.drawn buf x y s (subst (λ (c : Option Buffer). Agreed d.areas r.drawn c x) was k)));
        amount = omega (arith, ap (λ (s : PanelState). s.sent) a.is);
        counts = omega arith;
        faults = ap (λ (s : PanelState). s.flush_faults) a.is;
      }

  -- the drawn buffer was started
  pub quiet_started : (q : PanelState) (buf : Buffer) → r.drawn ≡ Some buf → p.coming ≡ None → Starts p q buf → Started p q buf → Quiet color old (stage (record r { drawn = None; started = true }) q d)
  quiet_started q buf was free s a =
      let same = ap area_of s.is in
      let sent = ap (λ (t : PanelState). t.sent) s.is in
      record {
        can = record {
          width = ap (λ (t : PanelState). t.width) s.is ∙ h.can.width;
          height = ap (λ (t : PanelState). t.height) s.is ∙ h.can.height;
          limit = ap (λ (t : PanelState). t.limit) s.is ∙ h.can.limit;
          block = ap (λ (t : PanelState). t.block) s.is ∙ h.can.block;
          area = h.can.area ∙ sym same;
          started = sym (is_there q.coming buf a.coming);
          coming = for_one (λ b. b.limit ≡ r.sizes.limit) q.coming buf a.coming (h.refresher.drawn buf was).limit;
        };
        sizes = refl;
        panel = keeps_panel p q _ s.shows (ap (λ (t : PanelState). t.frames) s.is) (ap (λ (t : PanelState). t.present_faults) s.is) (omega (arith, a.count)) (ap (λ (t : PanelState). t.turn) s.is);
        agrees = agrees_on color p q _ d.areas d.areas r.drawn p.coming None q.coming same s.shows (λ x y t k.
            subst (λ (c : Option Buffer). Agreed d.areas None c y) (sym a.coming)
            (agrees_started (area_of p) color d.areas buf x y t (subst (λ (c : Option Buffer). Agreed d.areas (Some buf) c x) free (subst (λ (c : Option Buffer). Agreed d.areas c p.coming x) was k))));
        amount = omega (arith, sent, ap drawn_size was);
        counts = omega arith;
        faults = a.count;
      }

  -- a slice was drawn
  pub quiet_drawn : (s : Refreshing) (e : Pending) → r.drawn ≡ None → DrawnStep color r s d e → Quiet color old (stage s p e)
  quiet_drawn s e none k =
      let left = left_round (grid_with r.sizes) r.sizes.limit d.areas in
      let takes = k.takes in
      let sizes = takes.sizes in
      let fewer = takes.fewer in
      subst (λ (t : Refreshing). Quiet color old (stage t p e)) (sym k.refresher)
      (subst (λ (e : Pending). Quiet color old (stage (record r { drawn = Some k.buf; free = s.free }) p e)) (sym k.pending) (record {
        can = record { width = h.can.width; height = h.can.height; limit = h.can.limit; block = h.can.block; area = h.can.area; started = h.can.started; coming = h.can.coming };
        sizes = refl;
        panel = record { told = λ t. t; frames = refl; present_faults = refl; flush_faults = omega arith; turn = refl };
        agrees = if_told p.shows _ _ (λ colors t. agrees_drawn (area_of p) color d.areas left k.buf p.coming colors takes.each k.paints (subst (λ (c : Option Buffer). Agreed d.areas c p.coming colors) none t));
        amount = omega (arith, size_gone r.drawn none);
        counts = omega arith;
        faults = refl;
      }))

  -- a slice failed, and was added again
  sends_again : (q : PanelState) (s : Refreshing) (e : Pending) (area : Rect) → size_of area ≤ r.sizes.limit → AddsAll d e (area ∷ []) → q.sent + size_of area + drawn_size s.drawn ≤ p.sent + r.sizes.limit + drawn_size r.drawn → Sends old (stage s q e) 1
  sends_again q s e area small adds sent = elim adds.lists [
    | inl k ↦ let z = k.sizes in let n = k.counts in inl (record { sizes = omega (arith, sum_by-cons size_of area []); counts = omega arith })
    | inr k ↦ let full = k.full in inr (record { some = omega arith; whole = k.whole; full = omega arith; sizes = omega (arith, ap total k.whole, sum_by-cons size_of e.panel []) })
  ]

  covers_area : (e : Pending) (area : Rect) → AddsAll d e (area ∷ []) → (x y : ℤ) → has area x y ≡ true → covered e.areas x y ≡ true
  covers_area e area adds x y i = adds.covers x y (or_left (has area x y) false i)

  -- the transfer failed
  pub keeps_broken : (q : PanelState) (e : Pending) (buf : Buffer) → Breaks p q buf → AddsAll d e (buf.area ∷ []) → Keeps color old (stage (record r { free = r.free + 1; started = false }) q e) 1
  keeps_broken q e buf a adds =
      let same = ap area_of a.is in
      let gone : q.coming ≡ None = ap (λ (s : PanelState). s.coming) a.is in
      let small = (h.flying buf a.was).small in
      let limit = h.can.limit in
      record {
        can = record {
          width = ap (λ (s : PanelState). s.width) a.is ∙ h.can.width;
          height = ap (λ (s : PanelState). s.height) a.is ∙ h.can.height;
          limit = ap (λ (s : PanelState). s.limit) a.is ∙ h.can.limit;
          block = ap (λ (s : PanelState). s.block) a.is ∙ h.can.block;
          area = adds.panel ∙ (h.can.area ∙ sym same);
          started = sym (is_gone q.coming gone);
          coming = for_none (λ b. b.limit ≡ r.sizes.limit) q.coming gone;
        };
        sizes = refl;
        panel = keeps_panel p q _ a.shows (ap (λ (s : PanelState). s.frames) a.is) (ap (λ (s : PanelState). s.present_faults) a.is) (omega (arith, a.count)) (ap (λ (s : PanelState). s.turn) a.is);
        agrees = agrees_on color p q _ d.areas e.areas r.drawn p.coming r.drawn q.coming same a.shows (λ x y s k.
            subst (λ (c : Option Buffer). Agreed e.areas r.drawn c y) (sym gone)
            (agrees_failed (area_of p) color d.areas e.areas r.drawn buf x y s adds.keeps (covers_area e buf.area adds) (subst (λ (c : Option Buffer). Agreed d.areas r.drawn c x) a.was k)));
        sends = sends_again q (record r { free = r.free + 1; started = false }) e buf.area (omega arith) adds (omega (arith, ap (λ (s : PanelState). s.sent) a.is));
      }

  -- the drawn buffer was handed back
  pub keeps_unstarted : (q : PanelState) (e : Pending) (buf back : Buffer) → r.drawn ≡ Some buf → p.coming ≡ None → Starts p q buf → StartFailed p q buf back → AddsAll d e (buf.area ∷ []) →
      Keeps color old (stage (record r { drawn = None; free = r.free + 1 }) q e) 1
  keeps_unstarted q e buf back was free s a adds =
      let same = ap area_of s.is in
      let small = (h.refresher.drawn buf was).small in
      let sent = ap (λ (t : PanelState). t.sent) s.is in
      record {
        can = record {
          width = ap (λ (t : PanelState). t.width) s.is ∙ h.can.width;
          height = ap (λ (t : PanelState). t.height) s.is ∙ h.can.height;
          limit = ap (λ (t : PanelState). t.limit) s.is ∙ h.can.limit;
          block = ap (λ (t : PanelState). t.block) s.is ∙ h.can.block;
          area = adds.panel ∙ (h.can.area ∙ sym same);
          started = h.can.started ∙ (is_gone p.coming free ∙ sym (is_gone q.coming a.coming));
          coming = for_none (λ b. b.limit ≡ r.sizes.limit) q.coming a.coming;
        };
        sizes = refl;
        panel = keeps_panel p q _ s.shows (ap (λ (t : PanelState). t.frames) s.is) (ap (λ (t : PanelState). t.present_faults) s.is) (omega (arith, a.count)) (ap (λ (t : PanelState). t.turn) s.is);
        agrees = agrees_on color p q _ d.areas e.areas r.drawn p.coming None q.coming same s.shows (λ x y t k.
            subst (λ (c : Option Buffer). Agreed e.areas None c y) (sym a.coming)
            (agrees_unstarted (area_of p) color d.areas e.areas buf x y t adds.keeps (covers_area e buf.area adds)
            (subst (λ (c : Option Buffer). Agreed d.areas (Some buf) c x) free (subst (λ (c : Option Buffer). Agreed d.areas c p.coming x) was k))));
        sends = sends_again q (record r { drawn = None; free = r.free + 1 }) e buf.area small adds (omega (arith, sent, ap drawn_size was));
      }

  -- how the work left falls
  pub work_arrived : (q : PanelState) (buf : Buffer) → Arrives p q buf → work (stage (record r { free = r.free + 1; started = false }) q d) < work old
  work_arrived q buf a = omega (arith, ap (λ (s : PanelState). s.left) a.is, ap one_if (is_there p.coming buf a.was), ap one_if (is_gone q.coming (ap (λ (s : PanelState). s.coming) a.is)))

  pub work_waiting : (q : PanelState) → GoesOn p q → work (stage r q d) < work old
  work_waiting q a = let less = a.less in omega (arith, ap (λ (s : PanelState). one_if (is_some s.coming)) a.is)

  pub work_started : (q : PanelState) (buf : Buffer) → r.drawn ≡ Some buf → p.coming ≡ None → Started p q buf → work (stage (record r { drawn = None; started = true }) q d) < work old
  work_started q buf was free a =
      let some = some_size (area_of p) buf.area (drawn_inside old buf h was) in
      omega (arith, a.left, ap drawn_size was, ap one_if (is_gone p.coming free), ap one_if (is_there q.coming buf a.coming))

  pub work_drawn : (s : Refreshing) (e : Pending) → r.drawn ≡ None → DrawnStep color r s d e → work (stage s p e) < work old
  work_drawn s e none k =
      let sizes = k.takes.sizes in
      let some = k.takes.some in
      omega (arith, size_gone r.drawn none, ap (λ (t : Refreshing). drawn_size t.drawn) k.refresher, ap (λ (t : Pending). total t.areas) k.pending)
