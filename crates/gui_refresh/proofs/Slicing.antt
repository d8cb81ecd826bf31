-- How many slices are drawn, of how many pixels and in how many steps.
use Rattle.std.proofs.Common.{◌≡◌, ◌∙◌, refl, ap, subst, ℕ, ◌+◌, ◌*◌, ◌/◌, ◌<◌, ◌≤◌, ◌==◌, ◌⊎◌, inl, inr, min, true, List, [], ◌∷◌, length, Some, arith}
use Rattle.std.specs.Prelude.{None, ℤ}
use Rattle.std.specs.declared.option.Option.{Option}
use Rattle.std.proofs.Math.Nat.{mul-le-mul_right, lt-div-mul-add}
use Rattle.std.proofs.lemmas.Bool.{cases_Bool, eqb-true, eqb-false}
use Rattle.std.proofs.lemmas.Nat.{le-div}
use Rattle.gui_base.specs.declared.color.Rgb565.{Rgb565}
use Rattle.gui_base.specs.Area.{Rect, width_of, height_of, size_of}
use Rattle.gui_color.specs.Buffer.{Buffer}
use Rattle.gui_edge.specs.Causes.{last_count}
use Rattle.gui_edge.specs.Panel.{PanelState}
use Rattle.gui_damage.specs.Joining.{JoinsAll}
use Rattle.gui_damage.specs.Pending.{Pending, IsPending, most_areas}
use Rattle.gui_base.specs.Lines.{top_lines}
use Rattle.gui_base.specs.Rounding.{Rounding, IsRounding}
use Rattle.gui_damage.specs.Rounded.{pending_by, whole_steps, round_slice_of, left_round}
use Rattle.gui_damage.specs.Slices.{slice_lines}
use Rattle.gui_damage.proofs.Joins.{keeps_pixels}
use Rattle.gui_damage.proofs.Lines.{height_top, size_pos}
use Rattle.gui_damage.proofs.Rounds.{lines_taken, same_some}
use Rattle.gui_damage.proofs.Slices.{first_within, first_some, width_within, left_whole}
use Rattle.gui_refresh.specs.Refreshes.{Sends, failures_in, PumpsAt}
use Rattle.gui_refresh.specs.Slicing.{DrawsSlices, Draws, DrawsOne, slice_steps}
use Rattle.gui_refresh.specs.Stages.{Sizes, IsSizes, Refreshing, IsRefreshing, IsDrawn, Stage, stage, grid_with, drawn_size}
use Rattle.gui_refresh.specs.Steps.{DrawnStep, GoesOnStep, StartAnswer, FlightAnswer}
use Rattle.gui_refresh.proofs.Pumps.{none_drawn}
use Rattle.gui_refresh.proofs.Steps.{IsSound, size_gone}
use Rattle.owed_defs.specs.declared.Pumped.{Pumped}
use Rattle.owed_defs.specs.declared.Pumped.TheVariants.{Idle, Moved, Waiting, Fault}

-- as many whole steps of lines as the limit allows have more than half of the limit
half_steps : (limit width lines steps step : ℕ) → limit < lines * width + width → lines < steps * step + step → 1 ≤ steps → limit ≤ 2 * (width * (steps * step))
half_steps limit width lines steps step all below one =
    let first = mul-le-mul_right step one in
    let twice : lines + 1 ≤ 2 * (steps * step) = omega arith in
    let line = mul-le-mul_right width twice in
    let more : (lines + 1) * width ≡ lines * width + width = grind arith in
    let same : 2 * (steps * step) * width ≡ 2 * (width * (steps * step)) = grind arith in
    omega arith

half : (limit width step : ℕ) → 0 < width → 0 < step → step * width ≤ limit → limit ≤ 2 * (width * (limit / width / step * step))
half limit width step wide some fits =
    let least : step ≤ limit / width = le-div step limit width wide fits in
    half_steps limit width (limit / width) (limit / width / step) step (omega (arith, lt-div-mul-add {a = limit} {b = width} wide)) (omega (arith, lt-div-mul-add {a = limit / width} {b = step} some))
    (le-div 1 (limit / width) step some (omega (arith, least)))

-- The slice is the last of its area, which is listed no more, or it has half of the limit.
pub ends_or_wide : (rules : Rounding) (limit : ℕ) (areas : List Rect) (slice : Rect) → IsRounding rules → IsPending (pending_by rules areas) → width_of rules.panel * rules.step ≤ limit → Some slice ≡ round_slice_of rules limit areas →
    (length (left_round rules limit areas) < length areas) ⊎ (limit ≤ 2 * size_of slice)
ends_or_wide rules limit [] slice is h wide e = cc
ends_or_wide rules limit (first ∷ rest) slice is h wide e =
    let most : ℕ = whole_steps rules limit first in
    elim (cases_Bool (slice_lines most first == height_of first)) [
      | inl all ↦ inl (rw (left_whole most first rest (eqb-true (slice_lines most first) (height_of first) all)) (omega arith))
      | inr short ↦
          let cut = eqb-false (slice_lines most first) (height_of first) short in
          let below : slice_lines most first < height_of first = omega arith in
          let sizes = size_pos first (first_some rules.panel first rest h) in
          let narrow = mul-le-mul_right rules.step (width_within rules.panel first (first_within rules.panel first rest h) h.some) in
          let least = is.least in
          let lines = lines_taken rules limit first sizes.0 below in
          let taken : slice ≡ top_lines first (slice_lines most first) = same_some slice (top_lines first (slice_lines most first)) e in
          let size : size_of slice ≡ width_of first * (limit / width_of first / rules.step * rules.step) =
          ap size_of taken ∙ (ap (λ (n : ℕ). width_of first * n) (height_top first (slice_lines most first)) ∙ ap (λ (n : ℕ). width_of first * n) lines) in
          inr (omega (arith, size, half limit (width_of first) rules.step sizes.0 (omega arith) (omega (arith, narrow, wide))))
    ]

module _ (per_pixel per_slice : ℕ) where
  -- nothing was drawn
  pub draws_none : (old new : Stage) (failed from to : ℕ) → length new.pending.areas ≤ length old.pending.areas + failed → min (old.panel.sent + drawn_size old.refresher.drawn) last_count ≤ new.panel.sent + drawn_size new.refresher.drawn → to ≤ from → Draws per_pixel per_slice old new failed from to
  draws_none old new failed from to few sent same = record { slices = 0; pixels = 0; wide = 0; few = omega arith; half = omega arith; sent = omega arith; steps = omega arith }

  steps_more : (p q j k : ℕ) → (p + q) * (1 + per_pixel) + (j + k) * per_slice ≡ (p * (1 + per_pixel) + j * per_slice) + (q * (1 + per_pixel) + k * per_slice)
  steps_more p q j k = grind arith

  -- some slices, and then others
  pub draws_more : (a b c : Stage) (failed from mid to : ℕ) → b.refresher.sizes ≡ a.refresher.sizes → Draws per_pixel per_slice a b 0 from mid → Draws per_pixel per_slice b c failed mid to → Draws per_pixel per_slice a c failed from to
  draws_more a b c failed from mid to same h k =
      let hf = h.few in
      let kf = k.few in
      let hh = h.half in
      let kh = k.half in
      let hs = h.sent in
      let ks = k.sent in
      let ht = h.steps in
      let kt = k.steps in
      let limit : k.wide * b.refresher.sizes.limit ≡ k.wide * a.refresher.sizes.limit = ap (λ (s : Sizes). k.wide * s.limit) same in
      record {
        slices = h.slices + k.slices;
        pixels = h.pixels + k.pixels;
        wide = h.wide + k.wide;
        few = omega arith;
        half = omega (arith, limit);
        sent = omega arith;
        steps = omega (arith, steps_more h.pixels k.pixels h.slices k.slices);
      }

  -- one slice
  pub draws_slice : (color : ℤ → ℤ → Rgb565) (old new : Stage) (before : Pending) (from to : ℕ) → old.refresher.drawn ≡ None → new.panel.sent ≡ old.panel.sent → length before.areas ≤ length old.pending.areas →
      DrawnStep color old.refresher new.refresher before new.pending → to ≤ from + slice_steps per_pixel per_slice new.refresher.drawn true → DrawsOne per_pixel per_slice old new 0 from to
  draws_slice color old new before from to none same fewer k steps =
      let size = size_of k.buf.area in
      let drawn : drawn_size new.refresher.drawn ≡ size = ap (λ (r : Refreshing). drawn_size r.drawn) k.refresher in
      let left = ap (λ (p : Pending). length p.areas) k.pending in
      let takes = k.takes.fewer in
      let small = k.takes.small in
      let each : drawn_size new.refresher.drawn * (1 + per_pixel) ≡ size * (1 + per_pixel) = ap (λ (n : ℕ). n * (1 + per_pixel)) drawn in
      let asked : min (old.panel.sent + drawn_size old.refresher.drawn + size) last_count ≤ new.panel.sent + drawn_size new.refresher.drawn = omega (arith, drawn, same, size_gone old.refresher.drawn none) in
      let taken : to ≤ from + (size * (1 + per_pixel) + 1 * per_slice) = omega (arith, steps, each) in
      elim k.cut [
        | inl ends ↦ record { draws = record { slices = 1; pixels = size; wide = 0; few = omega (arith, left, ends); half = omega arith; sent = asked; steps = taken }; one = omega arith; small = omega (arith, drawn) }
        | inr wide ↦ record { draws = record { slices = 1; pixels = size; wide = 1; few = omega (arith, left, takes); half = omega (arith, wide); sent = asked; steps = taken }; one = omega arith; small = omega (arith, drawn) }
      ]

  -- the areas were joined, and nothing was drawn yet
  pub draws_joined : (old : Stage) (joined : Pending) (t : ℕ) → JoinsAll (grid_with old.refresher.sizes).round old.pending joined → Draws per_pixel per_slice old (stage old.refresher old.panel joined) 0 t t
  draws_joined old joined t joins = let keeps = keeps_pixels (grid_with old.refresher.sizes).round _ _ joins.joins in draws_none old (stage old.refresher old.panel joined) 0 t t (omega (arith, keeps.fewer)) (omega arith) (omega arith)

  -- what callers see of a refresh
  pub draws_slices : (old new : Stage) (failed from to : ℕ) → 0 < old.refresher.sizes.limit → length old.pending.areas ≤ most_areas → failed ≤ length new.pending.areas → drawn_size new.refresher.drawn ≤ old.refresher.sizes.limit →
      Draws per_pixel per_slice old new failed from to → DrawsSlices old.refresher.sizes.limit per_pixel per_slice old new failed from to
  draws_slices old new failed from to some listed pending small d =
      let few = d.few in
      let most : d.wide ≤ 2 * d.pixels / old.refresher.sizes.limit = le-div d.wide (2 * d.pixels) old.refresher.sizes.limit some d.half in
      let sent = d.sent in
      record { draws = d; few = omega arith; sent = omega arith }

  -- a pump in which nothing failed
  pub draws_on : (a b c : Stage) (answer : Pumped) (from mid to : ℕ) → (answer ≡ Moved) ⊎ (answer ≡ Waiting) → b.refresher.sizes ≡ a.refresher.sizes → Draws per_pixel per_slice a b 0 from mid → DrawsOne per_pixel per_slice b c (failures_in answer) mid to → Draws per_pixel per_slice a c 0 from to
  draws_on a b c answer from mid to is same h k = draws_more a b c 0 from mid to same h (subst (λ (failed : ℕ). Draws per_pixel per_slice b c failed mid to) none_failed k.draws) where
    none_failed : failures_in answer ≡ 0
    none_failed = elim is [ inl e ↦ rw e refl | inr e ↦ rw e refl ]

  -- what a refresh drew that ended with this pump
  pub draws_all : (a b c : Stage) (failed from mid to : ℕ) → IsSizes a.refresher.sizes → length a.pending.areas ≤ most_areas → failed ≤ length c.pending.areas → b.refresher.sizes ≡ a.refresher.sizes →
      Draws per_pixel per_slice a b 0 from mid → DrawsOne per_pixel per_slice b c failed mid to → DrawsSlices a.refresher.sizes.limit per_pixel per_slice a c failed from to
  draws_all a b c failed from mid to is listed pending same h k =
      let width = is.some_width in
      let line = is.least_limit in
      let small = k.small in
      draws_slices a c failed from to (omega arith) listed pending (omega (arith, ap (λ (s : Sizes). s.limit) same)) (draws_more a b c failed from mid to same h k.draws)

  -- a drawn buffer has no more pixels than a slice may have
  pub small_drawn : (r : Refreshing) → IsRefreshing r → drawn_size r.drawn ≤ r.sizes.limit
  small_drawn r is = go r.drawn is.drawn where
    go : (o : Option Buffer) → ((buf : Buffer) → o ≡ Some buf → IsDrawn r.sizes buf) → drawn_size o ≤ r.sizes.limit
    go None h = omega arith
    go (Some buf) h = (h buf refl).small

  -- how far the list grew
  listed : (old new : Stage) (failed : ℕ) → Sends old new failed → length new.pending.areas ≤ length old.pending.areas + failed
  listed old new failed sends = elim sends [
    | inl e ↦ e.counts
    | inr e ↦ let some = e.some in omega (arith, ap length e.whole)
  ]

  module _ (color : ℤ → ℤ → Rgb565) (old : Stage) (h : IsSound old) where
    -- a pump that drew nothing
    still : (new : Stage) (answer : Pumped) (from to : ℕ) → PumpsAt color old new answer → min (old.panel.sent + drawn_size old.refresher.drawn) last_count ≤ new.panel.sent + drawn_size new.refresher.drawn → drawn_size new.refresher.drawn ≤ drawn_size old.refresher.drawn → to ≤ from →
        DrawsOne per_pixel per_slice old new (failures_in answer) from to
    unfolding draws_none
    still new answer from to k sent less same = record {
      draws = draws_none old new (failures_in answer) from to (listed old new (failures_in answer) k.keeps.sends) sent same;
      one = omega arith;
      small = omega (arith, small_drawn old.refresher h.refresher);
    }

    pub draws_polled : (new : Stage) (answer : Pumped) (from to : ℕ) → FlightAnswer old new (Some answer) → PumpsAt color old new answer → to ≤ from → DrawsOne per_pixel per_slice old new (failures_in answer) from to
    draws_polled new Idle from to step k same = absurd step
    draws_polled new Moved from to step k same =
        let sent = ap (λ (p : PanelState). p.sent) step.arrives.is in
        let drawn : drawn_size new.refresher.drawn ≡ drawn_size old.refresher.drawn = ap (λ (r : Refreshing). drawn_size r.drawn) step.refresher in
        still new Moved from to k (omega (arith, sent, drawn)) (omega (arith, drawn)) same
    draws_polled new Waiting from to step k same = absurd step
    draws_polled new Fault from to step k same =
        let sent = ap (λ (p : PanelState). p.sent) step.breaks.is in
        let drawn : drawn_size new.refresher.drawn ≡ drawn_size old.refresher.drawn = ap (λ (r : Refreshing). drawn_size r.drawn) step.refresher in
        still new Fault from to k (omega (arith, sent, drawn)) (omega (arith, drawn)) same

    pub draws_started : (new : Stage) (answer : Pumped) (from to : ℕ) → StartAnswer old new answer → PumpsAt color old new answer → to ≤ from → DrawsOne per_pixel per_slice old new (failures_in answer) from to
    draws_started new Idle from to step k same = absurd step
    draws_started new Moved from to step k same =
        let sent = ap (λ (p : PanelState). p.sent) step.starts.is in
        let drawn : drawn_size new.refresher.drawn ≡ 0 = ap (λ (r : Refreshing). drawn_size r.drawn) step.refresher in
        still new Moved from to k (omega (arith, sent, drawn, ap drawn_size step.was)) (omega (arith, drawn)) same
    draws_started new Waiting from to step k same = absurd step
    draws_started new Fault from to step k same =
        let sent = ap (λ (p : PanelState). p.sent) step.starts.is in
        let drawn : drawn_size new.refresher.drawn ≡ 0 = ap (λ (r : Refreshing). drawn_size r.drawn) step.refresher in
        still new Fault from to k (omega (arith, sent, drawn, ap drawn_size step.was)) (omega (arith, drawn)) same

    -- a slice was drawn beside a transfer that goes on
    pub draws_beside : (mid : Stage) (s : Refreshing) (e : Pending) (buf : Buffer) (from to : ℕ) → old.panel.coming ≡ Some buf → GoesOnStep old mid → DrawnStep color mid.refresher s mid.pending e → to ≤ from + slice_steps per_pixel per_slice s.drawn true →
        DrawsOne per_pixel per_slice old (stage s mid.panel e) 0 from to
    draws_beside mid s e buf from to was step drawing steps =
        let k = subst (λ (d : Pending). DrawnStep color old.refresher s d e) step.pending (subst (λ (t : Refreshing). DrawnStep color t s mid.pending e) step.refresher drawing) in
        let less = k.one_less in
        draws_slice color old (stage s mid.panel e) old.pending from to (none_drawn color old h buf was (omega arith)) (ap (λ (p : PanelState). p.sent) step.goes_on.is) (omega arith) k steps

    -- one was drawn from the joined areas
    pub draws_first : (d e : Pending) (s : Refreshing) (from to : ℕ) → old.refresher.drawn ≡ None → JoinsAll (grid_with old.refresher.sizes).round old.pending d → DrawnStep color old.refresher s d e → to ≤ from + slice_steps per_pixel per_slice s.drawn true → DrawsOne per_pixel per_slice old (stage s old.panel e) 0 from to
    draws_first d e s from to none joins k steps = draws_slice color old (stage s old.panel e) d from to none refl (keeps_pixels (grid_with old.refresher.sizes).round _ _ joins.joins).fewer k steps

    pub draws_waiting : (new : Stage) (from to : ℕ) → PumpsAt color old new Waiting → to ≤ from → DrawsOne per_pixel per_slice old new 0 from to
    draws_waiting new from to k same =
        let step = k.step in
        let sent = ap (λ (p : PanelState). p.sent) step.goes_on.is in
        let drawn : drawn_size new.refresher.drawn ≡ drawn_size old.refresher.drawn = ap (λ (r : Refreshing). drawn_size r.drawn) step.undrawn.refresher in
        still new Waiting from to k (omega (arith, sent, drawn)) (omega (arith, drawn)) same

    pub draws_idle : (new : Stage) (from to : ℕ) → PumpsAt color old new Idle → to ≤ from → DrawsOne per_pixel per_slice old new 0 from to
    draws_idle new from to k same =
        let sent = ap (λ (s : Stage). s.panel.sent) k.step.same in
        let drawn : drawn_size new.refresher.drawn ≡ drawn_size old.refresher.drawn = ap (λ (s : Stage). drawn_size s.refresher.drawn) k.step.same in
        still new Idle from to k (omega (arith, sent, drawn)) (omega (arith, drawn)) same
