-- How refreshes and pumps come to show a scene.
use Rattle.std.proofs.Common.{◌≡◌, ◌∙◌, sym, ap, subst, ℕ, ◌+◌, ◌*◌, ◌<◌, ℤ, true, List, length, arith, refl}
use Rattle.std.specs.Prelude.{Some, None, IfSome, pos}
use Rattle.std.specs.declared.option.Option.{Option}
use Rattle.std.proofs.lemmas.Bool.Decides.{nat_tests}
use Rattle.std.proofs.lemmas.Int.{ints}
use Rattle.gui_base.specs.declared.color.Rgb565.{Rgb565}
use Rattle.gui_base.specs.Area.{Rect, has, width_of}
use Rattle.gui_color.specs.Buffer.{color_at, place, distance}
use Rattle.gui_edge.specs.Panel.{PanelState, area_of, TellsEach, HasSizes}
use Rattle.gui_damage.specs.Pending.{Pending}
use Rattle.gui_refresh.specs.Owing.{standing_of, flight_of}
use Rattle.gui_refresh.specs.Refreshes.{Keeps, Counts, RefreshesAt, PumpsAt, failures, failures_in}
use Rattle.gui_refresh.specs.Slicing.{DrawsOne, DrawsSlices}
use Rattle.gui_refresh.specs.Stages.{Sizes, Stage, CanRefresh, ShowsPicture, sizes_of, progress_of}
use Rattle.gui_refresh.specs.declared.Refreshed.{Refreshed}
use Rattle.gui_refresh.specs.declared.Refreshed.TheVariants.{Done, Fault}
use Rattle.gui_refresh.proofs.Owing.{refresh_counts, pump_counts}
use Rattle.cover_defs.specs.Cover.{items_shown}
use Rattle.cover_defs.specs.Steps.{slice_extra}
use Rattle.owed_defs.specs.Flights.{Flies}
use Rattle.owed_defs.specs.Standings.{Refreshes as SendsPending}
use Rattle.owed_defs.specs.declared.Pumped.{Pumped}
use Rattle.owed_defs.specs.declared.Pumped.TheVariants.{Idle, Moved, Waiting, Fault as Failed}
use Rattle.scene_defs.specs.Scene.{Scene}
use Rattle.scene_defs.specs.Place.{panel_of}
use Rattle.scene_defs.specs.Picture.{paint, picture}
use Rattle.scene_defs.proofs.Pictures.{picture_from_pixels}
use Rattle.run_defs.specs.Run.{ShowsScene}
use Rattle.gui_board.specs.Panels.{CanSend, SendsScene, Refreshes, Leaves, Pumps, DrawsPart, DrawsScene}

pub panel_is : (scene : Scene) (p : PanelState) → HasSizes p scene.limits → area_of p ≡ panel_of scene
panel_is scene p sizes = rw (sizes.width_is, sizes.height_is) refl

-- a refresher and a panel of a scene's sizes
pub can_refresh : (scene : Scene) (now : Stage) → CanSend now scene → now.refresher.sizes ≡ sizes_of scene.limits → now.pending.panel ≡ panel_of scene → CanRefresh now
can_refresh scene now can same panel = record {
  width = can.sizes.width_is ∙ sym (ap (λ (s : Sizes). s.width) same);
  height = can.sizes.height_is ∙ sym (ap (λ (s : Sizes). s.height) same);
  limit = can.sizes.limit_is ∙ sym (ap (λ (s : Sizes). s.limit) same);
  block = can.sizes.block_is ∙ sym (ap (λ (s : Sizes). s.block) same);
  area = panel ∙ sym (panel_is scene now.panel can.sizes);
  started = can.started;
  coming = λ buf is. can.coming buf is ∙ sym (ap (λ (s : Sizes). s.limit) same);
}

has_sizes : (scene : Scene) (p : PanelState) (now : Stage) → HasSizes p scene.limits → CanRefresh now → now.refresher.sizes ≡ sizes_of scene.limits → HasSizes now.panel scene.limits
has_sizes scene p now before can same =
    let limit = can.limit ∙ ap (λ (s : Sizes). s.limit) same in
    record {
      width_is = can.width ∙ ap (λ (s : Sizes). s.width) same;
      height_is = can.height ∙ ap (λ (s : Sizes). s.height) same;
      limit_is = limit;
      block_is = can.block ∙ ap (λ (s : Sizes). s.block) same;
      opened = subst (λ (n : ℕ). 0 < n) (before.limit_is ∙ sym limit) before.opened;
    }

width_is : (scene : Scene) → width_of (panel_of scene) ≡ scene.limits.width
width_is scene = grind (arith, ints)

at_place : (scene : Scene) (x y : ℕ) → place (panel_of scene) (pos x) (pos y) ≡ y * scene.limits.width + x
unfolding place
at_place scene x y = rw (up y, up x, width_is scene) refl where
  up : (n : ℕ) → distance (pos 0) (pos n) ≡ n
  up n = omega (arith, ints)

-- the panel shows the picture where each pixel has its colour
whole : (scene : Scene) (colors : List Rgb565) → length colors ≡ scene.limits.width * scene.limits.height →
    ((x y : ℤ) → has (panel_of scene) x y ≡ true → color_at (panel_of scene) colors x y ≡ paint scene x y) → colors ≡ picture scene
unfolding color_at
whole scene colors len each = picture_from_pixels scene colors len (λ x y a b.
    let inside : has (panel_of scene) (pos x) (pos y) ≡ true = grind (arith, ints) in
    rw (at_place scene x y) at (each (pos x) (pos y) inside))

shows_scene : (scene : Scene) (p : PanelState) → HasSizes p scene.limits → TellsEach p → ShowsPicture (paint scene) p → ShowsScene p.shows scene
shows_scene scene p sizes tells shows =
    go p.shows (rw (← sizes.width_is, ← sizes.height_is) tells)
    (subst (λ (a : Rect). IfSome p.shows (λ colors. (x y : ℤ) → has a x y ≡ true → color_at a colors x y ≡ paint scene x y)) (panel_is scene p sizes) shows) where
      go : (s : Option (List Rgb565)) → IfSome s (λ colors. length colors ≡ scene.limits.width * scene.limits.height) →
          IfSome s (λ colors. (x y : ℤ) → has (panel_of scene) x y ≡ true → color_at (panel_of scene) colors x y ≡ paint scene x y) → IfSome s (λ colors. colors ≡ picture scene)
      go None len each = tt
      go (Some colors) len each = whole scene colors len each

-- these areas of a scene's panel
abbrev pub of_panel : Scene → List Rect → Pending
of_panel scene areas = record { panel = panel_of scene; areas = areas }

-- the same stage, with areas of the scene's panel
abbrev pub scened : Scene → Stage → Stage
scened scene now = record now { pending = of_panel scene now.pending.areas }

scened_is : (scene : Scene) (now : Stage) → now.pending.panel ≡ panel_of scene → now ≡ scened scene now
scened_is scene now panel = ap (λ (a : Rect). record now { pending = record { panel = a; areas = now.pending.areas } }) panel

of_scene : (P : Stage → Stage → Type 0) (scene : Scene) (old new : Stage) → old.pending.panel ≡ panel_of scene → new.pending.panel ≡ panel_of scene → P old new → P (scened scene old) (scened scene new)
of_scene P scene old new before after h = subst (λ (s : Stage). P s (scened scene new)) (scened_is scene old before) (subst (P old) (scened_is scene new after) h)

panel_on : (scene : Scene) (old new : Stage) → HasSizes old.panel scene.limits → CanRefresh new → new.refresher.sizes ≡ sizes_of scene.limits → new.pending.panel ≡ panel_of scene
panel_on scene old new has can same = can.area ∙ panel_is scene new.panel (has_sizes scene old.panel new has can same)

module _ (scene : Scene) (old new : Stage) (has : HasSizes old.panel scene.limits) (same : old.refresher.sizes ≡ sizes_of scene.limits) where
  -- what each step leads to, by the limits of the scene
  sends_scene : (failed : ℕ) → Keeps (paint scene) old new failed → SendsPending (new.panel.width * new.panel.height) old.refresher.sizes.limit (standing_of old) (standing_of new) → SendsScene old new scene failed
  sends_scene failed k counts =
      let now = k.sizes ∙ same in
      let sizes = has_sizes scene old.panel new has k.can now in
      record {
        keeps = k.panel;
        can = record { sizes = sizes; started = k.can.started; coming = λ buf is. k.can.coming buf is ∙ ap (λ (s : Sizes). s.limit) now };
        agrees = k.agrees;
        sends = k.sends;
        counts = rw (ap (λ (s : Sizes). s.limit) same, sizes.width_is, sizes.height_is) at counts;
      }

  shows_now : (failed : ℕ) → Keeps (paint scene) old new failed → TellsEach new.panel → ShowsPicture (paint scene) new.panel → ShowsScene new.panel.shows scene
  shows_now failed k tells shows = shows_scene scene new.panel (has_sizes scene old.panel new has k.can (k.sizes ∙ same)) tells shows

  flies_of : (moves waits : ℕ) → Counts old new moves waits → Flies (flight_of old) (flight_of new) moves waits
  flies_of moves waits k = record { asked = k.asked; sent = k.sent; waited = k.waited; moved = k.moved }

  free_after : (answer : Refreshed) → RefreshesAt (paint scene) old new answer → 0 < new.refresher.free
  free_after Done r = (r.done refl).free
  free_after Fault r = (r.fault refl).free

  some_pending : 0 < length new.pending.areas → (progress_of new).pending ≡ true
  some_pending some = grind (arith, nat_tests)

  refreshes_by : (answer : Refreshed) → TellsEach new.panel → RefreshesAt (paint scene) old new answer → Refreshes old new scene answer
  refreshes_by answer tells r = record {
    sends = sends_scene _ r.keeps (refresh_counts (paint scene) old new answer r);
    flies = flies_of 0 0 r.counts;
    free = free_after answer r;
    flawless = λ e. (r.done e).faults;
    clear = λ e. (r.done e).rest;
    done = λ e agrees. shows_now _ r.keeps tells ((r.done e).shows agrees);
    fault = λ e. let s = r.fault e in let faults = s.faults in let rose = s.rose in omega arith;
    stops = r.fault;
    again = λ e. some_pending (r.fault e).pending;
  }

  leaves_by : (answer : Pumped) → TellsEach new.panel → PumpsAt (paint scene) old new answer → Leaves old new scene answer
  leaves_by Idle tells r = λ agrees. shows_now _ r.keeps tells (r.leaves.shows agrees)
  leaves_by Moved tells r = r.leaves
  leaves_by Waiting tells r = r.leaves
  leaves_by Failed tells r = r.leaves

  pumps_by : (answer : Pumped) → TellsEach new.panel → PumpsAt (paint scene) old new answer → Pumps old new scene answer
  pumps_by answer tells r = record {
    step = r.step;
    sends = sends_scene _ r.keeps (pump_counts (paint scene) old new answer r);
    pumping = r.pumping;
    flies = flies_of _ _ r.counts;
    leaves = leaves_by answer tells r;
  }

-- a refresh and a pump with the scene's picture are those of the scene
pub refreshes_scene : (scene : Scene) (old new : Stage) (answer : Refreshed) → HasSizes old.panel scene.limits → old.refresher.sizes ≡ sizes_of scene.limits → old.pending.panel ≡ panel_of scene → TellsEach new.panel →
    RefreshesAt (paint scene) old new answer → Refreshes (scened scene old) (scened scene new) scene answer
refreshes_scene scene old new answer has same panel tells r =
    of_scene (λ a b. Refreshes a b scene answer) scene old new panel (panel_on scene old new has r.keeps.can (r.keeps.sizes ∙ same)) (refreshes_by scene old new has same answer tells r)

pub pumps_scene : (scene : Scene) (old new : Stage) (answer : Pumped) → HasSizes old.panel scene.limits → old.refresher.sizes ≡ sizes_of scene.limits → old.pending.panel ≡ panel_of scene → TellsEach new.panel →
    PumpsAt (paint scene) old new answer → Pumps (scened scene old) (scened scene new) scene answer
pumps_scene scene old new answer has same panel tells r =
    of_scene (λ a b. Pumps a b scene answer) scene old new panel (panel_on scene old new has r.keeps.can (r.keeps.sizes ∙ same)) (pumps_by scene old new has same answer tells r)

pub draws_part : (scene : Scene) (old new : Stage) (answer : Pumped) (from to : ℕ) → HasSizes old.panel scene.limits → old.refresher.sizes ≡ sizes_of scene.limits → old.pending.panel ≡ panel_of scene → Keeps (paint scene) old new (failures_in answer) →
    DrawsOne (items_shown scene) (slice_extra scene) old new (failures_in answer) from to → DrawsPart (scened scene old) (scened scene new) scene answer from to
draws_part scene old new answer from to has same panel k draws =
    of_scene (λ a b. DrawsOne (items_shown scene) (slice_extra scene) a b (failures_in answer) from to) scene old new panel (panel_on scene old new has k.can (k.sizes ∙ same)) draws

pub draws_scene : (scene : Scene) (old new : Stage) (answer : Refreshed) (from to : ℕ) → HasSizes old.panel scene.limits → old.refresher.sizes ≡ sizes_of scene.limits → old.pending.panel ≡ panel_of scene → Keeps (paint scene) old new (failures answer) →
    DrawsSlices old.refresher.sizes.limit (items_shown scene) (slice_extra scene) old new (failures answer) from to → DrawsScene (scened scene old) (scened scene new) scene answer from to
draws_scene scene old new answer from to has same panel k draws =
    of_scene (λ a b. DrawsSlices (sizes_of scene.limits).limit (items_shown scene) (slice_extra scene) a b (failures answer) from to) scene old new panel (panel_on scene old new has k.can (k.sizes ∙ same))
    (subst (λ (limit : ℕ). DrawsSlices limit (items_shown scene) (slice_extra scene) old new (failures answer) from to) (ap (λ (s : Sizes). s.limit) same) draws)
