use Rattle.std.proofs.Common.{◌≡◌, ◌∙◌, refl, sym, ap, subst, Some, None, arith}
use Rattle.gui_base.specs.Corners.{rect_of}
use Rattle.gui_base.specs.Gridded.{block_of, rules_of, size_in}
use Rattle.gui_base.specs.Rounding.{Rounding}
use Rattle.gui_damage.specs.Gridded.{GridList, listed_in}
use Rattle.gui_damage.specs.Pending.{Pending}
use Rattle.gui_damage.specs.Rounded.{IsRounded, TakesRound, round_slice_of, left_round}
use Rattle.gui_damage.proofs.Listed.{within}
use Rattle.gui_refresh.specs.Stages.{Refreshing, panel_with, grid_with}
use Rattle.gui_refresh.specs.Steps.{DrawnStep}
use Rattle.gui_refresh.proofs.Drawing.{same_grid, step_fits, taken, is_drawn, refreshing_drawn, drawn_step}
use Rattle.gui_refresh.proofs.refresher.Refresher.draw.Given.{Over}
use Rattle.gui_refresh.proofs.refresher.Refresher.draw.Goals as goal
use Rattle.gui_refresh.proofs.refresher.Refresher.draw.Goals.{In-Some-take_slice}

pub take_slice-requires : goal.take_slice-requires
take_slice-requires g c =
    let grid = c.args.damage.now.round in
    let panel = subst (λ (r : Refreshing). rect_of grid.panel ≡ panel_with r.sizes) (sym c.self.view_is) c.requires.area in
    let blocks = subst (λ (r : Refreshing). block_of grid ≡ r.sizes.block) (sym c.self.view_is) c.requires.blocks in
    step_fits _ grid c.self.invariant.0.sizes blocks panel

-- the refresher as it was
abbrev was : (g : Over) → In-Some-take_slice g → Refreshing
was g c = record {
  sizes = record { width = c.self.inside.width; height = c.self.inside.height; limit = c.self.inside.limit; block = size_in c.self.inside.block };
  drawn = c.self.inside.drawn;
  free = c.self.inside.spares.count;
  started = c.self.inside.started;
}

panel : (g : Over) (c : In-Some-take_slice g) → (listed_in c.args.damage.now).panel ≡ panel_with (was g c).sizes
panel g c = subst (λ (r : Refreshing). (listed_in c.args.damage.now).panel ≡ panel_with r.sizes) (sym c.self.view_is) c.requires.area

grid : (g : Over) (c : In-Some-take_slice g) → rules_of c.args.damage.now.round ≡ grid_with (was g c).sizes
grid g c =
    let blocks = subst (λ (r : Refreshing). block_of c.args.damage.now.round ≡ r.sizes.block) (sym c.self.view_is) c.requires.blocks in
    same_grid (was g c).sizes c.args.damage.now.round blocks (panel g c)

sound : (g : Over) (c : In-Some-take_slice g) → IsRounded (grid_with (was g c).sizes) c.args.damage.now.areas
sound g c = subst (λ (r : Rounding). IsRounded r c.args.damage.now.areas) (grid g c) c.in-Some-take_slice.ensures.sound

first : (g : Over) (c : In-Some-take_slice g) → Some (rect_of c.in-Some-take_slice.slice) ≡ round_slice_of (grid_with (was g c).sizes) (was g c).sizes.limit c.args.damage.now.areas
first g c = subst (λ (r : Rounding). Some (rect_of c.in-Some-take_slice.slice) ≡ round_slice_of r c.self.inside.limit c.args.damage.now.areas) (grid g c) c.in-Some-take_slice.ensures.slice

-- the slice that was taken
slice : (g : Over) (c : In-Some-take_slice g) →
    TakesRound (grid_with (was g c).sizes) (was g c).sizes.limit c.args.damage.now.areas (left_round (grid_with (was g c).sizes) (was g c).sizes.limit c.args.damage.now.areas) (rect_of c.in-Some-take_slice.slice)
slice g c = taken (was g c).sizes c.args.damage.now.areas (rect_of c.in-Some-take_slice.slice) c.self.invariant.0.sizes (sound g c) (first g c)

pub paint-requires-clause-some : goal.paint-requires-clause-some
paint-requires-clause-some g c =
    let d = (goal.at.paint-requires-clause-some g c).In-Some-take_slice in
    (within (panel_with (was g d).sizes) (rect_of c.in-Some-take_slice.slice) (slice g d).takes.inside).some

pub paint-requires-clause-fits : goal.paint-requires-clause-fits
paint-requires-clause-fits g c =
    let small = (slice g (goal.at.paint-requires-clause-fits g c).In-Some-take_slice).takes.small in
    omega (arith, small, c.in-Some.ensures.none.0, c.self.invariant.1)

pub invariant_of-self-in-Some-take_slice : goal.invariant_of-self-in-Some-take_slice
invariant_of-self-in-Some-take_slice g c =
    let d = (goal.at.invariant_of-self-in-Some-take_slice g c).In-Some-take_slice in
    let limit = c.paint.ensures.limit ∙ (c.in-Some.ensures.none.0 ∙ c.self.invariant.1) in
    let drawn = is_drawn (was g d).sizes c.args.damage.now.areas _ (rect_of c.in-Some-take_slice.slice) c.paint.new.buffer (slice g d) c.paint.ensures.area limit in
    let less = c.in-Some.ensures.none.1 in
    let none : c.self.inside.drawn ≡ None = ap (λ (r : Refreshing). r.drawn) c.self.view_is ∙ c.requires.none (omega (arith, less, ap (λ (r : Refreshing). r.free) c.self.view_is)) in
    (refreshing_drawn (was g d) c.take.new.self.count c.paint.new.buffer c.self.invariant.0 none less drawn, c.in-Some.ensures.same ∙ c.self.invariant.1)

pub returns-in-Some-take_slice-clause-round : goal.returns-in-Some-take_slice-clause-round
returns-in-Some-take_slice-clause-round g c = ap (λ (d : GridList). d.round) c.in-Some-take_slice.ensures.rest

pub returns-in-Some-take_slice-clause-step : goal.returns-in-Some-take_slice-clause-step
returns-in-Some-take_slice-clause-step g c =
    let d = (goal.at.returns-in-Some-take_slice-clause-step g c).In-Some-take_slice in
    let old = c.args.damage.now in
    let new = c.take_slice.new.self in
    let limit = c.paint.ensures.limit ∙ (c.in-Some.ensures.none.0 ∙ c.self.invariant.1) in
    let left : listed_in new ≡ record (listed_in old) { areas = left_round (grid_with (was g d).sizes) c.self.inside.limit old.areas } =
    ap listed_in c.in-Some-take_slice.ensures.rest ∙ ap (λ (r : Rounding). let p : Pending = record { panel = rect_of old.round.panel; areas = left_round r c.self.inside.limit old.areas } in p) (grid g d) in
    subst (λ (r : Refreshing). DrawnStep (g.Q.Picture.color c.args.picture.now) r (record (was g d) { drawn = Some c.paint.new.buffer; free = c.take.new.self.count }) (listed_in old) (listed_in new)) c.self.view_is
    (drawn_step (g.Q.Picture.color c.args.picture.now) (was g d) (record (was g d) { drawn = Some c.paint.new.buffer; free = c.take.new.self.count }) (listed_in old) (listed_in new) (rect_of c.in-Some-take_slice.slice) c.paint.new.buffer
    refl c.in-Some.ensures.none.1 (panel g d) c.self.invariant.0.sizes (sound g d) (first g d) left limit c.paint.ensures.area c.paint.ensures.colors)
