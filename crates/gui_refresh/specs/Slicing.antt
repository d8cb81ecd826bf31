-- What refreshes and pumps draw: how many slices, of how many pixels, in how many steps.
use Rattle.std.specs.Prelude.{ℕ, ◌+◌, ◌*◌, ◌/◌, ◌≤◌, Bool, true, false, length, min}
use Rattle.std.specs.declared.option.Option.{Option}
use Rattle.gui_color.specs.Buffer.{Buffer}
use Rattle.gui_edge.specs.Causes.{last_count}
use Rattle.gui_damage.specs.Pending.{most_areas}
use Rattle.gui_refresh.specs.Stages.{Stage, drawn_size}

-- how many steps a slice takes at most, where one was drawn
abbrev pub slice_steps : ℕ → ℕ → Option Buffer → Bool → ℕ
slice_steps per_pixel per_slice drawn true = drawn_size drawn * (1 + per_pixel) + per_slice
slice_steps per_pixel per_slice drawn false = 0

-- What is drawn from one stage to another, in which so many starts and transfers failed: slices, of so many
-- pixels in all. Each takes a step for each of its pixels as it begins, and then as many as its picture
-- allows. `wide` of the slices have half of the limit, and each other one is the last of an area that was
-- listed. What was drawn was asked for, or waits. So it can be added up.
pub record Draws (per_pixel per_slice : ℕ) (old new : Stage) (failed from to : ℕ) : Type 0 where
  pub slices : ℕ
  pub pixels : ℕ
  pub wide : ℕ
  pub few : slices + length new.pending.areas ≤ length old.pending.areas + wide + failed
  pub half : wide * old.refresher.sizes.limit ≤ 2 * pixels
  pub sent : min (old.panel.sent + drawn_size old.refresher.drawn + pixels) last_count
      ≤ new.panel.sent + drawn_size new.refresher.drawn
  pub steps : to ≤ from + (pixels * (1 + per_pixel) + slices * per_slice)

-- The same for a refresh, in numbers alone: all pixels but those of one slice were asked for. An area is cut
-- into slices as high as the limit allows, and each but its last has more than half of the limit.
pub record DrawsSlices (limit per_pixel per_slice : ℕ) (old new : Stage) (failed from to : ℕ) : Type 0 where
  pub draws : Draws per_pixel per_slice old new failed from to
  pub few : draws.slices ≤ most_areas + 2 * draws.pixels / limit
  pub sent : min (old.panel.sent + draws.pixels) last_count ≤ new.panel.sent + limit

-- a pump draws one slice at most, and what waits after it has no more pixels than a slice may have
pub record DrawsOne (per_pixel per_slice : ℕ) (old new : Stage) (failed from to : ℕ) : Type 0 where
  pub draws : Draws per_pixel per_slice old new failed from to
  pub one : draws.slices ≤ 1
  pub small : drawn_size new.refresher.drawn ≤ old.refresher.sizes.limit
