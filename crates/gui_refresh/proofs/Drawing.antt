-- How a slice is drawn.
use Rattle.std.proofs.Common.{◌≡◌, ◌∙◌, refl, sym, ap, subst, ℕ, ◌+◌, ◌*◌, ◌<◌, ◌≤◌, ◌⊎◌, List, length, ℤ, true, arith}
use Rattle.std.specs.Prelude.{Some, None}
use Rattle.std.proofs.Math.Nat.{mul-le-mul_left}
use Rattle.gui_base.specs.declared.color.Rgb565.{Rgb565}
use Rattle.gui_base.specs.Area.{Rect, has, is_within, width_of, size_of}
use Rattle.gui_base.specs.Bounded.{bounds_of}
use Rattle.gui_base.specs.Corners.{rect_of}
use Rattle.gui_base.specs.Gridded.{block_of, rules_of}
use Rattle.gui_base.specs.Grids.{BlockSize, grid_over}
use Rattle.gui_base.specs.Rounding.{Rounding, IsRounding, IsRound}
use Rattle.gui_base.specs.declared.limits.Limits.{Limits}
use Rattle.gui_base.specs.declared.rounding.Grid.{Grid}
use Rattle.gui_base.proofs.Blocks.{gridded_sound}
use Rattle.gui_base.proofs.Bounds.{width_at, limits_gridded, row_within}
use Rattle.gui_color.specs.Buffer.{Buffer, color_at}
use Rattle.gui_damage.specs.Pending.{Pending}
use Rattle.gui_damage.specs.Rounded.{IsRounded, TakesRound, round_slice_of, left_round}
use Rattle.gui_damage.specs.Slices.{Takes}
use Rattle.gui_damage.proofs.RoundTakings.{round_takes}
use Rattle.gui_edge.specs.Panel.{CanStart}
use Rattle.gui_refresh.specs.Stages.{Sizes, IsSizes, IsDrawn, Refreshing, IsRefreshing, Stage, CanRefresh, panel_with, grid_with, sizes_of}
use Rattle.gui_refresh.specs.Steps.{DrawnStep}
use Rattle.gui_refresh.proofs.Slicing.{ends_or_wide}
use Rattle.gui_refresh.proofs.Steps.{for_one, is_gone}
use Rattle.owed_defs.specs.Progress.{one_if}

-- the sizes of limits are in order
pub opened_sizes : (limits : Limits) → IsSizes (sizes_of (bounds_of limits))
opened_sizes limits =
    let p = limits.panel in
    let one = mul-le-mul_left limits.width p.some_lines in
    record {
      some_width = p.some_width;
      most_width = p.most_width;
      some_height = p.some_height;
      most_height = p.most_height;
      least_limit = omega (arith, one);
      most_limit = mul-le-mul_left limits.width p.most_lines;
      whole = limits_gridded limits;
      row = row_within limits;
    }

-- the grid of the panel rounds, and a slice has a row of its blocks at least
pub grid_sound : (sizes : Sizes) → IsSizes sizes → IsRounding (grid_with sizes)
grid_sound sizes is = gridded_sound sizes.block (panel_with sizes) is.whole

row_fits : (sizes : Sizes) → IsSizes sizes → width_of (panel_with sizes) * sizes.block.h ≤ sizes.limit
row_fits sizes is = subst (λ (n : ℕ). n * sizes.block.h ≤ sizes.limit) (sym (width_at sizes.width sizes.height)) is.row

-- it is the grid of a list of this panel and these blocks
pub same_grid : (sizes : Sizes) (grid : Grid) → block_of grid ≡ sizes.block → rect_of grid.panel ≡ panel_with sizes → rules_of grid ≡ grid_with sizes
same_grid sizes grid block panel = ap (λ (k : BlockSize). grid_over k (rect_of grid.panel)) block ∙ ap (λ (r : Rect). grid_over sizes.block r) panel

-- so a slice may be taken from it
pub step_fits : (sizes : Sizes) (grid : Grid) → IsSizes sizes → block_of grid ≡ sizes.block → rect_of grid.panel ≡ panel_with sizes → width_of (rules_of grid).panel * (rules_of grid).step ≤ sizes.limit
step_fits sizes grid is block panel = subst (λ (r : Rounding). width_of r.panel * r.step ≤ sizes.limit) (sym (same_grid sizes grid block panel)) (row_fits sizes is)

-- the slice that was taken
pub taken : (sizes : Sizes) (areas : List Rect) (slice : Rect) → IsSizes sizes → IsRounded (grid_with sizes) areas → Some slice ≡ round_slice_of (grid_with sizes) sizes.limit areas →
    TakesRound (grid_with sizes) sizes.limit areas (left_round (grid_with sizes) sizes.limit areas) slice
taken sizes areas slice is sound e = round_takes (grid_with sizes) sizes.limit areas slice (grid_sound sizes is) sound (row_fits sizes is) e

-- it is the last of its area, or it has half of the limit
pub cut : (sizes : Sizes) (areas : List Rect) (slice : Rect) → IsSizes sizes → IsRounded (grid_with sizes) areas → Some slice ≡ round_slice_of (grid_with sizes) sizes.limit areas →
    (length (left_round (grid_with sizes) sizes.limit areas) < length areas) ⊎ (sizes.limit ≤ 2 * size_of slice)
cut sizes areas slice is sound e = ends_or_wide (grid_with sizes) sizes.limit areas slice (grid_sound sizes is) sound.pending (row_fits sizes is) e

-- a buffer with it was drawn for the panel
pub is_drawn : (sizes : Sizes) (areas left : List Rect) (slice : Rect) (buf : Buffer) → TakesRound (grid_with sizes) sizes.limit areas left slice → buf.area ≡ slice → buf.limit ≡ sizes.limit → IsDrawn sizes buf
is_drawn sizes areas left slice buf t area limit = record {
  inside = subst (λ (a : Rect). is_within (panel_with sizes) a ≡ true) (sym area) t.takes.inside;
  small = omega (arith, t.takes.small, ap size_of area);
  blocks = subst (IsRound (grid_with sizes)) (sym area) t.round;
  limit = limit;
}

-- an area that may be started is one of the list's panel, and its own rounding
pub own_area : (now : Stage) (grid : Grid) (buf : Buffer) → CanRefresh now → rect_of grid.panel ≡ now.pending.panel → block_of grid ≡ now.refresher.sizes.block → CanStart now.panel buf →
    (is_within (rules_of grid).panel buf.area ≡ true) × IsRound (rules_of grid) buf.area
own_area now grid buf can panel block h = (
  subst (λ (r : Rect). is_within r buf.area ≡ true) (sym (panel ∙ can.area)) h.inside,
  subst (λ (k : BlockSize). IsRound (grid_over k (rect_of grid.panel)) buf.area) (can.block ∙ sym block) h.blocks,
)

-- the refresher with the drawn buffer is in order
pub refreshing_drawn : (r : Refreshing) (free : ℕ) (buf : Buffer) → IsRefreshing r → r.drawn ≡ None → r.free ≡ free + 1 → IsDrawn r.sizes buf → IsRefreshing (record r { drawn = Some buf; free = free })
refreshing_drawn r free buf is none less drawn =
    let two = is.two in
    record { sizes = is.sizes; two = omega (arith, less, ap one_if (is_gone r.drawn none)); drawn = for_one (IsDrawn r.sizes) (Some buf) buf refl drawn }

-- the step
pub drawn_step : (color : ℤ → ℤ → Rgb565) (r s : Refreshing) (d e : Pending) (slice : Rect) (buf : Buffer) → s ≡ record r { drawn = Some buf; free = s.free } → r.free ≡ s.free + 1 → d.panel ≡ panel_with r.sizes → IsSizes r.sizes → IsRounded (grid_with r.sizes) d.areas →
    Some slice ≡ round_slice_of (grid_with r.sizes) r.sizes.limit d.areas → e ≡ record d { areas = left_round (grid_with r.sizes) r.sizes.limit d.areas } → buf.limit ≡ r.sizes.limit → buf.area ≡ slice →
    ((x y : ℤ) → has slice x y ≡ true → color_at slice buf.pixels x y ≡ color x y) → DrawnStep color r s d e
drawn_step color r s d e slice buf is less panel sizes sound first left limit area paints =
    let t = taken r.sizes d.areas slice sizes sound first in
    let after = left_round (grid_with r.sizes) r.sizes.limit d.areas in
    record {
      buf = buf;
      refresher = is;
      one_less = less;
      slice = ap Some area ∙ first;
      pending = left;
      takes = subst (Takes d.panel r.sizes.limit d.areas after) (sym area) (subst (λ (p : Rect). Takes p r.sizes.limit d.areas after slice) (sym panel) t.takes);
      blocks = subst (IsRound (grid_with r.sizes)) (sym area) t.round;
      cut = subst (λ (a : Rect). (length after < length d.areas) ⊎ (r.sizes.limit ≤ 2 * size_of a)) (sym area) (cut r.sizes d.areas slice sizes sound first);
      limit = limit;
      paints = subst (λ (a : Rect). (x y : ℤ) → has a x y ≡ true → color_at a buf.pixels x y ≡ color x y) (sym area) paints;
    }
