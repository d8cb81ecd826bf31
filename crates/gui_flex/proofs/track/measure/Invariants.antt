use Rattle.std.proofs.Common.{◌≡◌, ◌≤◌, ◌+◌, ◌-◌, ◌*◌, length, drop}
use Rattle.std.specs.List.{sum_by}
use Rattle.layout_defs.specs.Flex.{thickness, tracks}
use Rattle.gui_flex.specs.Items.{items_of}
use Rattle.gui_flex.proofs.track.measure.Given as goal

abbrev pub invariant-loop-first : goal.invariant-loop-first
invariant-loop-first l = record {
  within : l.first ≤ length l.items;
  few : l.count ≤ l.first;
  small : l.sizes ≤ 8191 * l.count;
  count : l.count + length (tracks l.wrap l.extent l.gap (items_of (drop l.first l.items))) ≡ length (tracks l.wrap l.extent l.gap (items_of l.items));
  sum : l.sizes + sum_by thickness (tracks l.wrap l.extent l.gap (items_of (drop l.first l.items))) ≡ sum_by thickness (tracks l.wrap l.extent l.gap (items_of l.items));
}

abbrev pub decreases-loop-first : goal.decreases-loop-first
decreases-loop-first l = length l.items - l.first
