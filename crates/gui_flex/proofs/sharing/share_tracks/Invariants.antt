use Rattle.std.proofs.Common.{◌≡◌, ◌≤◌, ◌-◌, ◌++◌, length, take, drop}
use Rattle.layout_defs.specs.Flex.{shared}
use Rattle.gui_flex.specs.Items.{items_of, spots_of}
use Rattle.gui_flex.proofs.sharing.share_tracks.Given as goal

abbrev pub invariant-loop-first : goal.invariant-loop-first
invariant-loop-first l = record {
  spots : spots_of l.items ≡ spots_of l.fn.items;
  within : l.first ≤ length l.items;
  done : items_of (take l.first l.items) ++ shared l.wrap l.extent l.gap (items_of (drop l.first l.items)) ≡ shared l.wrap l.extent l.gap (items_of l.fn.items);
}

abbrev pub decreases-loop-first : goal.decreases-loop-first
decreases-loop-first l = length l.initial.items - l.first
