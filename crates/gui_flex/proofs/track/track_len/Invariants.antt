use Rattle.std.proofs.Common.{◌≡◌, ◌≤◌, ◌<◌, ◌*◌, ◌-◌, length, take, drop}
use Rattle.layout_defs.specs.Flex.{tracks, tracks_from}
use Rattle.gui_flex.specs.Items.{items_of}
use Rattle.gui_flex.proofs.Steps.{ahead}
use Rattle.gui_flex.proofs.track.track_len.Given as goal

abbrev pub invariant-loop-end : goal.invariant-loop-end
invariant-loop-end l = record {
  some : 0 < l.end;
  within : l.end ≤ length l.items;
  small : l.long ≤ 9191 * l.end;
  track : tracks l.wrap l.extent l.gap (items_of l.items) ≡ ahead (take l.end (items_of l.items)) (tracks_from l.wrap l.extent l.gap l.long (drop l.end (items_of l.items)));
}

abbrev pub decreases-loop-end : goal.decreases-loop-end
decreases-loop-end l = length l.items - l.end
