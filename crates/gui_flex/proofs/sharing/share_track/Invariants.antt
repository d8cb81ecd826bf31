use Rattle.std.proofs.Common.{◌≡◌, ◌≤◌, ◌*◌, ◌++◌, take, drop}
use Rattle.layout_defs.specs.Flex.{shared_item, numbered, weight_to}
use Rattle.gui_flex.specs.Items.{items_of, spots_of}
use Rattle.gui_flex.proofs.sharing.share_track.Given as goal

abbrev pub invariant-loop-item : goal.invariant-loop-item
invariant-loop-item l = record {
  spots : spots_of l.track ≡ spots_of l.fn.track;
  before : l.before ≡ weight_to (items_of l.fn.track) l.item-index;
  small : l.before ≤ 255 * l.item-index;
  left : drop l.item-index l.track ≡ drop l.item-index l.fn.track;
  done : items_of (take l.item-index l.track) ++ numbered (shared_item l.free (items_of l.fn.track)) l.item-index (items_of (drop l.item-index l.track)) ≡ numbered (shared_item l.free (items_of l.fn.track)) 0 (items_of l.fn.track);
}
