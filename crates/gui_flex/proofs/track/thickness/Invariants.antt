use Rattle.std.proofs.Common.{◌≡◌, ◌≤◌, take}
use Rattle.layout_defs.specs.Flex.{thickness}
use Rattle.gui_flex.specs.Items.{items_of}
use Rattle.gui_flex.proofs.track.thickness.Given as goal

abbrev pub invariant-loop-item : goal.invariant-loop-item
invariant-loop-item l = record { most : l.most ≡ thickness (items_of (take l.item-index l.track)); small : l.most ≤ 8191 }
