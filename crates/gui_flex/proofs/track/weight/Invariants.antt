use Rattle.std.proofs.Common.{◌≡◌, ◌≤◌, ◌*◌, take}
use Rattle.std.specs.List.{sum_by}
use Rattle.layout_defs.specs.Flex.{grow_of}
use Rattle.gui_flex.specs.Items.{item_of}
use Rattle.gui_flex.proofs.track.weight.Given as goal

abbrev pub invariant-loop-item : goal.invariant-loop-item
invariant-loop-item l = record { sum : l.weight ≡ sum_by (λ x. grow_of (item_of x)) (take l.item-index l.track); small : l.weight ≤ 255 * l.item-index }
