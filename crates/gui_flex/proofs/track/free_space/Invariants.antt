use Rattle.std.proofs.Common.{◌≡◌, ◌≤◌, ◌*◌, take}
use Rattle.std.specs.List.{sum_by}
use Rattle.layout_defs.specs.Flex.{counted}
use Rattle.gui_flex.specs.Items.{item_of}
use Rattle.gui_flex.proofs.track.free_space.Given as goal

abbrev pub invariant-loop-item : goal.invariant-loop-item
invariant-loop-item l = record { sum : l.sizes ≡ sum_by (λ x. counted (item_of x)) (take l.item-index l.track); small : l.sizes ≤ 8191 * l.item-index }
