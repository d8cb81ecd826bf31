use Rattle.std.proofs.Common.{◌≡◌, ◌+◌, length}
use Rattle.gui_pool.specs.Lists.{list_of}
use Rattle.gui_pool.proofs.lists.Lists.len.Given as goal

abbrev pub invariant-loop-items : goal.invariant-loop-items
invariant-loop-items g l = l.count + length l.items ≡ length (list_of l.self l.owner)

abbrev pub decreases-loop-items : goal.decreases-loop-items
decreases-loop-items g l = length l.items
