use Rattle.std.proofs.Common.{◌≡◌, length}
use Rattle.gui_pool.specs.Owners.{values_of}
use Rattle.gui_pool.proofs.lists.ListIter.next.Given as goal

abbrev pub invariant-loop-entry : goal.invariant-loop-entry
invariant-loop-entry g l = values_of l.self-inside.owner l.self-inside.entries ≡ values_of l.initial.self-inside.owner l.initial.self-inside.entries

abbrev pub decreases-loop-entry : goal.decreases-loop-entry
decreases-loop-entry g l = length l.self-inside.entries
