use Rattle.std.proofs.Common.{◌≡◌, length}
use Rattle.gui_pool.specs.Lists.{list_of}
use Rattle.gui_pool.specs.Entries.{find}
use Rattle.gui_pool.proofs.table.find_in.Given as goal

abbrev pub invariant-loop-entry : goal.invariant-loop-entry
invariant-loop-entry g l = find (list_of l.buckets l.bucket) l.key ≡ find l.entries l.key

abbrev pub decreases-loop-entry : goal.decreases-loop-entry
decreases-loop-entry g l = length l.entries
