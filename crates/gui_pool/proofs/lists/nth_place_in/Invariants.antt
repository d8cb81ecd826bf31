use Rattle.std.proofs.Common.{◌≡◌, ◌+◌, ◌<◌, ◌^◌, length}
use Rattle.gui_pool.specs.Lists.{list_of}
use Rattle.gui_pool.specs.Owners.{nth_place}
use Rattle.gui_pool.proofs.Entries.{beyond}
use Rattle.gui_pool.proofs.lists.nth_place_in.Given as goal

abbrev pub invariant-loop-entry : goal.invariant-loop-entry
invariant-loop-entry g l = record {
  rest : nth_place (list_of l.buckets l.bucket) l.owner l.n ≡ beyond l.place (nth_place l.entries l.owner l.left);
  few : l.place + length l.entries < 2 ^ 32;
}

abbrev pub decreases-loop-entry : goal.decreases-loop-entry
decreases-loop-entry g l = length l.entries
