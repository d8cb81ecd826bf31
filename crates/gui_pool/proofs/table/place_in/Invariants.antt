use Rattle.std.proofs.Common.{◌≡◌, ◌+◌, ◌<◌, ◌^◌, length}
use Rattle.gui_pool.specs.Lists.{list_of}
use Rattle.gui_pool.specs.Entries.{place_of}
use Rattle.gui_pool.proofs.Entries.{beyond}
use Rattle.gui_pool.proofs.table.place_in.Given as goal

abbrev pub invariant-loop-entry : goal.invariant-loop-entry
invariant-loop-entry g l = record {
  rest : place_of (list_of l.buckets l.bucket) l.key ≡ beyond l.place (place_of l.entries l.key);
  few : l.place + length l.entries < 2 ^ 32;
}

abbrev pub decreases-loop-entry : goal.decreases-loop-entry
decreases-loop-entry g l = length l.entries
