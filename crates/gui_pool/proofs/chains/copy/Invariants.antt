use Rattle.std.proofs.Common.{◌≡◌, ◌≤◌, ◌+◌, ◌++◌, length, take}
use Rattle.gui_pool.specs.Lists.{list_of}
use Rattle.gui_pool.specs.Pieces.{joined}
use Rattle.gui_pool.proofs.chains.copy.Given as goal

abbrev pub invariant-loop-chunk : goal.invariant-loop-chunk
invariant-loop-chunk l = record {
  bytes : l.out.items ++ take l.left (joined l.items) ≡ take l.fn.len (joined (list_of l.chunks l.fn.owner));
  few : length l.out.items + l.left ≤ 1000;
}

abbrev pub decreases-loop-chunk : goal.decreases-loop-chunk
decreases-loop-chunk l = length l.items
