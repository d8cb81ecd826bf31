use Rattle.std.proofs.Common.{◌≡◌}
use Rattle.gui_pool.specs.Runs.{slot_at}
use Rattle.gui_pool.proofs.buckets.slot_at.Given as goal

abbrev pub invariant-loop-i : goal.invariant-loop-i
invariant-loop-i g l = l.slot ≡ slot_at l.slots.slots l.first l._i
