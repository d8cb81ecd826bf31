use Rattle.std.proofs.Common.{◌≡◌, ◌-◌, slice_get}
use Rattle.gui_pool.specs.Lists.{list_of}
use Rattle.gui_pool.proofs.lists.Lists.nth.Given as goal

abbrev pub invariant-loop-i : goal.invariant-loop-i
invariant-loop-i g l = slice_get (list_of l.self l.owner) l.n ≡ slice_get l.items (l.n - l._i)
