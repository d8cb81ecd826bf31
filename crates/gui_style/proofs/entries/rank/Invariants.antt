use Rattle.std.proofs.Common.{◌≡◌, ◌+◌, ◌-◌, ◌≤◌, take, length}
use Rattle.std.specs.List.{filter}
use Rattle.gui_pool.specs.Lists.{list_of}
use Rattle.gui_style.specs.Filed.{has_prop}
use Rattle.gui_style.proofs.entries.rank.Given as goal

abbrev pub invariant-loop-i : goal.invariant-loop-i
invariant-loop-i l = record {
  rest : length (filter (has_prop l.prop) (take l.n (list_of l.entries l.owner))) ≡ l.count + length (filter (has_prop l.prop) (take (l.n - l._i) l.items));
  few : l.count ≤ l._i;
}
