use Rattle.std.proofs.Common.{◌≡◌, ◌<◌, length}
use Rattle.gui_pool.specs.Lists.{list_of, cleared}
use Rattle.gui_style.proofs.entries.Entries.clear.Given as goal

abbrev pub invariant-loop-self : goal.invariant-loop-self
invariant-loop-self l = record {
  others : cleared l.self l.owner ≡ cleared l.initial.self l.owner;
  within : l.owner < length l.self.lists;
}

abbrev pub decreases-loop-self : goal.decreases-loop-self
decreases-loop-self l = length (list_of l.self l.owner)
