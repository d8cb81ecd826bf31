use Rattle.std.proofs.Common.{◌≡◌, ◌<◌, length}
use Rattle.gui_pool.specs.Lists.{list_of, cleared}
use Rattle.gui_style.proofs.uses.Uses.clear.Given as goal

abbrev pub invariant-loop-h : goal.invariant-loop-h
invariant-loop-h l = record {
  others : cleared l.self l.h.0 ≡ cleared l.initial.self l.h.0;
  within : l.h.0 < length l.self.lists;
}

abbrev pub decreases-loop-h : goal.decreases-loop-h
decreases-loop-h l = length (list_of l.self l.h.0)
