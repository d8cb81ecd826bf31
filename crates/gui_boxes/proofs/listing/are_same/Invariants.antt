use Rattle.std.proofs.Common.{◌≡◌, ◌<◌, ℕ, get_or}
use Rattle.gui_base.specs.declared.Handle.{Handle}
use Rattle.gui_boxes.proofs.listing.are_same.Given as goal

abbrev pub none : Handle
none = record { 0 = 0 }

abbrev pub invariant-loop-i : goal.invariant-loop-i
invariant-loop-i l = (k : ℕ) → k < l.i → get_or l.some k none ≡ get_or l.others k none
