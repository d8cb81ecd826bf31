use Rattle.std.proofs.Common.{◌≡◌, take}
use Rattle.gui_damage.specs.Damage.{rects_of}
use Rattle.gui_damage.specs.Rounded.{added_all_to}
use Rattle.gui_damage.proofs.damage.Damage.add_all.Given as goal

abbrev pub invariant-loop-area : goal.invariant-loop-area
invariant-loop-area g l = l.self ≡ added_all_to g.R.Round.rules l.fn.self (rects_of (take l.area-index l.areas))
