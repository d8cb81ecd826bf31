use Rattle.std.proofs.Common.{◌≡◌, map, take, drop, ◌++◌}
use Rattle.gui_font.specs.Views.{marked}
use Rattle.gui_font.proofs.fonts.mark_finished.Given as goal

abbrev pub invariant-loop-slot : goal.invariant-loop-slot
invariant-loop-slot l = l.fonts ≡ map (marked l.name) (take l.slot-index l.fn.fonts) ++ drop l.slot-index l.fn.fonts
