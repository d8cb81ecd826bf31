use Rattle.std.proofs.Common.{◌≡◌, ◌+◌, length}
use Rattle.gui_damage.specs.Damage.{rects_of}
use Rattle.gui_damage.specs.Pending.{total}
use Rattle.gui_board.proofs.pending.pixels_of.Given as goal

-- those of the areas before the rest are added
abbrev pub invariant-loop-rest : goal.invariant-loop-rest
invariant-loop-rest l = l.pixels + total (rects_of l.rest) ≡ total (rects_of l.areas)

abbrev pub decreases-loop-rest : goal.decreases-loop-rest
decreases-loop-rest l = length l.rest
