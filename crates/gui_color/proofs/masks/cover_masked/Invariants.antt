use Rattle.std.proofs.Common.{◌-◌, ◌/◌, ◌%◌, ◌^◌, ◌==◌, if◌then◌else◌}
use Rattle.gui_color.proofs.Changing.{Changed}
use Rattle.gui_color.proofs.masks.cover_masked.Given as goal

abbrev pub invariant-loop-i : goal.invariant-loop-i
invariant-loop-i l = Changed (λ k bg. if l.byte / 2 ^ (7 - k) % 2 == 1 then l.fg else bg) l.i l.initial.row l.row
