use Rattle.std.proofs.Common.{◌-◌, ◌/◌, ◌%◌, ◌^◌, ◌==◌}
use Rattle.gui_color.specs.Masks.{masked}
use Rattle.gui_color.proofs.Changing.{Changed}
use Rattle.gui_color.proofs.masks.blend_masked.Given as goal

abbrev pub invariant-loop-i : goal.invariant-loop-i
invariant-loop-i l = Changed (λ k. masked (l.byte / 2 ^ (7 - k) % 2 == 1) l.veil.fg l.veil.opa) l.i l.initial.row l.row
