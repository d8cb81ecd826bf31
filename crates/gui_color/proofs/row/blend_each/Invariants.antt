use Rattle.std.proofs.Common.{◌≡◌, map, take, drop, ◌++◌}
use Rattle.gui_base.specs.Color.{mix}
use Rattle.gui_color.proofs.row.blend_each.Given as goal

abbrev pub invariant-loop-pixel : goal.invariant-loop-pixel
invariant-loop-pixel l = l.row ≡ map (λ bg. mix l.fn.veil.fg bg l.fn.veil.opa) (take l.pixel-index l.fn.row) ++ drop l.pixel-index l.fn.row
