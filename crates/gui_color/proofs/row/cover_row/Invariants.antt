use Rattle.std.proofs.Common.{◌≡◌, map, take, drop, ◌++◌}
use Rattle.gui_base.specs.declared.color.Rgb565.{Rgb565}
use Rattle.gui_color.proofs.row.cover_row.Given as goal

abbrev pub invariant-loop-pixel : goal.invariant-loop-pixel
invariant-loop-pixel l = l.row ≡ map (λ (bg : Rgb565). l.fg) (take l.pixel-index l.fn.row) ++ drop l.pixel-index l.fn.row
