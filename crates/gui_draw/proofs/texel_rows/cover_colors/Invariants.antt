use Rattle.gui_draw.proofs.Common.{◌+◌, ◌*◌}
use Rattle.text_defs.specs.Images.{color_at}
use Rattle.gui_color.proofs.Changing.{Changed}
use Rattle.gui_draw.proofs.texel_rows.cover_colors.Given as goal

abbrev pub invariant-loop-i : goal.invariant-loop-i
invariant-loop-i l = Changed (λ k bg. color_at l.bytes ((l.first + k) * 2)) l.i l.initial.row l.row
