use Rattle.gui_draw.proofs.Common.{◌+◌, black}
use Rattle.gui_base.specs.declared.words.Format.TheVariants as format
use Rattle.gui_color.proofs.Changing.{Changed}
use Rattle.gui_draw.specs.Texels.{row_over}
use Rattle.gui_draw.proofs.texel_rows.blend_colors.Given as goal

abbrev pub invariant-loop-i : goal.invariant-loop-i
invariant-loop-i l = Changed (λ k bg. row_over format.Rgb565 l.bytes black l.opa (l.first + k) bg) l.i l.initial.row l.row
