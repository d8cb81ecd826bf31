use Rattle.gui_draw.proofs.Common.{◌∙◌}
use Rattle.gui_base.specs.declared.words.Format.TheVariants as format
use Rattle.gui_draw.proofs.Picturing.{by_row}
use Rattle.gui_draw.proofs.texels.mix_texels.Goals as goal

pub returns-in-Rgb565 : goal.returns-in-Rgb565
returns-in-Rgb565 c = λ k h. c.mix_colors.ensures k h ∙ by_row c.args.texels c.args.y _ k format.Rgb565 _ _ c.requires h c.in-Rgb565.is c.row-bytes.ensures.texels

pub returns-in-Rgb565Alpha : goal.returns-in-Rgb565Alpha
returns-in-Rgb565Alpha c = λ k h. c.mix_shades.ensures k h ∙ by_row c.args.texels c.args.y _ k format.Rgb565Alpha _ _ c.requires h c.in-Rgb565Alpha.is c.row-bytes.ensures.texels

pub returns-in-Alpha : goal.returns-in-Alpha
returns-in-Alpha c = λ k h. c.mix_alphas.ensures k h ∙ by_row c.args.texels c.args.y _ k format.Alpha _ _ c.requires h c.in-Alpha.is c.row-bytes.ensures.texels
