use Rattle.gui_draw.proofs.Common.{◌≡◌, ◌∙◌, ◌+◌, ◌*◌, ◌/◌, sym, arith, get_or, black}
use Rattle.gui_base.specs.Color.{parts}
use Rattle.text_defs.specs.Images.{color_at}
use Rattle.gui_color.proofs.Mixes.{mix_all}
use Rattle.gui_draw.proofs.texel_rows.mix_colors.Goals as goal

pub returns-then-opa-ge252 : goal.returns-then-opa-ge252
returns-then-opa-ge252 c =
    let all : parts (255 * c.args.opa / 255) ≡ 32 = omega arith in
    λ k h. c.cover_colors.ensures k h ∙ sym (mix_all (color_at c.args.bytes.now ((c.args.first + k) * 2)) (get_or c.args.row.now k black) (255 * c.args.opa / 255) all)
