use Rattle.gui_draw.proofs.Common.{◌∙◌, ◌≡◌, ◌*◌, ◌/◌, ap, arith, get_or, black, mix}
use Rattle.gui_color.proofs.Changing.{changed_none, changed_more}
use Rattle.gui_draw.proofs.texel_rows.blend_colors.Goals as goal

pub loop-i-init : goal.loop-i-init
loop-i-init c = changed_none _ _

pub loop-i-preserved : goal.loop-i-preserved
loop-i-preserved c =
    let whole : c.args.opa ≡ 255 * c.args.opa / 255 = omega arith in
    changed_more _ c.loop-i.i _ c.loop-i.row c.mix.result c.loop-i.invariant (omega arith)
    (c.mix.ensures ∙ rw c.color_at.ensures (ap (mix _ (get_or c.loop-i.row c.loop-i.i black)) whole))

pub returns : goal.returns
returns c = λ k h. c.loop-i.invariant.done k (omega arith)
