use Rattle.gui_draw.proofs.Common.{◌≡◌, ◌∙◌, ◌+◌, ◌*◌, refl, arith}
use Rattle.gui_color.proofs.Changing.{changed_none, changed_more}
use Rattle.gui_draw.proofs.texel_rows.mix_alphas.Goals as goal

pub loop-i-init : goal.loop-i-init
loop-i-init c = changed_none _ _

pub loop-i-preserved : goal.loop-i-preserved
loop-i-preserved c =
    let one : (c.args.first + c.loop-i.i) * 1 ≡ c.args.first + c.loop-i.i = omega arith in
    changed_more _ c.loop-i.i _ c.loop-i.row c.mix.result c.loop-i.invariant (omega arith)
    (c.mix.ensures ∙ rw (one, c.combine.ensures) refl)

pub returns : goal.returns
returns c = λ k h. c.loop-i.invariant.done k (omega arith)
