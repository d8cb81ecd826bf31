use Rattle.gui_draw.proofs.Common.{◌∙◌, ap, arith, Bool, masked, get_or, black}
use Rattle.gui_color.proofs.Changing.{changed_none, changed_more}
use Rattle.gui_draw.proofs.stamps.mix_dots.Goals as goal

pub loop-x-init : goal.loop-x-init
loop-x-init c = changed_none _ _

pub loop-x-preserved : goal.loop-x-preserved
loop-x-preserved c =
    changed_more _ c.loop-x.x _ c.loop-x.row c.mixed_if.result c.loop-x.invariant (omega arith)
    (c.mixed_if.ensures ∙ ap (λ (t : Bool). masked t c.args.fg c.args.opa (get_or c.loop-x.row c.loop-x.x black)) c.has_dot.ensures)

pub returns : goal.returns
returns c = λ k h. c.loop-x.invariant.done k (omega arith)
