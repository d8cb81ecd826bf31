use Rattle.std.proofs.Common.{◌∙◌, ap, arith, Bool, get_or}
use Rattle.gui_base.specs.Color.{black}
use Rattle.gui_color.specs.Masks.{masked}
use Rattle.gui_color.proofs.Changing.{changed_none, changed_more}
use Rattle.gui_color.proofs.masks.blend_masked.Goals as goal

pub loop-i-init : goal.loop-i-init
loop-i-init c = changed_none _ _

pub loop-i-preserved : goal.loop-i-preserved
loop-i-preserved c =
    changed_more _ c.loop-i.i _ c.loop-i.row c.over_if.result c.loop-i.invariant (omega arith)
    (c.over_if.ensures ∙ ap (λ (t : Bool). masked t c.args.veil.fg c.args.veil.opa (get_or c.loop-i.row c.loop-i.i black)) c.has_bit.ensures)

pub returns : goal.returns
returns c = λ k h. c.loop-i.invariant.done k (omega arith)
