use Rattle.std.proofs.Common.{◌∙◌, ap, arith, Bool, if◌then◌else◌, get_or}
use Rattle.gui_base.specs.Color.{black}
use Rattle.gui_color.proofs.Changing.{changed_none, changed_more}
use Rattle.gui_color.proofs.masks.cover_masked.Goals as goal

pub loop-i-init : goal.loop-i-init
loop-i-init c = changed_none _ _

pub loop-i-preserved : goal.loop-i-preserved
loop-i-preserved c =
    changed_more _ c.loop-i.i _ c.loop-i.row c.chosen.result c.loop-i.invariant (omega arith)
    (c.chosen.ensures ∙ ap (λ (t : Bool). if t then c.args.fg else get_or c.loop-i.row c.loop-i.i black) c.has_bit.ensures)

pub returns : goal.returns
returns c = λ k h. c.loop-i.invariant.done k (omega arith)
