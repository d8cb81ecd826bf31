use Rattle.gui_draw.proofs.Common.{◌∙◌, ap, arith, Bool, if◌then◌else◌, get_or, black}
use Rattle.gui_color.proofs.Changing.{changed_none, changed_more}
use Rattle.gui_draw.proofs.stamps.cover_dots.Goals as goal

pub loop-x-init : goal.loop-x-init
loop-x-init c = changed_none _ _

pub loop-x-preserved : goal.loop-x-preserved
loop-x-preserved c =
    changed_more _ c.loop-x.x _ c.loop-x.row c.chosen.result c.loop-x.invariant (omega arith)
    (c.chosen.ensures ∙ ap (λ (t : Bool). if t then c.args.fg else get_or c.loop-x.row c.loop-x.x black) c.has_dot.ensures)

pub returns : goal.returns
returns c = λ k h. c.loop-x.invariant.done k (omega arith)
