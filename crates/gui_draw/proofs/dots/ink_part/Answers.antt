use Rattle.gui_draw.proofs.Common.{sym, subst, arith, Rect, rect_of, HasLine}
use Rattle.gui_draw.proofs.Lines.{part_start, part_more, part_all, has_line}
use Rattle.gui_draw.proofs.dots.ink_part.Goals as goal

pub loop-line-init : goal.loop-line-init
loop-line-init g c = part_start c.args.buf.now (rect_of c.args.brush.part) _ c.args.steps.now

pub ink_line-requires-clause-has : goal.ink_line-requires-clause-has
ink_line-requires-clause-has g c =
    subst (λ (area : Rect). HasLine area (rect_of c.args.brush.part) c.loop-line.line) (sym c.loop-line.invariant.area_stays)
    (has_line c.args.buf.now.area (rect_of c.args.brush.part) c.loop-line.line c.requires.inside (omega (arith, c.height-line-end.ensures)))

pub loop-line-preserved : goal.loop-line-preserved
loop-line-preserved g c = part_more _ _ _ (rect_of c.args.brush.part) c.loop-line.line _ _ _ _ c.loop-line.invariant c.ink_line.ensures

pub returns : goal.returns
returns g c = part_all _ _ (rect_of c.args.brush.part) c.loop-line.line _ _ _ (omega (arith, c.height-line-end.ensures)) c.loop-line.invariant
