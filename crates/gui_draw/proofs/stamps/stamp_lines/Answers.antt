use Rattle.gui_draw.proofs.Common.{sym, subst, arith, Rect, rect_of, HasLine}
use Rattle.gui_draw.proofs.Lines.{part_start, part_more, part_all, has_line}
use Rattle.gui_draw.proofs.stamps.stamp_lines.Goals as goal

pub loop-line-init : goal.loop-line-init
loop-line-init g c = part_start c.args.buf.now (rect_of c.args.stamp.part) _ c.args.steps.now

pub stamp_line-requires-clause-has : goal.stamp_line-requires-clause-has
stamp_line-requires-clause-has g c =
    subst (λ (area : Rect). HasLine area (rect_of c.args.stamp.part) c.loop-line.line) (sym c.loop-line.invariant.area_stays)
    (has_line c.args.buf.now.area (rect_of c.args.stamp.part) c.loop-line.line c.requires.inside (omega (arith, c.requires.high)))

pub stamp_line-requires-clause-row : goal.stamp_line-requires-clause-row
stamp_line-requires-clause-row g c = omega (arith, c.requires.rows)

pub loop-line-preserved : goal.loop-line-preserved
loop-line-preserved g c = part_more _ _ _ (rect_of c.args.stamp.part) c.loop-line.line _ _ _ _ c.loop-line.invariant c.stamp_line.ensures

pub returns : goal.returns
returns g c = part_all _ _ (rect_of c.args.stamp.part) c.loop-line.line _ _ _ (omega (arith, c.requires.high)) c.loop-line.invariant
