use Rattle.std.proofs.Common.{◌++◌, subst, take, arith}
use Rattle.std.proofs.KnownBytes.{Appends-trans}
use Rattle.std.proofs.lemmas.Grind.{common_steps}
use Rattle.gui_edge.specs.Sink.{AppendsPrefix}
use Rattle.gui_edge.proofs.Prefixes.{on_err, AppendsPrefix-append, AppendsPrefix-behind}
use Rattle.panel_stream.specs.Viewer.{color_bytes, head_bytes}
use Rattle.panel_stream.proofs.Colors.{bytes_more}
use Rattle.panel_stream.proofs.writing.write_area.Goals as goal

pub returns-in_err-put_colors-clause-err : goal.returns-in_err-put_colors-clause-err
returns-in_err-put_colors-clause-err g c =
    on_err c.from_residual-in_err-put_colors.result (subst (AppendsPrefix _ _) (bytes_more _ _ _ c.min.result c.loop-rest.invariant.whole)
    (AppendsPrefix-append _ _ _ _ (AppendsPrefix-behind _ _ _ _ _ c.loop-rest.invariant.written (rw c.split_at.ensures.front at c.in_err-put_colors.ensures.err))))

pub loop-rest-preserved : goal.loop-rest-preserved
loop-rest-preserved g c = record {
  bytes = c.loop-rest.invariant.bytes ++ color_bytes (take c.min.result c.loop-rest.rest.now);
  whole = rw c.split_at.ensures.back (bytes_more _ _ c.loop-rest.rest.now c.min.result c.loop-rest.invariant.whole);
  written = Appends-trans _ _ _ _ _ c.loop-rest.invariant.written (rw c.split_at.ensures.front at c.in_ok-put_colors.ensures.ok);
  later = omega arith;
}

pub loop-rest-smaller : goal.loop-rest-smaller
loop-rest-smaller g c = grind (arith, common_steps)

pub returns-clause-ok : goal.returns-clause-ok
returns-clause-ok g c = grind (arith, common_steps)

pub returns-in_err-put-clause-err : goal.returns-in_err-put-clause-err
returns-in_err-put-clause-err g c = on_err c.from_residual.result (AppendsPrefix-append _ _ (head_bytes c.args.buf.now.area) _ (rw (← c.area.ensures, ← c.head_bytes.ensures) c.in_err-put.ensures.err))
