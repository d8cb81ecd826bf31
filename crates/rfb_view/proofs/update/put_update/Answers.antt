use Rattle.std.proofs.Common.{◌≡◌, ◌∙◌, ap, subst, ◌++◌, ◌+◌, ℕ, List, arith}
use Rattle.std.specs.Io.KnownBytes.{Appends}
use Rattle.std.proofs.KnownBytes.{Appends-trans}
use Rattle.gui_edge.specs.Sink.{AppendsPrefix}
use Rattle.gui_edge.proofs.Prefixes.{on_err, AppendsPrefix-append, AppendsPrefix-behind}
use Rattle.session_defs.specs.Updates.{update_head}
use Rattle.rfb_view.specs.Blocks.{block_area}
use Rattle.rfb_view.proofs.Sending.{sent_to, sent_none, sent_more, sent_all, sent_after, sent_rest}
use Rattle.rfb_view.proofs.update.put_update.Goals as goal

pub returns-in_err-put-clause-err : goal.returns-in_err-put-clause-err
returns-in_err-put-clause-err g c =
    on_err c.from_residual.result (AppendsPrefix-append _ _ (update_head (block_area c.args.block)) _ (rw (← c.update_head.ensures, ← c.as_slice.ensures.value) c.in_err-put.ensures.err))

pub loop-line-init : goal.loop-line-init
loop-line-init g c =
    let b = c.args.block in record {
      written = subst (Appends _ _) (c.as_slice.ensures.value ∙ c.update_head.ensures ∙ sent_none c.args.width c.args.format c.args.colors.now b.left b.top b.columns b.lines) c.in_ok-put.ensures.ok;
      later = omega (arith, c.in_ok-put.ensures.cause.later);
    }

pub returns-in_err-put_line-clause-err : goal.returns-in_err-put_line-clause-err
returns-in_err-put_line-clause-err g c =
    let b = c.args.block in
    let y : ℕ = c.loop-line.line in
    let after : List ℕ = sent_after c.args.width c.args.format c.args.colors.now b.left b.top b.columns b.lines (y + 1) in
    on_err c.from_residual-in_err-put_line.result
    (subst (AppendsPrefix _ _)
    (ap (λ (xs : List ℕ). xs ++ after) (sent_more c.args.width c.args.format c.args.colors.now b.left b.top b.columns b.lines y c.loop-line-test.true c.requires.wide c.requires.high)
    ∙ sent_rest c.args.width c.args.format c.args.colors.now b.left b.top b.columns b.lines (y + 1) (omega (arith, c.loop-line-test.true)))
    (AppendsPrefix-append _ _ _ after (AppendsPrefix-behind _ _ _ _ _ c.loop-line.invariant.written (rw c.line_of.ensures at c.in_err-put_line.ensures.err))))

pub loop-line-preserved : goal.loop-line-preserved
loop-line-preserved g c =
    let b = c.args.block in record {
      written = subst (Appends _ _) (sent_more c.args.width c.args.format c.args.colors.now b.left b.top b.columns b.lines c.loop-line.line c.loop-line-test.true c.requires.wide c.requires.high)
          (Appends-trans _ _ _ _ _ c.loop-line.invariant.written (rw c.line_of.ensures at c.in_ok-put_line.ensures.ok));
      later = omega (arith, c.in_ok-put_line.ensures.cause.later, c.loop-line.invariant.later);
    }

pub returns-clause-ok : goal.returns-clause-ok
returns-clause-ok g c =
    let b = c.args.block in
    let all : c.loop-line.line ≡ b.lines = omega (arith, c.loop-line-test.false, c.loop-line.auto.line-end) in
    subst (Appends _ _) (ap (λ (y : ℕ). sent_to c.args.width c.args.format c.args.colors.now b.left b.top b.columns b.lines y) all ∙ sent_all c.args.width c.args.format c.args.colors.now b.left b.top b.columns b.lines)
    c.loop-line.invariant.written
