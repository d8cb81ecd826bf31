use Rattle.std.proofs.Common.{◌∙◌, ap, subst, arith}
use Rattle.std.specs.Io.KnownBytes.{Appends}
use Rattle.std.proofs.KnownBytes.{Appends-trans}
use Rattle.gui_edge.proofs.Prefixes.{on_err, AppendsPrefix-append, AppendsPrefix-behind}
use Rattle.gui_edge.specs.Sink.{AppendsPrefix}
use Rattle.run_defs.specs.Run.{reply_line}
use Rattle.scene_run.proofs.answer.make.Goals as goal

pub returns-in_err-reply-clause-err : goal.returns-in_err-reply-clause-err
returns-in_err-reply-clause-err g c = on_err c.from_residual.result (AppendsPrefix-append _ _ _ _ c.in_err-reply.ensures.cut)

pub returns-in_err-put-clause-err : goal.returns-in_err-put-clause-err
returns-in_err-put-clause-err g c =
    let said = c.as_slice.ensures.value ∙ (c.reply_text.ensures ∙ ap (reply_line c.args.number) c.in_ok-reply.ensures.reply) in
    on_err c.from_residual-in_err-put.result (AppendsPrefix-behind _ _ _ _ _ c.in_ok-reply.ensures.lines (subst (AppendsPrefix _ _) said c.in_err-put.ensures.err))

pub returns-in_err-reply-clause-cause : goal.returns-in_err-reply-clause-cause
returns-in_err-reply-clause-cause g c = record { later = c.in_err-reply.ensures.cause.later; failed = on_err c.from_residual.result c.in_err-reply.ensures.cause.failed }

pub returns-in_err-put-clause-cause : goal.returns-in_err-put-clause-cause
returns-in_err-put-clause-cause g c =
    let before = c.in_ok-reply.ensures.cause.later in
    record { later = omega (arith, before, c.in_err-put.ensures.cause.later); failed = on_err c.from_residual-in_err-put.result (omega (arith, before, c.in_err-put.ensures.cause.failed)) }

pub returns-clause-cause : goal.returns-clause-cause
returns-clause-cause g c = record { later = omega (arith, c.in_ok-reply.ensures.cause.later, c.in_ok-put.ensures.cause.later); failed = tt }

pub returns-clause-reply : goal.returns-clause-reply
returns-clause-reply g c = c.in_ok-reply.ensures.reply

pub returns-clause-ok : goal.returns-clause-ok
returns-clause-ok g c =
    let said = c.as_slice.ensures.value ∙ (c.reply_text.ensures ∙ ap (reply_line c.args.number) c.in_ok-reply.ensures.reply) in
    Appends-trans _ _ _ _ _ c.in_ok-reply.ensures.lines (subst (Appends _ _) said c.in_ok-put.ensures.ok)

pub returns-in_err-reply-clause-machine : goal.returns-in_err-reply-clause-machine
returns-in_err-reply-clause-machine g c = c.in_err-reply.ensures.machine

pub returns-in_err-reply-clause-damage : goal.returns-in_err-reply-clause-damage
returns-in_err-reply-clause-damage g c = c.in_err-reply.ensures.damage

pub returns-in_err-reply-clause-agrees : goal.returns-in_err-reply-clause-agrees
returns-in_err-reply-clause-agrees g c = c.in_err-reply.ensures.agrees

pub returns-in_err-reply-clause-refresher : goal.returns-in_err-reply-clause-refresher
returns-in_err-reply-clause-refresher g c = c.in_err-reply.ensures.refresher

pub returns-in_err-reply-clause-progress : goal.returns-in_err-reply-clause-progress
returns-in_err-reply-clause-progress g c = c.in_err-reply.ensures.progress

pub returns-in_err-put-clause-machine : goal.returns-in_err-put-clause-machine
returns-in_err-put-clause-machine g c = c.in_ok-reply.ensures.machine

pub returns-in_err-put-clause-damage : goal.returns-in_err-put-clause-damage
returns-in_err-put-clause-damage g c = c.in_ok-reply.ensures.damage

pub returns-in_err-put-clause-agrees : goal.returns-in_err-put-clause-agrees
returns-in_err-put-clause-agrees g c = c.in_ok-reply.ensures.agrees

pub returns-in_err-put-clause-refresher : goal.returns-in_err-put-clause-refresher
returns-in_err-put-clause-refresher g c = c.in_ok-reply.ensures.refresher

pub returns-in_err-put-clause-progress : goal.returns-in_err-put-clause-progress
returns-in_err-put-clause-progress g c = c.in_ok-reply.ensures.progress

pub returns-clause-machine : goal.returns-clause-machine
returns-clause-machine g c = c.in_ok-reply.ensures.machine

pub returns-clause-damage : goal.returns-clause-damage
returns-clause-damage g c = c.in_ok-reply.ensures.damage

pub returns-clause-agrees : goal.returns-clause-agrees
returns-clause-agrees g c = c.in_ok-reply.ensures.agrees

pub returns-clause-refresher : goal.returns-clause-refresher
returns-clause-refresher g c = c.in_ok-reply.ensures.refresher

pub returns-clause-progress : goal.returns-clause-progress
returns-clause-progress g c = c.in_ok-reply.ensures.progress
