use Rattle.std.proofs.Common.{◌≡◌, ◌∙◌, ◌+◌, ap, drop, rules, Err}
use Rattle.gui_base.specs.Refusing.{result_of}
use Rattle.gui_core.specs.Machines.{machine_of}
use Rattle.run_defs.specs.Machine.{Machine}
use Rattle.meter.specs.Commands.{after_all, refusal_of_all}
use Rattle.meter.proofs.Steps.{done_at, refused_at, refuses_at}
use Rattle.meter.proofs.meter.give_all.Goals as goal

pub loop-command-preserved : goal.loop-command-preserved
loop-command-preserved c =
    let rest = drop (c.loop-command.command-index + 1) c.args.commands.now in
    let done = done_at (machine_of c.loop-command.gui) c.args.commands.now c.loop-command.command-index c.command-item.result c.loop-command-test.true c.command-item.is c.in_ok-give.ensures.answer in
    record {
      answer = ap (λ (m : Machine). refusal_of_all m rest) c.give.ensures.machine ∙ (done.0 ∙ c.loop-command.invariant.answer);
      machine = ap (λ (m : Machine). after_all m rest) c.give.ensures.machine ∙ (done.1 ∙ c.loop-command.invariant.machine);
      ready = λ panel r. c.give.ensures.ready panel (c.loop-command.invariant.ready panel r);
    }

pub returns-in_err-give-clause-answer : goal.returns-in_err-give-clause-answer
returns-in_err-give-clause-answer c =
    let same : c.from_residual.result ≡ Err c.in_err-give.field-0.0 = search rules in
    same
    ∙ (refuses_at (machine_of c.loop-command.gui) c.args.commands.now c.loop-command.command-index c.command-item.result c.loop-command-test.true c.command-item.is _ c.in_err-give.ensures.answer ∙ ap result_of c.loop-command.invariant.answer)

pub returns-in_err-give-clause-machine : goal.returns-in_err-give-clause-machine
returns-in_err-give-clause-machine c =
    c.give.ensures.machine
    ∙ (refused_at (machine_of c.loop-command.gui) c.args.commands.now c.loop-command.command-index c.command-item.result c.loop-command-test.true c.command-item.is _ c.in_err-give.ensures.answer ∙ c.loop-command.invariant.machine)
