use Rattle.std.proofs.Common.{ap, subst, ◌∙◌, Some}
use Rattle.gui_edge.proofs.Prefixes.{on_err}
use Rattle.gui_core.specs.Machines.{machine_of, pending_in, refresher_in}
use Rattle.scene_run.specs.Effects.{output}
use Rattle.scene_run.specs.Running.{running, GoesOn, Halts}
use Rattle.scene_run.proofs.Going.{goes_on_none, goes_on_one, halts_at}
use Rattle.scene_run.proofs.runner.Runner.take_cut.Goals as goal

pub returns-clause-ok : goal.returns-clause-ok
returns-clause-ok g c =
    let old = running c.args.self.now (g.L.Sink.state c.args.log.now) (g.P.Panel.state c.args.panel.now) in
    let new = running c.go_on.new.self (g.L.Sink.state c.answer.new.log) (g.P.Panel.state c.answer.new.panel) in
    subst (GoesOn old new) c.in-Some.ensures.says
    (goes_on_one old new c.in-Some.said c.in_ok-end.end.outcome c.in_ok-end.end.noted c.in_ok-end.ensures.ok c.in_ok-end.ensures.fits c.in_ok-end.ensures.noted
    (ap machine_of c.go_on.ensures.gui ∙ c.in_ok-end.ensures.machine) c.go_on.ensures.number c.go_on.ensures.frame (ap Some c.go_on.ensures.noted) (rw c.go_on.ensures.gui c.in_ok-end.ensures.can)
    (rw c.go_on.ensures.gui c.in_ok-end.ensures.agrees) (rw c.go_on.ensures.gui c.in_ok-end.ensures.counts) (rw c.go_on.ensures.gui c.in_ok-end.ensures.flies))

pub returns-in_err-end-clause-err : goal.returns-in_err-end-clause-err
returns-in_err-end-clause-err g c =
    let old = running c.args.self.now (g.L.Sink.state c.args.log.now) (g.P.Panel.state c.args.panel.now) in
    let new = output (g.L.Sink.state c.answer.new.log) (g.P.Panel.state c.answer.new.panel) in
    on_err c.from_residual.result (subst (Halts old new) c.in-Some.ensures.says (halts_at old new (refresher_in c.answer.new.gui) (pending_in c.answer.new.gui) c.in-Some.said c.in_err-end.ensures.err c.in_err-end.ensures.can.sizes))

pub returns-in_default-clause-ok : goal.returns-in_default-clause-ok
returns-in_default-clause-ok g c =
    let old = running c.args.self.now (g.L.Sink.state c.args.log.now) (g.P.Panel.state c.args.panel.now) in
    subst (GoesOn old old) c.in_default.ensures.says (goes_on_none old)
