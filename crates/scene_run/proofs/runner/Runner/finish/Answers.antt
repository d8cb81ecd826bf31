use Rattle.std.proofs.lemmas.Result.{on_ok_weaker, on_err_weaker}
use Rattle.scene_run.proofs.Bytes.{ends, stops_at_end}
use Rattle.scene_run.proofs.runner.Runner.finish.Goals as goal
use Rattle.scene_run.specs.Running.{reading}

pub take_cut-requires : goal.take_cut-requires
take_cut-requires g c = record { answer = c.finish-cut.ensures.answer; ready = c.requires.ready }

pub returns-clause-ok : goal.returns-clause-ok
returns-clause-ok g c = on_ok_weaker c.take_cut.result (ends _ _ _ c.finish-cut.ensures.finishes) c.take_cut.ensures.ok

pub returns-clause-err : goal.returns-clause-err
returns-clause-err g c =
    let old = reading c.args.self.now (g.L.Sink.state c.args.log.now) (g.P.Panel.state c.args.panel.now) in
    on_err_weaker c.take_cut.result (stops_at_end old _ _ c.finish-cut.ensures.finishes) c.take_cut.ensures.err
