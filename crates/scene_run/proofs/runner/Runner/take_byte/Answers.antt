use Rattle.std.proofs.lemmas.Result.{on_ok_weaker, on_err_weaker}
use Rattle.scene_run.proofs.Bytes.{reads_byte, stops_byte}
use Rattle.scene_run.proofs.runner.Runner.take_byte.Goals as goal
use Rattle.scene_run.specs.Running.{reading}

pub take_cut-requires : goal.take_cut-requires
take_cut-requires g c = record { answer = c.push-cut.ensures.answer; ready = c.requires.ready }

pub returns-clause-ok : goal.returns-clause-ok
returns-clause-ok g c =
    let old = reading c.args.self.now (g.L.Sink.state c.args.log.now) (g.P.Panel.state c.args.panel.now) in
    on_ok_weaker c.take_cut.result (reads_byte old _ _ c.args.byte c.push-cut.ensures.takes c.take_cut.ensures.line) c.take_cut.ensures.ok

pub returns-clause-err : goal.returns-clause-err
returns-clause-err g c =
    let old = reading c.args.self.now (g.L.Sink.state c.args.log.now) (g.P.Panel.state c.args.panel.now) in
    on_err_weaker c.take_cut.result (stops_byte old _ _ c.args.byte c.push-cut.ensures.takes) c.take_cut.ensures.err
