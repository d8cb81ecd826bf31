use Rattle.std.proofs.Common.{sym}
use Rattle.scene_host.proofs.Starting.{runs_from, answers_from}
use Rattle.scene_host.proofs.top.run_counted.Goals as goal

pub returns-clause-runs : goal.returns-clause-runs
returns-clause-runs g c = record {
  panel = c.run_asked-status.new.panel.state;
  out_is = sym c.into_out.ensures.out;
  runs = runs_from g.T.Sink.state _ _ _ _ _ _ _ c.new-panel.ensures c.run_asked-status.ensures.runs;
  answered = answers_from g.T.Sink.state _ _ _ _ _ _ _ _ _ _ c.new-panel.ensures c.run_asked-status.ensures.answers;
  streams = c.into_out.ensures.streams;
}
