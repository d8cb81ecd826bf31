use Rattle.std.proofs.Common.{◌≤◌, ◌+◌}
use Rattle.gui_edge.specs.Sink.{SinkState}
use Rattle.run_defs.specs.Machine.{Machine}
use Rattle.scene_run.specs.Headline.{Outside}
use Rattle.scene_run.specs.Running.{running, reading, IsReady}
use Rattle.scene_host.specs.Answering.{answering}
use Rattle.scene_host.specs.Asked.{HasGone}
use Rattle.scene_host.proofs.reading.read_pieces.Given as goal

-- at most `room` further bytes may be taken, and the lines and the questions of those that were taken are answered
abbrev pub invariant-loop : goal.invariant-loop
invariant-loop g l = record {
  gone : (first : Machine) (start : Outside) (begun : SinkState) →
      HasGone first start begun (g.S.Source.state l.initial.source) (reading l.initial.host.runner (g.L.Sink.state l.initial.log) (g.P.Panel.state l.initial.panel)) (answering l.initial.host.asker (g.A.Sink.state l.initial.answers)) 16777216 →
      HasGone first start begun (g.S.Source.state l.source) (reading l.host.runner (g.L.Sink.state l.log) (g.P.Panel.state l.panel)) (answering l.host.asker (g.A.Sink.state l.answers)) l.room;
  ready : IsReady (running l.host.runner (g.L.Sink.state l.log) (g.P.Panel.state l.panel)) (l.room + 1);
  within : l.room ≤ 16777216;
  turns : l.counter + l.room ≤ 16777216;
  source_faults : (g.S.Source.state l.initial.source).faults ≤ (g.S.Source.state l.source).faults;
}
