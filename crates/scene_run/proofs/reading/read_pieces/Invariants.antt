use Rattle.std.proofs.Common.{◌≤◌, ◌+◌}
use Rattle.run_defs.specs.Machine.{Machine}
use Rattle.scene_run.specs.Headline.{Outside}
use Rattle.scene_run.specs.Running.{running, reading, IsReady, Gone}
use Rattle.scene_run.proofs.reading.read_pieces.Given as goal

-- at most `room` further bytes may be taken, and the lines of those that were taken are answered
abbrev pub invariant-loop : goal.invariant-loop
invariant-loop g l = record {
  gone : (first : Machine) (start : Outside) → Gone first start (g.S.Source.state l.initial.source) (reading l.initial.runner (g.L.Sink.state l.initial.log) (g.P.Panel.state l.initial.panel)) 16777216 →
      Gone first start (g.S.Source.state l.source) (reading l.runner (g.L.Sink.state l.log) (g.P.Panel.state l.panel)) l.room;
  ready : IsReady (running l.runner (g.L.Sink.state l.log) (g.P.Panel.state l.panel)) (l.room + 1);
  within : l.room ≤ 16777216;
  turns : l.counter + l.room ≤ 16777216;
  source_faults : (g.S.Source.state l.initial.source).faults ≤ (g.S.Source.state l.source).faults;
}
