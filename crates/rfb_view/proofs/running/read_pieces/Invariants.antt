use Rattle.std.proofs.Common.{◌≡◌, ◌≤◌, ◌+◌, None}
use Rattle.rfb_view.specs.Running.{IsShort}
use Rattle.rfb_view.specs.Talking.{outs, IsOver}
use Rattle.rfb_view.proofs.Gone.{Gone}
use Rattle.rfb_view.proofs.running.read_pieces.Given as goal

-- so many bytes were taken and answered, and the run goes on
abbrev pub invariant-loop : goal.invariant-loop
invariant-loop g l = record {
  gone : Gone (g.S.Source.state l.initial.source) (g.S.Source.state l.source) (g.V.Viewed.machine l.initial.viewed) l.initial.run (outs (g.O.Sink.state l.initial.out) (g.L.Sink.state l.initial.log))
      (g.V.Viewed.machine l.viewed) l.run (outs (g.O.Sink.state l.out) (g.L.Sink.state l.log)) l.taken;
  over : IsOver (g.V.Viewed.machine l.viewed) l.run.talk;
  quiet : l.run.talk.fault ≡ None;
  short : IsShort l.run l.taken;
  number : l.run.number ≤ 1 + l.taken;
  count : l.run.talk.hearing.count ≤ l.taken;
  turns : l.counter ≤ l.taken;
  source_faults : (g.S.Source.state l.initial.source).faults ≤ (g.S.Source.state l.source).faults;
  out_faults : (g.O.Sink.state l.initial.out).faults ≤ (g.O.Sink.state l.out).faults;
  log_faults : (g.L.Sink.state l.initial.log).faults ≤ (g.L.Sink.state l.log).faults;
}
