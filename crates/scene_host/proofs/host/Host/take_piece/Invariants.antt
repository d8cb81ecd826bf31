use Rattle.std.proofs.Common.{take}
use Rattle.scene_run.specs.Running.{reading, Reads}
use Rattle.scene_host.specs.Answering.{answering}
use Rattle.scene_host.specs.Asked.{Hears}
use Rattle.scene_host.proofs.host.Host.take_piece.Given as goal

-- the bytes so far were taken and heard
abbrev pub invariant-loop-byte : goal.invariant-loop-byte
invariant-loop-byte g l = record {
  reads : Reads (reading l.initial.self.runner (g.L.Sink.state l.initial.log) (g.P.Panel.state l.initial.panel)) (reading l.self.runner (g.L.Sink.state l.log) (g.P.Panel.state l.panel)) (take l.byte-index l.piece);
  hears : Hears (reading l.initial.self.runner (g.L.Sink.state l.initial.log) (g.P.Panel.state l.initial.panel)) (answering l.initial.self.asker (g.A.Sink.state l.initial.answers)) (answering l.self.asker (g.A.Sink.state l.answers)) (take l.byte-index l.piece);
}
