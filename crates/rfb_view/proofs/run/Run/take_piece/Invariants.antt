use Rattle.std.proofs.Common.{◌≤◌, take}
use Rattle.rfb_view.specs.Running.{ReadsOn}
use Rattle.rfb_view.specs.Talking.{outs}
use Rattle.rfb_view.proofs.run.Run.take_piece.Given as goal

-- the bytes so far were taken
abbrev pub invariant-loop-byte : goal.invariant-loop-byte
invariant-loop-byte g l = record {
  reads : ReadsOn (g.V.Viewed.machine l.initial.viewed) l.initial.self (outs (g.O.Sink.state l.initial.out) (g.L.Sink.state l.initial.log))
      (g.V.Viewed.machine l.viewed) l.self (outs (g.O.Sink.state l.out) (g.L.Sink.state l.log)) (take l.byte-index l.piece);
  out_faults : (g.O.Sink.state l.initial.out).faults ≤ (g.O.Sink.state l.out).faults;
  log_faults : (g.L.Sink.state l.initial.log).faults ≤ (g.L.Sink.state l.log).faults;
}
