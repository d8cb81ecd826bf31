use Rattle.std.proofs.Common.{◌≤◌}
use Rattle.std.specs.Io.KnownBytes.{Appends}
use Rattle.rfb_view.proofs.Sending.{sent_to}
use Rattle.rfb_view.proofs.update.put_update.Given as goal

-- the lines so far are written
abbrev pub invariant-loop-line : goal.invariant-loop-line
invariant-loop-line g l = record {
  written : Appends (g.O.Sink.state l.fn.out).held (g.O.Sink.state l.out).held (sent_to l.width l.format l.colors l.block.left l.block.top l.block.columns l.block.lines l.line);
  later : (g.O.Sink.state l.fn.out).faults ≤ (g.O.Sink.state l.out).faults;
}
