use Rattle.std.proofs.Common.{◌≤◌}
use Rattle.std.specs.Prelude.{IfSome}
use Rattle.panel_dcs.specs.Turning.{turned}
use Rattle.panel_dcs.proofs.Picturing.{LinesWritten}
use Rattle.panel_dcs.proofs.picture.write_shown.Given as goal

-- the file up to this line is written
abbrev pub invariant-loop-y : goal.invariant-loop-y
invariant-loop-y g l = record {
  written : IfSome (g.B.Bus.state l.bus).chip (λ chip. LinesWritten (turned l.sizes) chip.memory l.y (g.F.Sink.state l.fn.frames).held (g.F.Sink.state l.frames).held);
  later : (g.F.Sink.state l.fn.frames).faults ≤ (g.F.Sink.state l.frames).faults;
}
