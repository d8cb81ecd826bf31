use Rattle.std.proofs.Common.{◌≡◌, ◌≤◌, ◌++◌, ℕ, List, length}
use Rattle.std.specs.Io.KnownBytes.{Appends}
use Rattle.panel_stream.specs.Viewer.{color_bytes, area_bytes}
use Rattle.panel_stream.proofs.writing.write_area.Given as goal

-- the bytes before those of the rest are written
abbrev pub invariant-loop-rest : goal.invariant-loop-rest
invariant-loop-rest g l = record {
  bytes : List ℕ;
  whole : bytes ++ color_bytes l.rest ≡ area_bytes l.buf;
  written : Appends (g.T.Sink.state l.fn.out).held (g.T.Sink.state l.out).held bytes;
  later : (g.T.Sink.state l.fn.out).faults ≤ (g.T.Sink.state l.out).faults;
}

abbrev pub decreases-loop-rest : goal.decreases-loop-rest
decreases-loop-rest g l = length l.rest
