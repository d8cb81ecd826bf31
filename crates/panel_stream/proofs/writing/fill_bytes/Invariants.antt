use Rattle.std.proofs.Common.{◌≡◌, ◌*◌, take}
use Rattle.panel_stream.specs.Viewer.{color_bytes}
use Rattle.panel_stream.proofs.writing.fill_bytes.Given as goal

-- the bytes of the colours so far are written
abbrev pub invariant-loop-i : goal.invariant-loop-i
invariant-loop-i l = take (2 * l.i) l.bytes ≡ color_bytes (take l.i l.colors)
