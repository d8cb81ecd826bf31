use Rattle.std.proofs.Common.{take}
use Rattle.scene_run.specs.Running.{reading, Reads}
use Rattle.scene_run.proofs.runner.Runner.take_piece.Given as goal

-- the bytes so far were taken
abbrev pub invariant-loop-byte : goal.invariant-loop-byte
invariant-loop-byte g l = Reads (reading l.initial.self (g.L.Sink.state l.initial.log) (g.P.Panel.state l.initial.panel)) (reading l.self (g.L.Sink.state l.log) (g.P.Panel.state l.panel)) (take l.byte-index l.piece)
