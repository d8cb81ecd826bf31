use Rattle.std.proofs.Common.{◌≡◌, length}
use Rattle.gui_base.specs.Names.{named, slice}
use Rattle.gui_base.proofs.names.named.Given as goal

abbrev pub invariant-loop-rest : goal.invariant-loop-rest
invariant-loop-rest g l = named (slice {A = _} l.rest) l.word ≡ named (slice {A = _} l.names) l.word

abbrev pub decreases-loop-rest : goal.decreases-loop-rest
decreases-loop-rest g l = length l.rest
