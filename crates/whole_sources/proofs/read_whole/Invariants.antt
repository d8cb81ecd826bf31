use Rattle.std.proofs.Common.{◌-◌, length}
use Rattle.whole_sources.proofs.Taking.{Taken}
use Rattle.whole_sources.proofs.read_whole.Given as goal

-- the bytes are those that were taken
abbrev pub invariant-loop-count : goal.invariant-loop-count
invariant-loop-count g l = Taken (g.S.Source.state l.initial.source) (g.S.Source.state l.source) l.bytes.items

-- each turn takes one at least
abbrev pub decreases-loop-count : goal.decreases-loop-count
decreases-loop-count g l = 16777216 - length l.bytes.items
