use Rattle.std.proofs.Common.{arith}
use Rattle.whole_sources.proofs.Taking.{taken_more, too_long, no_memory}
use Rattle.whole_sources.proofs.read_whole.Goals as goal

pub returns-then-count-len : goal.returns-then-count-len
returns-then-count-len g c =
    too_long _ _ _ c.loop-count.bytes.items c.read.new.buf c.in-Ok.count c.loop-count.invariant c.in-Ok.ensures.bound.0 c.in-Ok.ensures.bytes.0 c.in-Ok.ensures.cause.later
    (omega (arith, c.if-count-len.true, c.len.ensures))

pub returns-then-is_err : goal.returns-then-is_err
returns-then-is_err g c =
    no_memory _ _ _ (taken_more _ _ _ c.loop-count.bytes.items c.read.new.buf c.in-Ok.count c.loop-count.invariant c.in-Ok.ensures.bytes.0 c.in-Ok.ensures.cause.later
    (omega (arith, c.if-count-len.false, c.len.ensures)))
