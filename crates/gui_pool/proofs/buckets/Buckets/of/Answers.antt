use Rattle.std.proofs.Common.{arith}
use Rattle.gui_pool.proofs.Runs.{first_read}
use Rattle.gui_pool.proofs.buckets.Buckets.of.Goals as goal

pub invariant_of-result : goal.invariant_of-result
invariant_of-result g c =
    let s = c.self.inside in
    let o = first_read s.slots s.firsts.items c.args.bucket c.index.result.now c.self.invariant (rw (← c.self.view_is) at c.requires) c.index.ensures in
    let few = o.few in
    record { owner = o.owner; bucket = c.args.bucket; run = o.run; few = omega arith; small = o.small }

pub returns-clause-few : goal.returns-clause-few
returns-clause-few g c =
    let s = c.self.inside in
    let o = first_read s.slots s.firsts.items c.args.bucket c.index.result.now c.self.invariant (rw (← c.self.view_is) at c.requires) c.index.ensures in
    let few = o.few in let small = o.small in
    omega arith
