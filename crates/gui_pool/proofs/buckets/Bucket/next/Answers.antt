use Rattle.std.proofs.Common.{sym}
use Rattle.gui_pool.proofs.Runs.{come, gone}
use Rattle.gui_pool.proofs.buckets.Bucket.next.Goals as goal

pub invariant_of-self : goal.invariant_of-self
invariant_of-self g c =
    let s = c.self.inside in
    (come s.slots.now s.slot c.in-Some.node.now c.self.invariant (sym c.in-Some.ensures)).1

pub returns-in-Some : goal.returns-in-Some
returns-in-Some g c =
    let s = c.self.inside in
    rw (← c.self.view_is) ((come s.slots.now s.slot c.in-Some.node.now c.self.invariant (sym c.in-Some.ensures)).0)

pub returns-in-None : goal.returns-in-None
returns-in-None g c =
    let s = c.self.inside in
    let none = gone s.slots.now s.slot c.self.invariant (sym c.in-None.ensures) in
    rw (← c.self.view_is) (none, none)
