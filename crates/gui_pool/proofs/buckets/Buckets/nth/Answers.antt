use Rattle.std.proofs.Common.{ap, sym, ◌∙◌, slice_get}
use Rattle.gui_pool.specs.Runs.{at}
use Rattle.gui_pool.proofs.Runs.{first_read}
use Rattle.gui_pool.proofs.Listed.{value_of, reads}
use Rattle.gui_pool.proofs.buckets.Buckets.nth.Goals as goal

pub returns-in-Some : goal.returns-in-Some
returns-in-Some g c =
    let s = c.self.inside in
    let o = first_read s.slots s.firsts.items c.args.bucket c.index.result.now c.self.invariant (rw (← c.self.view_is) at c.requires) c.index.ensures in
    rw (← c.self.view_is) (ap value_of c.in-Some.ensures ∙ ap (λ k. value_of (at s.slots.slots k)) c.slot_at-slot.ensures ∙ reads o.owner s.slots.slots c.args.bucket _ _ c.args.n o.small o.run ∙ ap (λ xs. slice_get xs c.args.n) (sym o.list))

pub returns-in-None : goal.returns-in-None
returns-in-None g c =
    let s = c.self.inside in
    let o = first_read s.slots s.firsts.items c.args.bucket c.index.result.now c.self.invariant (rw (← c.self.view_is) at c.requires) c.index.ensures in
    rw (← c.self.view_is) (ap value_of c.in-None.ensures ∙ ap (λ k. value_of (at s.slots.slots k)) c.slot_at-slot.ensures ∙ reads o.owner s.slots.slots c.args.bucket _ _ c.args.n o.small o.run ∙ ap (λ xs. slice_get xs c.args.n) (sym o.list))
