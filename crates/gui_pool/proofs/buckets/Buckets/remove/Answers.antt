use Rattle.std.proofs.Common.{◌≡◌, sym, ◌∙◌, ◌+◌, [], map, get_or, arith}
use Rattle.std.proofs.lemmas.List.Edits.{length-remove}
use Rattle.gui_pool.specs.Runs.{run_from}
use Rattle.gui_pool.proofs.Calls.{Read, never_vacant, read_value, remove_leaves}
use Rattle.gui_pool.proofs.buckets.Buckets.remove.Goals as goal

pub unreachable-requires : goal.unreachable-requires
unreachable-requires g c =
    let s = c.self.inside in
    let r : Read s.slots s.firsts.items c.args.bucket c.args.n c.index.result.now c.slot_at-slot.result = record { sound = c.self.invariant; within = rw (← c.self.view_is) at c.requires.within; there = rw (← c.self.view_is) at c.requires.there; is_first = c.index.ensures; is_slot = c.slot_at-slot.ensures } in
    never_vacant s.slots s.firsts.items c.args.bucket c.args.n _ _ r (sym c.take.ensures.value ∙ c.in_default.is)

pub link-requires-clause-held : goal.link-requires-clause-held
link-requires-clause-held g c =
    let s = c.self.inside in
    let r : Read s.slots s.firsts.items c.args.bucket c.args.n c.index.result.now c.slot_at-slot.result = record { sound = c.self.invariant; within = rw (← c.self.view_is) at c.requires.within; there = rw (← c.self.view_is) at c.requires.there; is_first = c.index.ensures; is_slot = c.slot_at-slot.ensures } in
    rw c.in-Some.ensures.removes (remove_leaves s.slots s.firsts.items c.args.bucket c.args.n _ _ r c.in-Some.node (sym c.in-Some.ensures.value)).held

pub invariant_of-self : goal.invariant_of-self
invariant_of-self g c =
    let s = c.self.inside in
    let r : Read s.slots s.firsts.items c.args.bucket c.args.n c.index.result.now c.slot_at-slot.result = record { sound = c.self.invariant; within = rw (← c.self.view_is) at c.requires.within; there = rw (← c.self.view_is) at c.requires.there; is_first = c.index.ensures; is_slot = c.slot_at-slot.ensures } in
    rw (c.link.ensures.slots, c.link.ensures.firsts, c.in-Some.ensures.removes) (remove_leaves s.slots s.firsts.items c.args.bucket c.args.n _ _ r c.in-Some.node (sym c.in-Some.ensures.value)).left.sound

pub returns-clause-value : goal.returns-clause-value
returns-clause-value g c =
    let s = c.self.inside in
    let r : Read s.slots s.firsts.items c.args.bucket c.args.n c.index.result.now c.slot_at-slot.result = record { sound = c.self.invariant; within = rw (← c.self.view_is) at c.requires.within; there = rw (← c.self.view_is) at c.requires.there; is_first = c.index.ensures; is_slot = c.slot_at-slot.ensures } in
    rw (← c.self.view_is) (read_value s.slots s.firsts.items c.args.bucket c.args.n _ _ r c.in-Some.node (sym c.in-Some.ensures.value))

pub returns-clause-removed : goal.returns-clause-removed
returns-clause-removed g c =
    let s = c.self.inside in
    let r : Read s.slots s.firsts.items c.args.bucket c.args.n c.index.result.now c.slot_at-slot.result = record { sound = c.self.invariant; within = rw (← c.self.view_is) at c.requires.within; there = rw (← c.self.view_is) at c.requires.there; is_first = c.index.ensures; is_slot = c.slot_at-slot.ensures } in
    let l = (remove_leaves s.slots s.firsts.items c.args.bucket c.args.n _ _ r c.in-Some.node (sym c.in-Some.ensures.value)).left in
    let spare : _ ≡ s.slots.spare + 1 = (let count = l.count in let long = length-remove (get_or (map (run_from s.slots.slots) s.firsts.items) c.args.bucket []) c.args.n r.there in omega arith) in
    rw (c.link.ensures.slots, c.link.ensures.firsts, c.in-Some.ensures.removes, ← c.self.view_is) (λ i. record { lists = l.lists i; spare = spare i; size = l.long i })

pub returns-clause-room : goal.returns-clause-room
returns-clause-room g c =
    let s = c.self.inside in
    let r : Read s.slots s.firsts.items c.args.bucket c.args.n c.index.result.now c.slot_at-slot.result = record { sound = c.self.invariant; within = rw (← c.self.view_is) at c.requires.within; there = rw (← c.self.view_is) at c.requires.there; is_first = c.index.ensures; is_slot = c.slot_at-slot.ensures } in
    let sound = (remove_leaves s.slots s.firsts.items c.args.bucket c.args.n _ _ r c.in-Some.node (sym c.in-Some.ensures.value)).left.sound in
    rw (c.link.ensures.slots, c.in-Some.ensures.removes) (let count = sound.counted in omega arith)
