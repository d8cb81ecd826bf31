use Rattle.std.proofs.Common.{refl, sym, ◌∙◌}
use Rattle.gui_pool.proofs.Calls.{Read, never_vacant, read_value, replace_leaves}
use Rattle.gui_pool.proofs.buckets.Buckets.replace.Goals as goal

pub unreachable-requires : goal.unreachable-requires
unreachable-requires g c =
    let s = c.self.inside in
    let r : Read s.slots s.firsts.items c.args.bucket c.args.n c.index.result.now c.slot_at-slot.result = record { sound = c.self.invariant; within = rw (← c.self.view_is) at c.requires.within; there = rw (← c.self.view_is) at c.requires.there; is_first = c.index.ensures; is_slot = c.slot_at-slot.ensures } in
    let none = c.in_default.is in
    never_vacant s.slots s.firsts.items c.args.bucket c.args.n _ _ r (sym c.get_mut.ensures.value ∙ rw none refl)

pub invariant_of-self : goal.invariant_of-self
invariant_of-self g c =
    let s = c.self.inside in
    let r : Read s.slots s.firsts.items c.args.bucket c.args.n c.index.result.now c.slot_at-slot.result = record { sound = c.self.invariant; within = rw (← c.self.view_is) at c.requires.within; there = rw (← c.self.view_is) at c.requires.there; is_first = c.index.ensures; is_slot = c.slot_at-slot.ensures } in
    (replace_leaves s.slots s.firsts.items c.args.bucket c.args.n _ _ r c.in-Some.node.now (sym c.in-Some.ensures.value) c.replace.new.dest).sound

pub returns-clause-was : goal.returns-clause-was
returns-clause-was g c =
    let s = c.self.inside in
    let r : Read s.slots s.firsts.items c.args.bucket c.args.n c.index.result.now c.slot_at-slot.result = record { sound = c.self.invariant; within = rw (← c.self.view_is) at c.requires.within; there = rw (← c.self.view_is) at c.requires.there; is_first = c.index.ensures; is_slot = c.slot_at-slot.ensures } in
    rw (c.replace.ensures.value, ← c.self.view_is) (read_value s.slots s.firsts.items c.args.bucket c.args.n _ _ r c.in-Some.node.now (sym c.in-Some.ensures.value))

pub returns-clause-replaced : goal.returns-clause-replaced
returns-clause-replaced g c =
    let s = c.self.inside in
    let r : Read s.slots s.firsts.items c.args.bucket c.args.n c.index.result.now c.slot_at-slot.result = record { sound = c.self.invariant; within = rw (← c.self.view_is) at c.requires.within; there = rw (← c.self.view_is) at c.requires.there; is_first = c.index.ensures; is_slot = c.slot_at-slot.ensures } in
    let l = replace_leaves s.slots s.firsts.items c.args.bucket c.args.n _ _ r c.in-Some.node.now (sym c.in-Some.ensures.value) c.args.value in
    rw (c.replace.ensures.after, ← c.self.view_is) (λ i. record { lists = l.lists i; spare = s.slots.spare; size = l.long i })
