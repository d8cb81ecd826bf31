use Rattle.std.proofs.Common.{◌≡◌, Option, Some, None, false, is_some, inl, inr, refl}
use Rattle.std.proofs.lemmas.Bool.{cases_Bool}
use Rattle.gui_pool.specs.Slots.{get}
use Rattle.gui_pool.proofs.Calls.{Read, never_vacant, read_value, replace_leaves}
use Rattle.gui_pool.proofs.buckets.Buckets.nth_mut.Goals as goal

none_of : {X : Type 0} (o : Option X) → is_some o ≡ false → o ≡ None
none_of None e = refl
none_of (Some x) e = cc

pub value_mut-node-requires : goal.value_mut-node-requires
value_mut-node-requires g c =
    let s = c.self.inside in
    let r : Read s.slots s.firsts.items c.args.bucket c.args.n c.index.result.now c.slot_at-slot.result = record { sound = c.self.invariant; within = rw (← c.self.view_is) at c.requires.within; there = rw (← c.self.view_is) at c.requires.there; is_first = c.index.ensures; is_slot = c.slot_at-slot.ensures } in
    elim (cases_Bool (is_some (get s.slots c.slot_at-slot.result))) [
      | inl yes' ↦ yes'
      | inr no' ↦ absurd (never_vacant s.slots s.firsts.items c.args.bucket c.args.n _ _ r (none_of _ no'))
    ]

pub invariant_of-self-lent : goal.invariant_of-self-lent
invariant_of-self-lent g c =
    λ w.
    let s = c.self.inside in
    let r : Read s.slots s.firsts.items c.args.bucket c.args.n c.index.result.now c.slot_at-slot.result = record { sound = c.self.invariant; within = rw (← c.self.view_is) at c.requires.within; there = rw (← c.self.view_is) at c.requires.there; is_first = c.index.ensures; is_slot = c.slot_at-slot.ensures } in
    (replace_leaves s.slots s.firsts.items c.args.bucket c.args.n _ _ r c.value_mut-node.result.now c.value_mut-node.ensures.value w).sound

pub returns : goal.returns
returns g c =
    let s = c.self.inside in
    let r : Read s.slots s.firsts.items c.args.bucket c.args.n c.index.result.now c.slot_at-slot.result = record { sound = c.self.invariant; within = rw (← c.self.view_is) at c.requires.within; there = rw (← c.self.view_is) at c.requires.there; is_first = c.index.ensures; is_slot = c.slot_at-slot.ensures } in
    let left = replace_leaves s.slots s.firsts.items c.args.bucket c.args.n _ _ r c.value_mut-node.result.now c.value_mut-node.ensures.value in
    rw (← c.self.view_is) (
      (refl, λ w. λ i. record { lists = (left w).lists i; spare = s.slots.spare; size = (left w).long i }),
      record { writes_back = tt; value = read_value s.slots s.firsts.items c.args.bucket c.args.n _ _ r c.value_mut-node.result.now c.value_mut-node.ensures.value },
    )
