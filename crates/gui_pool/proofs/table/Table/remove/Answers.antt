use Rattle.std.proofs.Common.{None, sym, ap, ◌∙◌, arith}
use Rattle.gui_pool.specs.Lists.{list_of}
use Rattle.gui_pool.proofs.Entries.{stands_at, stands_nowhere}
use Rattle.std.specs.Int.Bits.{bit_and}
use Rattle.gui_pool.proofs.Keys.{value_is, value_past, has_keys, values_changed, buckets_changed}
use Rattle.gui_pool.proofs.table.Table.remove.Goals as goal

pub returns-then-key-self-clause-value : goal.returns-then-key-self-clause-value
returns-then-key-self-clause-value g c =
    let s = c.self.inside in
    rw (← c.self.view_is) (sym (value_past s.buckets s.mask s.keys c.args.key c.if-key-self.true))

pub returns-in_err-place-clause-value : goal.returns-in_err-place-clause-value
returns-in_err-place-clause-value g c =
    let s = c.self.inside in
    let none = stands_nowhere (list_of s.buckets (bit_and c.args.key s.mask)) c.args.key (sym c.place_in.ensures ∙ c.in_err-place.was) in
    rw (← c.self.view_is) (c.from_residual.ensures ∙ sym none ∙ sym (value_is s.buckets s.mask s.keys c.args.key c.if-key-self.false))

pub remove-value-requires-clause-there : goal.remove-value-requires-clause-there
remove-value-requires-clause-there g c =
    let s = c.self.inside in
    (stands_at (list_of s.buckets (bit_and c.args.key s.mask)) c.args.key c.in_ok-place.place (c.self.invariant.apart _) (sym c.place_in.ensures ∙ c.in_ok-place.was)).within

pub invariant_of-self : goal.invariant_of-self
invariant_of-self g c =
    let s = c.self.inside in
    let at = stands_at (list_of s.buckets (bit_and c.args.key s.mask)) c.args.key c.in_ok-place.place (c.self.invariant.apart _) (sym c.place_in.ensures ∙ c.in_ok-place.was) in
    buckets_changed s.buckets s.mask c.args.key c.self.invariant _ None at.removed c.remove-value.new.self (ap (λ t. t.lists) c.remove-value.ensures.removed)

pub returns-clause-value : goal.returns-clause-value
returns-clause-value g c =
    let s = c.self.inside in
    let at = stands_at (list_of s.buckets (bit_and c.args.key s.mask)) c.args.key c.in_ok-place.place (c.self.invariant.apart _) (sym c.place_in.ensures ∙ c.in_ok-place.was) in
    rw (← c.self.view_is) (at.value c.remove-value.result c.remove-value.ensures.value ∙ sym (value_is s.buckets s.mask s.keys c.args.key c.if-key-self.false))

pub returns-clause-removes : goal.returns-clause-removes
returns-clause-removes g c =
    let s = c.self.inside in
    let at = stands_at (list_of s.buckets (bit_and c.args.key s.mask)) c.args.key c.in_ok-place.place (c.self.invariant.apart _) (sym c.place_in.ensures ∙ c.in_ok-place.was) in
    let e = c.remove-value.ensures.removed in
    let values = values_changed s.buckets s.mask c.args.key c.self.invariant _ None at.removed c.remove-value.new.self (ap (λ t. t.lists) e) s.keys in
    rw (← c.self.view_is) (λ i. record { values = values i; spare = (e i).spare; size = (e i).size })

pub returns-clause-within : goal.returns-clause-within
returns-clause-within g c =
    let s = c.self.inside in
    let long = has_keys s.buckets s.mask s.keys in
    rw (← c.self.view_is) (omega (arith, long, c.if-key-self.false))

pub returns-clause-room : goal.returns-clause-room
returns-clause-room g c = c.remove-value.ensures.room
