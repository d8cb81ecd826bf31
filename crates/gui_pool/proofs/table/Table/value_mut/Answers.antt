use Rattle.std.proofs.Common.{◌∙◌, Some, IsSome, set, refl, sym, subst, true≢false}
use Rattle.std.specs.Int.Bits.{bit_and}
use Rattle.gui_pool.specs.Lists.{list_of, replaced}
use Rattle.gui_pool.specs.Table.{value_at}
use Rattle.gui_pool.specs.Entries.{table_of}
use Rattle.gui_pool.proofs.Entries.{Changes, stands_at, stands_nowhere}
use Rattle.gui_pool.proofs.Keys.{buckets_changed, key_within, value_is, values_changed}
use Rattle.gui_pool.proofs.table.Table.value_mut.Goals as goal

pub unreachable-requires : goal.unreachable-requires
unreachable-requires g c =
    let s = c.self.inside in
    let some : IsSome (value_at (table_of s.buckets s.mask s.keys) c.args.key) = rw (← c.self.view_is) at c.requires in
    let lt = key_within s.buckets s.mask s.keys c.args.key some in
    let none = value_is s.buckets s.mask s.keys c.args.key lt ∙ stands_nowhere (list_of s.buckets (bit_and c.args.key s.mask)) c.args.key (sym c.place_in.ensures ∙ c.in_default.is) in
    true≢false (sym (rw none at some))

pub nth_mut-entry-requires-clause-there : goal.nth_mut-entry-requires-clause-there
nth_mut-entry-requires-clause-there g c =
    let s = c.self.inside in
    (stands_at (list_of s.buckets (bit_and c.args.key s.mask)) c.args.key c.in-Some.place (c.self.invariant.apart _) (sym c.place_in.ensures ∙ c.in-Some.is)).within

pub invariant_of-self-lent : goal.invariant_of-self-lent
invariant_of-self-lent g c =
    λ w.
    let s = c.self.inside in
    let xs = list_of s.buckets (bit_and c.args.key s.mask) in
    let at = stands_at xs c.args.key c.in-Some.place (c.self.invariant.apart _) (sym c.place_in.ensures ∙ c.in-Some.is) in
    let keyed = at.keyed c.nth_mut-entry.result.now c.nth_mut-entry.ensures.value in
    let change = subst (λ k. Changes xs (set xs c.in-Some.place (record { key = k; value = w })) c.args.key (Some w)) (sym keyed) (at.replaced w) in
    buckets_changed s.buckets s.mask c.args.key c.self.invariant _ _ change _ refl

pub returns : goal.returns
returns g c =
    let s = c.self.inside in
    let xs = list_of s.buckets (bit_and c.args.key s.mask) in
    let at = stands_at xs c.args.key c.in-Some.place (c.self.invariant.apart _) (sym c.place_in.ensures ∙ c.in-Some.is) in
    let keyed = at.keyed c.nth_mut-entry.result.now c.nth_mut-entry.ensures.value in
    let change : (w : _) → Changes xs (set xs c.in-Some.place (record { key = c.nth_mut-entry.result.now.key; value = w })) c.args.key (Some w) =
    λ w. subst (λ k. Changes xs (set xs c.in-Some.place (record { key = k; value = w })) c.args.key (Some w)) (sym keyed) (at.replaced w) in
    let lt = key_within s.buckets s.mask s.keys c.args.key (rw (← c.self.view_is) at c.requires) in
    rw (← c.self.view_is) (
      (refl, λ w. λ i. record { values = values_changed s.buckets s.mask c.args.key c.self.invariant _ _ (change w) (replaced s.buckets (bit_and c.args.key s.mask) c.in-Some.place (record { key = c.nth_mut-entry.result.now.key; value = w })) refl s.keys i; spare = s.buckets.spare; size = s.buckets.size }),
      record { writes_back = tt; value = value_is s.buckets s.mask s.keys c.args.key lt ∙ sym (at.value c.nth_mut-entry.result.now c.nth_mut-entry.ensures.value) },
    )
