use Rattle.std.proofs.Common.{IsSome, sym, ap, ◌∙◌}
use Rattle.gui_pool.specs.Lists.{list_of}
use Rattle.gui_pool.specs.Table.{value_at}
use Rattle.gui_pool.specs.Entries.{table_of}
use Rattle.gui_pool.proofs.Entries.{stands_at, stands_nowhere}
use Rattle.std.specs.Int.Bits.{bit_and}
use Rattle.gui_pool.proofs.Keys.{value_is, key_within, values_changed, buckets_changed}
use Rattle.std.proofs.Common.{true≢false}
use Rattle.gui_pool.proofs.table.Table.replace.Goals as goal

pub unreachable-requires : goal.unreachable-requires
unreachable-requires g c =
    let s = c.self.inside in
    let some : IsSome (value_at (table_of s.buckets s.mask s.keys) c.args.key) = rw (← c.self.view_is) at c.requires in
    let lt = key_within s.buckets s.mask s.keys c.args.key some in
    let none = value_is s.buckets s.mask s.keys c.args.key lt ∙ stands_nowhere (list_of s.buckets (bit_and c.args.key s.mask)) c.args.key (sym c.place_in.ensures ∙ c.in_default.is) in
    true≢false (sym (rw none at some))

pub replace-old-requires-clause-there : goal.replace-old-requires-clause-there
replace-old-requires-clause-there g c =
    let s = c.self.inside in
    (stands_at (list_of s.buckets (bit_and c.args.key s.mask)) c.args.key c.in-Some.place (c.self.invariant.apart _) (sym c.place_in.ensures ∙ c.in-Some.is)).within

pub invariant_of-self : goal.invariant_of-self
invariant_of-self g c =
    let s = c.self.inside in
    let at = stands_at (list_of s.buckets (bit_and c.args.key s.mask)) c.args.key c.in-Some.place (c.self.invariant.apart _) (sym c.place_in.ensures ∙ c.in-Some.is) in
    buckets_changed s.buckets s.mask c.args.key c.self.invariant _ _ (at.replaced c.args.value) c.replace-old.new.self (ap (λ t. t.lists) c.replace-old.ensures.replaced)

pub returns-clause-was : goal.returns-clause-was
returns-clause-was g c =
    let s = c.self.inside in
    let at = stands_at (list_of s.buckets (bit_and c.args.key s.mask)) c.args.key c.in-Some.place (c.self.invariant.apart _) (sym c.place_in.ensures ∙ c.in-Some.is) in
    let lt = key_within s.buckets s.mask s.keys c.args.key (rw (← c.self.view_is) at c.requires) in
    rw (← c.self.view_is) (at.value c.replace-old.result c.replace-old.ensures.was ∙ sym (value_is s.buckets s.mask s.keys c.args.key lt))

pub returns-clause-replaces : goal.returns-clause-replaces
returns-clause-replaces g c =
    let s = c.self.inside in
    let at = stands_at (list_of s.buckets (bit_and c.args.key s.mask)) c.args.key c.in-Some.place (c.self.invariant.apart _) (sym c.place_in.ensures ∙ c.in-Some.is) in
    let e = c.replace-old.ensures.replaced in
    let values = values_changed s.buckets s.mask c.args.key c.self.invariant _ _ (at.replaced c.args.value) c.replace-old.new.self (ap (λ t. t.lists) e) s.keys in
    rw (← c.self.view_is) (λ i. record { values = values i; spare = (e i).spare; size = (e i).size })
