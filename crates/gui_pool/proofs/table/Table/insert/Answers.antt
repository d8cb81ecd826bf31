use Rattle.std.proofs.Common.{◌≡◌, ◌<◌, None, sym, ap, ◌∙◌, arith}
use Rattle.gui_pool.specs.Lists.{list_of}
use Rattle.gui_pool.specs.Entries.{find}
use Rattle.gui_pool.proofs.Entries.{pushed_entry}
use Rattle.std.specs.Int.Bits.{bit_and}
use Rattle.gui_pool.proofs.Keys.{value_is, has_keys, values_changed, buckets_changed}
use Rattle.gui_pool.proofs.table.Table.insert.Goals as goal

pub invariant_of-self-2 : goal.invariant_of-self-2
invariant_of-self-2 g c =
    let s = c.self.inside in
    let lt : c.args.key < s.keys = omega (arith, rw (← c.self.view_is) at c.requires.within, has_keys s.buckets s.mask s.keys) in
    let none : find (list_of s.buckets (bit_and c.args.key s.mask)) c.args.key ≡ None = sym (value_is s.buckets s.mask s.keys c.args.key lt) ∙ (rw (← c.self.view_is) at c.requires.vacant) in
    let change = pushed_entry (list_of s.buckets (bit_and c.args.key s.mask)) c.args.key c.args.value none (c.self.invariant.apart _) in
    buckets_changed s.buckets s.mask c.args.key c.self.invariant _ _ change c.push.new.self (ap (λ t. t.lists) c.in-Ok.ensures.added)

pub returns-clause-inserts : goal.returns-clause-inserts
returns-clause-inserts g c =
    let s = c.self.inside in
    let lt : c.args.key < s.keys = omega (arith, rw (← c.self.view_is) at c.requires.within, has_keys s.buckets s.mask s.keys) in
    let none : find (list_of s.buckets (bit_and c.args.key s.mask)) c.args.key ≡ None = sym (value_is s.buckets s.mask s.keys c.args.key lt) ∙ (rw (← c.self.view_is) at c.requires.vacant) in
    let change = pushed_entry (list_of s.buckets (bit_and c.args.key s.mask)) c.args.key c.args.value none (c.self.invariant.apart _) in
    let e = c.in-Ok.ensures.added in
    let values = values_changed s.buckets s.mask c.args.key c.self.invariant _ _ change c.push.new.self (ap (λ t. t.lists) e) s.keys in
    rw (← c.self.view_is) (λ i. record { values = values i; spare = (e i).spare; size = (e i).size })
