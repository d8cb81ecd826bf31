use Rattle.std.proofs.Common.{◌<◌, length, set, slice_get, sym, ap, ◌∙◌, arith}
use Rattle.std.specs.List.{remove}
use Rattle.std.proofs.lemmas.List.Edits.{length-remove}
use Rattle.std.specs.Int.Bits.{bit_and}
use Rattle.gui_pool.specs.Lists.{list_of}
use Rattle.gui_pool.specs.Owners.{values_of, lists_of}
use Rattle.gui_pool.proofs.OwnValues.{nth_at, nth_none}
use Rattle.gui_pool.proofs.Owners.{list_is, has_owners, lists_turned, AreLists-turned}
use Rattle.gui_pool.proofs.lists.Lists.remove.Goals as goal

pub unreachable-requires : goal.unreachable-requires
unreachable-requires g c =
    let s = c.self.inside in
    let lt : c.args.owner < s.owners = omega (arith, rw (← c.self.view_is) at c.requires.within, has_owners s.buckets s.mask s.owners) in
    let xs = list_of s.buckets (bit_and c.args.owner s.mask) in
    let few = nth_none xs c.args.owner c.args.n (sym c.nth_place_in.ensures ∙ c.in_default.is) in
    let there = rw (← c.self.view_is) at c.requires.there in
    let long = ap length (list_is s.buckets s.mask s.owners c.args.owner lt) in
    omega (arith, few, there, long)

pub remove-value-requires-clause-there : goal.remove-value-requires-clause-there
remove-value-requires-clause-there g c =
    let s = c.self.inside in
    let xs = list_of s.buckets (bit_and c.args.owner s.mask) in
    (nth_at xs c.args.owner c.args.n c.in-Some.place (sym c.nth_place_in.ensures ∙ c.in-Some.is)).within

pub invariant_of-self : goal.invariant_of-self
invariant_of-self g c =
    let s = c.self.inside in
    let lt : c.args.owner < s.owners = omega (arith, rw (← c.self.view_is) at c.requires.within, has_owners s.buckets s.mask s.owners) in
    let xs = list_of s.buckets (bit_and c.args.owner s.mask) in
    let at = nth_at xs c.args.owner c.args.n c.in-Some.place (sym c.nth_place_in.ensures ∙ c.in-Some.is) in
    let e = c.remove-value.ensures.removed in
    AreLists-turned s.buckets s.mask s.owners c.args.owner lt c.self.invariant _ _ at.removed c.remove-value.new.self (ap (λ t. t.lists) e) (ap (λ t. t.size) e) (let one = length-remove (values_of c.args.owner xs) c.args.n at.inner in let spare = ap (λ t. t.spare) e in omega arith)

pub returns-clause-value : goal.returns-clause-value
returns-clause-value g c =
    let s = c.self.inside in
    let lt : c.args.owner < s.owners = omega (arith, rw (← c.self.view_is) at c.requires.within, has_owners s.buckets s.mask s.owners) in
    let xs = list_of s.buckets (bit_and c.args.owner s.mask) in
    let at = nth_at xs c.args.owner c.args.n c.in-Some.place (sym c.nth_place_in.ensures ∙ c.in-Some.is) in
    rw (← c.self.view_is) (at.value c.remove-value.result c.remove-value.ensures.value ∙ ap (λ l. slice_get l c.args.n) (sym (list_is s.buckets s.mask s.owners c.args.owner lt)))

pub returns-clause-removed : goal.returns-clause-removed
returns-clause-removed g c =
    let s = c.self.inside in
    let lt : c.args.owner < s.owners = omega (arith, rw (← c.self.view_is) at c.requires.within, has_owners s.buckets s.mask s.owners) in
    let xs = list_of s.buckets (bit_and c.args.owner s.mask) in
    let at = nth_at xs c.args.owner c.args.n c.in-Some.place (sym c.nth_place_in.ensures ∙ c.in-Some.is) in
    let e = c.remove-value.ensures.removed in
    let turned = lists_turned s.buckets s.mask s.owners c.args.owner lt c.self.invariant _ _ at.removed c.remove-value.new.self (ap (λ t. t.lists) e) in
    let was = list_is s.buckets s.mask s.owners c.args.owner lt in
    let fs = (lists_of s.buckets s.mask s.owners).lists in
    rw (← c.self.view_is) (λ i. record { lists = (turned ∙ ap (λ l. set fs c.args.owner (remove l c.args.n)) (sym was)) i; spare = (e i).spare; size = (e i).size })
