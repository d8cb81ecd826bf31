use Rattle.std.proofs.Common.{◌<◌, ◌∷◌, ◌++◌, [], set, sym, ap, ◌∙◌, arith}
use Rattle.std.specs.Int.Bits.{bit_and}
use Rattle.gui_pool.specs.Lists.{list_of}
use Rattle.gui_pool.specs.Owners.{values_of, lists_of}
use Rattle.gui_pool.proofs.OwnValues.{pushed_value}
use Rattle.gui_pool.proofs.Owners.{list_is, has_owners, lists_turned, AreLists-turned}
use Rattle.std.proofs.lemmas.List.{length-append}
use Rattle.std.proofs.Common.{inl, inr}
use Rattle.std.proofs.lemmas.Bool.{cases_lt, false≢true}
use Rattle.gui_pool.proofs.lists.Lists.push.Goals as goal

pub invariant_of-self-2 : goal.invariant_of-self-2
invariant_of-self-2 g c =
    let s = c.self.inside in
    let lt : c.args.owner < s.owners = omega (arith, rw (← c.self.view_is) at c.requires, has_owners s.buckets s.mask s.owners) in
    let xs = list_of s.buckets (bit_and c.args.owner s.mask) in
    let turns = pushed_value xs c.args.owner c.args.value in
    let e = c.in-Ok.ensures.added in
    let more = length-append (values_of c.args.owner xs) (c.args.value ∷ []) in
    let spare = ap (λ t. t.spare) e in
    let some : 0 < s.buckets.spare = elim (cases_lt 0 s.buckets.spare) [ inl yes' ↦ yes' | inr le ↦ absurd (let err = c.push.ensures.full.1 (omega arith) in false≢true (rw c.in-Ok.is at err)) ] in
    AreLists-turned s.buckets s.mask s.owners c.args.owner lt c.self.invariant _ _ turns c.push.new.self (ap (λ t. t.lists) e) (ap (λ t. t.size) e) (omega arith)

pub returns-clause-added : goal.returns-clause-added
returns-clause-added g c =
    let s = c.self.inside in
    let lt : c.args.owner < s.owners = omega (arith, rw (← c.self.view_is) at c.requires, has_owners s.buckets s.mask s.owners) in
    let xs = list_of s.buckets (bit_and c.args.owner s.mask) in
    let turns = pushed_value xs c.args.owner c.args.value in
    let e = c.in-Ok.ensures.added in
    let turned = lists_turned s.buckets s.mask s.owners c.args.owner lt c.self.invariant _ _ turns c.push.new.self (ap (λ t. t.lists) e) in
    let was = list_is s.buckets s.mask s.owners c.args.owner lt in
    let fs = (lists_of s.buckets s.mask s.owners).lists in
    rw (← c.self.view_is) (λ i. record { lists = (turned ∙ ap (λ l. set fs c.args.owner (l ++ c.args.value ∷ [])) (sym was)) i; spare = (e i).spare; size = (e i).size })
