use Rattle.std.proofs.Common.{◌≡◌, length, None, ap, sym, ◌∙◌, arith, rules}
use Rattle.std.proofs.lemmas.List.{length-replicate}
use Rattle.gui_pool.proofs.Openings.{AreRuns-opened, none_opened}
use Rattle.gui_pool.proofs.buckets.Buckets.open.Goals as goal

pub invariant_of-result : goal.invariant_of-result
invariant_of-result g c =
    let s = c.in_ok-slots.slots in
    let long : length s.slots ≡ c.args.slots = ap length c.in_ok-slots.ensures.vacant ∙ length-replicate c.args.slots None in
    AreRuns-opened s c.in-Ok.firsts.items c.args.buckets (omega arith) (c.in-Ok.ensures.items_if_clones_equal (search rules)) (c.in_ok-slots.ensures.spare ∙ sym long)

pub returns-clause-buckets : goal.returns-clause-buckets
returns-clause-buckets g c =
    let s = c.in_ok-slots.slots in
    let long : length s.slots ≡ c.args.slots = ap length c.in_ok-slots.ensures.vacant ∙ length-replicate c.args.slots None in
    let none = none_opened s c.in-Ok.firsts.items c.args.buckets (omega arith) (c.in-Ok.ensures.items_if_clones_equal (search rules)) in
    none.0

pub returns-clause-empty : goal.returns-clause-empty
returns-clause-empty g c =
    let s = c.in_ok-slots.slots in
    let long : length s.slots ≡ c.args.slots = ap length c.in_ok-slots.ensures.vacant ∙ length-replicate c.args.slots None in
    let none = none_opened s c.in-Ok.firsts.items c.args.buckets (omega arith) (c.in-Ok.ensures.items_if_clones_equal (search rules)) in
    none.1

pub returns-clause-spare : goal.returns-clause-spare
returns-clause-spare g c = c.in_ok-slots.ensures.spare

pub returns-clause-size : goal.returns-clause-size
returns-clause-size g c =
    ap length c.in_ok-slots.ensures.vacant ∙ length-replicate c.args.slots None
