use Rattle.std.proofs.Common.{sym, ◌∙◌}
use Rattle.gui_pool.proofs.Owners.{has_owners, start_lists, AreLists-opened}
use Rattle.gui_pool.proofs.lists.Lists.open.Goals as goal

pub invariant_of-result : goal.invariant_of-result
invariant_of-result g c =
    let e = c.in_ok-buckets.ensures in
    AreLists-opened c.in_ok-buckets.buckets c.mask_for-mask.result c.args.owners e.buckets e.empty (e.spare ∙ sym e.size)

pub returns-clause-owners : goal.returns-clause-owners
returns-clause-owners g c = has_owners c.in_ok-buckets.buckets c.mask_for-mask.result c.args.owners

pub returns-clause-empty : goal.returns-clause-empty
returns-clause-empty g c =
    start_lists c.in_ok-buckets.buckets c.mask_for-mask.result c.args.owners c.in_ok-buckets.ensures.empty

pub returns-clause-spare : goal.returns-clause-spare
returns-clause-spare g c = c.in_ok-buckets.ensures.spare

pub returns-clause-size : goal.returns-clause-size
returns-clause-size g c = c.in_ok-buckets.ensures.size
