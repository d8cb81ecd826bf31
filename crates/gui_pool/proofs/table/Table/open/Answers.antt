use Rattle.gui_pool.proofs.Keys.{has_keys, start_values}
use Rattle.gui_pool.proofs.table.Table.open.Goals as goal

pub returns-clause-keys : goal.returns-clause-keys
returns-clause-keys g c = has_keys c.in_ok-buckets.buckets c.mask_for-mask.result c.args.keys

pub returns-clause-empty : goal.returns-clause-empty
returns-clause-empty g c =
    start_values c.in_ok-buckets.buckets c.mask_for-mask.result c.args.keys c.in_ok-buckets.ensures.empty

pub returns-clause-spare : goal.returns-clause-spare
returns-clause-spare g c = c.in_ok-buckets.ensures.spare

pub returns-clause-size : goal.returns-clause-size
returns-clause-size g c = c.in_ok-buckets.ensures.size
