use Rattle.std.proofs.Common.{rules}
use Rattle.gui_refresh.proofs.Drawing.{opened_sizes}
use Rattle.gui_refresh.proofs.refresher.Refresher.open.Goals as goal

pub invariant_of-result : goal.invariant_of-result
invariant_of-result c = search (rules, opened_sizes c.args.limits.now)
