use Rattle.std.proofs.Math.Nat.{mod-one}
use Rattle.gui_base.proofs.limits.Limits.with_sizes.Goals as goal

pub invariant_of-result-clause-blocks : goal.invariant_of-result-clause-blocks
invariant_of-result-clause-blocks c = record { wide = mod-one c.args.width; high = mod-one c.args.height; lined = mod-one c.args.lines }
