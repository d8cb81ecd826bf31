use Rattle.std.proofs.Common.{◌≡◌}
use Rattle.damage_tests.proofs.rounding.check_table.Given as goal

abbrev pub invariant-loop-area : goal.invariant-loop-area
invariant-loop-area g l = l.damage.round ≡ l.fn.damage.round

abbrev pub invariant-loop-slice : goal.invariant-loop-slice
invariant-loop-slice g l = l.damage.round ≡ l.fn.damage.round
