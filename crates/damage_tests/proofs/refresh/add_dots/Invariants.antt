use Rattle.std.proofs.Common.{◌≡◌}
use Rattle.damage_tests.proofs.refresh.add_dots.Given as goal

abbrev pub invariant-loop-n : goal.invariant-loop-n
invariant-loop-n l = l.damage.round ≡ l.initial.damage.round
