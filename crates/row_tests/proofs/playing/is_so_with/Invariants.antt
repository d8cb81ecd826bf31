use Rattle.std.proofs.Common.{◌<◌}
use Rattle.gui_core.specs.Machines.{refresher_in}
use Rattle.row_tests.proofs.playing.is_so_with.Given as goal

abbrev pub invariant-loop-want : goal.invariant-loop-want
invariant-loop-want l = 0 < (refresher_in l.gui).free
