use Rattle.std.proofs.Common.{◌≡◌}
use Rattle.gui_base.specs.Grids.{one_pixel}
use Rattle.damage_tests.proofs.pump.take_turns.Given as goal

abbrev pub invariant-loop-n : goal.invariant-loop-n
invariant-loop-n g l = l.stage.refresher.sizes ≡ record { width = 6; height = 4; limit = 6; block = one_pixel }
