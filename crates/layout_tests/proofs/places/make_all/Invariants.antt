use Rattle.std.proofs.Common.{◌≡◌}
use Rattle.gui_store.specs.Views.{scene_of}
use Rattle.layout_tests.proofs.places.make_all.Given as goal

abbrev pub invariant-loop-change : goal.invariant-loop-change
invariant-loop-change l = (scene_of l.store).limits ≡ (scene_of l.initial.store).limits
