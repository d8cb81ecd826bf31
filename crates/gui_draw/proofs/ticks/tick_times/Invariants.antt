use Rattle.gui_draw.proofs.Common.{◌≡◌, ◌+◌}
use Rattle.gui_draw.proofs.ticks.tick_times.Given as goal

abbrev pub invariant-loop : goal.invariant-loop
invariant-loop g l = l.steps ≡ l.initial.steps + l.counter
