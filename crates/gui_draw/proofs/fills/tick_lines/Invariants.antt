use Rattle.gui_draw.proofs.Common.{◌≡◌, ◌+◌, ◌*◌, width_of, rect_of}
use Rattle.gui_draw.proofs.fills.tick_lines.Given as goal

abbrev pub invariant-loop : goal.invariant-loop
invariant-loop g l = l.steps ≡ l.initial.steps + l.counter * width_of (rect_of l.part)
