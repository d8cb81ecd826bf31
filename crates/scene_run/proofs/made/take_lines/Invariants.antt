use Rattle.std.proofs.Common.{length}
use Rattle.scene_run.specs.Counting.{HasMadeSome}
use Rattle.scene_run.proofs.made.take_lines.Given as goal

abbrev pub invariant-loop-line : goal.invariant-loop-line
invariant-loop-line g l = HasMadeSome l.fn.run (g.P.Panel.state l.fn.panel) l.fn.maker l.run (g.P.Panel.state l.panel) l.maker

abbrev pub decreases-loop-line : goal.decreases-loop-line
decreases-loop-line g l = length l.maker
