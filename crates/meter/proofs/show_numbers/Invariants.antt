use Rattle.meter.specs.Ready.{IsReady}
use Rattle.meter.proofs.show_numbers.Given as goal

abbrev pub invariant-loop-line : goal.invariant-loop-line
invariant-loop-line g l = IsReady l.gui (g.P.Panel.state l.panel)
