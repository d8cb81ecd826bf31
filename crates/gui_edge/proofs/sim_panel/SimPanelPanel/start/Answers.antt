use Rattle.std.proofs.Common.{arith}
use Rattle.std.proofs.lemmas.Grind.{common_steps}
use Rattle.gui_edge.proofs.sim_panel.SimPanelPanel.start.Goals as goal

pub invariant_of-self-inside : goal.invariant_of-self-inside
invariant_of-self-inside g c = grind (arith, common_steps)

pub returns-then-call_fails-clause-same : goal.returns-then-call_fails-clause-same
returns-then-call_fails-clause-same g c = grind (arith, common_steps)

pub returns-then-call_fails-clause-broken : goal.returns-then-call_fails-clause-broken
returns-then-call_fails-clause-broken g c = grind (arith, common_steps)
