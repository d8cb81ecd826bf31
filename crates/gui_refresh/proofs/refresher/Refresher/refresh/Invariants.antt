use Rattle.std.proofs.Common.{◌≡◌}
use Rattle.gui_damage.specs.Gridded.{listed_in}
use Rattle.gui_refresh.specs.Slicing.{Draws}
use Rattle.gui_refresh.specs.Stages.{stage, work}
use Rattle.gui_refresh.proofs.Pumps.{Comes}
use Rattle.gui_refresh.proofs.refresher.Refresher.refresh.Given as goal

abbrev pub invariant-loop : goal.invariant-loop
invariant-loop g l = record {
  round : l.damage.round ≡ l.fn.damage.round;
  comes : Comes (g.Q.Picture.color l.picture) (stage l.fn.self (g.P.Panel.state l.fn.panel) (listed_in l.fn.damage)) (stage l.self (g.P.Panel.state l.panel) (listed_in l.damage));
  draws : Draws (g.Q.Picture.per_pixel l.picture) (g.Q.Picture.per_slice l.picture) (stage l.fn.self (g.P.Panel.state l.fn.panel) (listed_in l.fn.damage)) (stage l.self (g.P.Panel.state l.panel) (listed_in l.damage)) 0 l.fn.steps l.steps;
}

abbrev pub decreases-loop : goal.decreases-loop
decreases-loop g l = work (stage l.self (g.P.Panel.state l.panel) (listed_in l.damage))
