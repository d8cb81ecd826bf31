use Rattle.std.proofs.Common.{◌∙◌, sym, ap, subst, arith}
use Rattle.gui_base.specs.Gridded.{block_of}
use Rattle.gui_base.specs.Rounding.{Rounding}
use Rattle.gui_damage.specs.Gridded.{listed_in}
use Rattle.gui_damage.specs.Joining.{JoinsAll}
use Rattle.gui_refresh.specs.Stages.{Sizes, Stage, stage}
use Rattle.gui_refresh.proofs.Drawing.{same_grid}
use Rattle.gui_refresh.proofs.Steps.{panel_is}
use Rattle.gui_refresh.proofs.Pumps.{begins, goes_on, pumps_on, refresh_done, refresh_stopped}
use Rattle.gui_refresh.proofs.Slicing.{draws_joined, draws_on, draws_all}
use Rattle.gui_refresh.proofs.refresher.Refresher.refresh.Given.{Over}
use Rattle.gui_refresh.proofs.refresher.Refresher.refresh.Goals as goal
use Rattle.gui_refresh.proofs.refresher.Refresher.refresh.Goals.{After-join_all, After-pump}

abbrev first : (g : Over) → After-join_all g → Stage
first g c = stage c.args.self.now (g.P.Panel.state c.args.panel.now) (listed_in c.args.damage.now)

abbrev before : (g : Over) → After-pump g → Stage
before g c = stage c.loop.self (g.P.Panel.state c.loop.panel) (listed_in c.loop.damage)

abbrev after : (g : Over) → After-pump g → Stage
after g c = stage c.pump.new.self (g.P.Panel.state c.pump.new.panel) (listed_in c.pump.new.damage)

pub loop-init : goal.loop-init
loop-init g c =
    let start = first g (goal.at.loop-init g c).After-join_all in
    let grid = same_grid c.args.self.now.sizes c.args.damage.now.round c.requires.blocks (c.requires.can.area ∙ panel_is start c.requires.can) in
    let joins = subst (λ (r : Rounding). JoinsAll r.round (listed_in c.args.damage.now) (listed_in c.join_all.new.self)) grid c.join_all.ensures.joins in
    record {
      round = c.join_all.ensures.round;
      comes = begins (g.Q.Picture.color c.args.picture.now) start (listed_in c.join_all.new.self) c.requires.can joins;
      draws = draws_joined _ _ start (listed_in c.join_all.new.self) _ joins;
    }

pub pump-requires : goal.pump-requires
pump-requires g c = record { can = c.loop.invariant.comes.quiet.can; blocks = ap block_of c.loop.invariant.round ∙ (c.requires.blocks ∙ sym (ap (λ (s : Sizes). s.block) c.loop.invariant.comes.quiet.sizes)) }

pub loop-preserved : goal.loop-preserved
loop-preserved g c =
    let d = (goal.at.loop-preserved g c).After-pump in
    let start = first g (goal.at.loop-preserved g c).After-join_all in
    let inv = c.loop.invariant in
    let pumps = c.pump.ensures in
    record {
      round = pumps.round ∙ inv.round;
      comes = pumps_on (g.Q.Picture.color c.args.picture.now) start (before g d) (after g d) c.pump.result inv.comes pumps.pumps c.in-Moved.is;
      draws = draws_on _ _ start (before g d) (after g d) c.pump.result _ _ _ c.in-Moved.is inv.comes.quiet.sizes inv.draws pumps.draws;
    }

pub loop-smaller : goal.loop-smaller
loop-smaller g c =
    let d = (goal.at.loop-smaller g c).After-pump in
    (goes_on (g.Q.Picture.color c.args.picture.now) (before g d) (after g d) c.pump.result c.pump.ensures.pumps c.in-Moved.is).1

pub returns-in-Idle-clause-refreshes : goal.returns-in-Idle-clause-refreshes
returns-in-Idle-clause-refreshes g c =
    let d = (goal.at.returns-in-Idle-clause-refreshes g c).After-pump in
    refresh_done (g.Q.Picture.color c.args.picture.now) (first g (goal.at.returns-in-Idle-clause-refreshes g c).After-join_all) (before g d) (after g d) c.loop.invariant.comes c.in-Idle.ensures.pumps

pub returns-in-Idle-clause-draws : goal.returns-in-Idle-clause-draws
returns-in-Idle-clause-draws g c =
    let d = (goal.at.returns-in-Idle-clause-draws g c).After-pump in
    let inv = c.loop.invariant in
    draws_all _ _ (first g (goal.at.returns-in-Idle-clause-draws g c).After-join_all) (before g d) (after g d) 0 _ _ _ c.is_started-started.ensures.sound.sizes c.areas-areas.ensures.sound.pending.few (omega arith) inv.comes.quiet.sizes inv.draws c.in-Idle.ensures.draws

pub returns-in-Fault-clause-refreshes : goal.returns-in-Fault-clause-refreshes
returns-in-Fault-clause-refreshes g c =
    let d = (goal.at.returns-in-Fault-clause-refreshes g c).After-pump in
    refresh_stopped (g.Q.Picture.color c.args.picture.now) (first g (goal.at.returns-in-Fault-clause-refreshes g c).After-join_all) (before g d) (after g d) c.loop.invariant.comes c.in-Fault.ensures.pumps

pub returns-in-Fault-clause-draws : goal.returns-in-Fault-clause-draws
returns-in-Fault-clause-draws g c =
    let d = (goal.at.returns-in-Fault-clause-draws g c).After-pump in
    let inv = c.loop.invariant in
    let pending = c.in-Fault.ensures.pumps.leaves.pending in
    draws_all _ _ (first g (goal.at.returns-in-Fault-clause-draws g c).After-join_all) (before g d) (after g d) 1 _ _ _ c.is_started-started.ensures.sound.sizes c.areas-areas.ensures.sound.pending.few (omega arith) inv.comes.quiet.sizes inv.draws c.in-Fault.ensures.draws
