use Rattle.std.proofs.Common.{◌≡◌, ◌∙◌, sym, ap, subst, None, arith}
use Rattle.gui_base.specs.Gridded.{block_of, rules_of}
use Rattle.gui_base.specs.Rounding.{Rounding}
use Rattle.gui_damage.specs.Gridded.{listed_in}
use Rattle.gui_damage.specs.Joining.{JoinsAll}
use Rattle.gui_refresh.specs.Stages.{Stage, stage, grid_with}
use Rattle.gui_refresh.proofs.Drawing.{same_grid}
use Rattle.gui_refresh.proofs.Pumps.{pump_start, pump_first, pump_idle, none_of, can_start}
use Rattle.gui_refresh.proofs.Slicing.{draws_started, draws_first, draws_idle}
use Rattle.gui_refresh.proofs.Steps.{IsSound, panel_is}
use Rattle.gui_refresh.proofs.refresher.Refresher.pump.Given.{Over}
use Rattle.gui_refresh.proofs.refresher.Refresher.pump.Goals as goal
use Rattle.gui_refresh.proofs.refresher.Refresher.pump.Goals.{After-is_started, Else-is_started, Else-is_drawn}

abbrev at : (g : Over) → After-is_started g → Stage
at g c = stage c.args.self.now (g.P.Panel.state c.args.panel.now) (listed_in c.args.damage.now)

sound : (g : Over) (c : After-is_started g) → IsSound (at g c)
sound g c = record { can = c.requires.can; refresher = c.is_started.ensures.sound; flying = g.met.P.Panel.flying c.args.panel.now }

still : (g : Over) (c : Else-is_started g) → (g.P.Panel.state c.args.panel.now).coming ≡ None
still g c = none_of (g.P.Panel.state c.args.panel.now).coming (sym c.requires.can.started ∙ (sym c.is_started.ensures.value ∙ c.if-is_started.false))

none : (g : Over) (c : Else-is_drawn g) → c.args.self.now.drawn ≡ None
none g c = none_of c.args.self.now.drawn (sym c.is_drawn.ensures ∙ c.if-is_drawn.false)

grid : (g : Over) (c : After-is_started g) → rules_of c.args.damage.now.round ≡ grid_with c.args.self.now.sizes
grid g c = same_grid c.args.self.now.sizes c.args.damage.now.round c.requires.blocks (c.requires.can.area ∙ panel_is (at g c) c.requires.can)

pub start-requires : goal.start-requires
start-requires g c =
    let d = (goal.at.start-requires g c).Else-is_started in
    let a = (goal.at.start-requires g c).After-is_started in
    record {
      drawn = sym c.is_drawn.ensures ∙ c.if-is_drawn.true;
      free = still g d;
      started = sym c.is_started.ensures.value ∙ c.if-is_started.false;
      can = c.requires.can;
      blocks = c.requires.blocks;
      part = can_start (g.Q.Picture.color c.args.picture.now) (at g a) (sound g a);
    }

pub returns-then-is_drawn-clause-pumps : goal.returns-then-is_drawn-clause-pumps
returns-then-is_drawn-clause-pumps g c =
    let d = (goal.at.returns-then-is_drawn-clause-pumps g c).Else-is_started in
    let a = (goal.at.returns-then-is_drawn-clause-pumps g c).After-is_started in
    pump_start (g.Q.Picture.color c.args.picture.now) (at g a) (sound g a) (stage c.start.new.self (g.P.Panel.state c.start.new.panel) (listed_in c.start.new.damage)) c.start.result (still g d) c.start.ensures.step

pub draw-requires : goal.draw-requires
draw-requires g c =
    let a = (goal.at.draw-requires g c).After-is_started in
    let e = (goal.at.draw-requires g c).Else-is_drawn in
    record { area = c.join_all.ensures.joins.panel ∙ (c.requires.can.area ∙ panel_is (at g a) c.requires.can); none = λ some. none g e; blocks = ap block_of c.join_all.ensures.round ∙ c.requires.blocks }

pub returns-then-draw-clause-pumps : goal.returns-then-draw-clause-pumps
returns-then-draw-clause-pumps g c =
    let a = (goal.at.returns-then-draw-clause-pumps g c).After-is_started in
    let joins = subst (λ (r : Rounding). JoinsAll r.round (listed_in c.args.damage.now) (listed_in c.join_all.new.self)) (grid g a) c.join_all.ensures.joins in
    let d = (goal.at.returns-then-draw-clause-pumps g c).Else-is_started in
    let e = (goal.at.returns-then-draw-clause-pumps g c).Else-is_drawn in
    pump_first (g.Q.Picture.color c.args.picture.now) (at g a) (sound g a) (listed_in c.join_all.new.self) (listed_in c.draw.new.damage) c.draw.new.self (none g e) (still g d) joins c.if-draw.ensures.step

pub returns-else-draw-clause-pumps : goal.returns-else-draw-clause-pumps
returns-else-draw-clause-pumps g c =
    let a = (goal.at.returns-else-draw-clause-pumps g c).After-is_started in
    let joins = subst (λ (r : Rounding). JoinsAll r.round (listed_in c.args.damage.now) (listed_in c.join_all.new.self)) (grid g a) c.join_all.ensures.joins in
    let d = (goal.at.returns-else-draw-clause-pumps g c).Else-is_started in
    let e = (goal.at.returns-else-draw-clause-pumps g c).Else-is_drawn in
    pump_idle (g.Q.Picture.color c.args.picture.now) (at g a) (sound g a) (listed_in c.join_all.new.self) (listed_in c.draw.new.damage) c.draw.new.self (none g e) (still g d) joins c.if-draw.ensures.step

pub returns-then-is_drawn-clause-draws : goal.returns-then-is_drawn-clause-draws
returns-then-is_drawn-clause-draws g c =
    let d = (goal.at.returns-then-is_drawn-clause-draws g c).Else-is_started in
    let a = (goal.at.returns-then-is_drawn-clause-draws g c).After-is_started in
    let new = stage c.start.new.self (g.P.Panel.state c.start.new.panel) (listed_in c.start.new.damage) in
    let pumps = pump_start (g.Q.Picture.color c.args.picture.now) (at g a) (sound g a) new c.start.result (still g d) c.start.ensures.step in
    draws_started _ _ (g.Q.Picture.color c.args.picture.now) (at g a) (sound g a) new c.start.result _ _ c.start.ensures.step pumps (omega arith)

pub returns-then-draw-clause-draws : goal.returns-then-draw-clause-draws
returns-then-draw-clause-draws g c =
    let a = (goal.at.returns-then-draw-clause-draws g c).After-is_started in
    let joins = subst (λ (r : Rounding). JoinsAll r.round (listed_in c.args.damage.now) (listed_in c.join_all.new.self)) (grid g a) c.join_all.ensures.joins in
    let e = (goal.at.returns-then-draw-clause-draws g c).Else-is_drawn in
    draws_first _ _ (g.Q.Picture.color c.args.picture.now) (at g a) (sound g a) (listed_in c.join_all.new.self) (listed_in c.draw.new.damage) c.draw.new.self _ _ (none g e) joins c.if-draw.ensures.step c.if-draw.ensures.steps

pub returns-else-draw-clause-draws : goal.returns-else-draw-clause-draws
returns-else-draw-clause-draws g c =
    let a = (goal.at.returns-else-draw-clause-draws g c).After-is_started in
    let joins = subst (λ (r : Rounding). JoinsAll r.round (listed_in c.args.damage.now) (listed_in c.join_all.new.self)) (grid g a) c.join_all.ensures.joins in
    let d = (goal.at.returns-else-draw-clause-draws g c).Else-is_started in
    let e = (goal.at.returns-else-draw-clause-draws g c).Else-is_drawn in
    let steps = c.if-draw.ensures.steps in
    draws_idle _ _ (g.Q.Picture.color c.args.picture.now) (at g a) (sound g a) (stage c.draw.new.self (g.P.Panel.state c.args.panel.now) (listed_in c.draw.new.damage)) _ _
    (pump_idle (g.Q.Picture.color c.args.picture.now) (at g a) (sound g a) (listed_in c.join_all.new.self) (listed_in c.draw.new.damage) c.draw.new.self (none g e) (still g d) joins c.if-draw.ensures.step) (omega arith)
