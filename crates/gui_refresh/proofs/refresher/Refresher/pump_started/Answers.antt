use Rattle.std.proofs.Common.{◌≡◌, ◌∙◌, sym, ap, subst, ◌<◌, Some, None, arith}
use Rattle.gui_base.specs.Gridded.{block_of}
use Rattle.gui_color.specs.Buffer.{Buffer}
use Rattle.gui_damage.specs.Gridded.{listed_in}
use Rattle.gui_damage.specs.Pending.{Pending}
use Rattle.gui_refresh.specs.Stages.{Stage, Refreshing, panel_with, stage}
use Rattle.gui_refresh.proofs.Pumps.{pump_polled, pump_beside, pump_waiting, some_of, none_drawn}
use Rattle.gui_refresh.proofs.Slicing.{draws_polled, draws_beside, draws_waiting}
use Rattle.gui_refresh.proofs.Steps.{IsSound, panel_is}
use Rattle.gui_refresh.proofs.refresher.Refresher.pump_started.Given.{Over}
use Rattle.gui_refresh.proofs.refresher.Refresher.pump_started.Goals as goal
use Rattle.gui_refresh.proofs.refresher.Refresher.pump_started.Goals.{After-poll}

abbrev at : (g : Over) → After-poll g → Stage
at g c = stage c.args.self.now (g.P.Panel.state c.args.panel.now) (listed_in c.args.damage.now)

sound : (g : Over) (c : After-poll g) → IsSound (at g c)
sound g c = record { can = c.requires.can; refresher = c.requires.sound; flying = g.met.P.Panel.flying c.args.panel.now }

flying : (g : Over) (c : After-poll g) → (buf : Buffer) × ((g.P.Panel.state c.args.panel.now).coming ≡ Some buf)
flying g c = some_of (g.P.Panel.state c.args.panel.now).coming (sym c.requires.can.started ∙ c.requires.started)

pub returns-in-Some-clause-pumps : goal.returns-in-Some-clause-pumps
returns-in-Some-clause-pumps g c =
    let a = (goal.at.returns-in-Some-clause-pumps g c).After-poll in
    pump_polled (g.Q.Picture.color c.args.picture.now) (at g a) (sound g a) (stage c.poll.new.self (g.P.Panel.state c.poll.new.panel) (listed_in c.poll.new.damage)) c.in-Some.answer c.in-Some.ensures.step

pub draw-requires : goal.draw-requires
draw-requires g c =
    let a = (goal.at.draw-requires g c).After-poll in
    let step = c.in-None.ensures.step in
    record {
      blocks = ap block_of c.in-None.ensures.round ∙ (c.requires.blocks ∙ sym (ap (λ (r : Refreshing). r.sizes.block) step.refresher));
      area = ap (λ (d : Pending). d.panel) step.pending ∙ (c.requires.can.area ∙ (panel_is (at g a) c.requires.can ∙ sym (ap (λ (r : Refreshing). panel_with r.sizes) step.refresher)));
      none = subst (λ (r : Refreshing). 0 < r.free → r.drawn ≡ None) (sym step.refresher) (none_drawn (g.Q.Picture.color c.args.picture.now) (at g a) (sound g a) (flying g a).0 (flying g a).1);
    }

pub returns-then-draw-clause-pumps : goal.returns-then-draw-clause-pumps
returns-then-draw-clause-pumps g c =
    let a = (goal.at.returns-then-draw-clause-pumps g c).After-poll in
    pump_beside (g.Q.Picture.color c.args.picture.now) (at g a) (sound g a) (stage c.poll.new.self (g.P.Panel.state c.poll.new.panel) (listed_in c.poll.new.damage)) c.draw.new.self (listed_in c.draw.new.damage) (flying g a).0 (flying g a).1 c.in-None.ensures.step c.if-draw.ensures.step

pub returns-else-draw-clause-pumps : goal.returns-else-draw-clause-pumps
returns-else-draw-clause-pumps g c =
    let a = (goal.at.returns-else-draw-clause-pumps g c).After-poll in
    pump_waiting (g.Q.Picture.color c.args.picture.now) (at g a) (sound g a) (stage c.poll.new.self (g.P.Panel.state c.poll.new.panel) (listed_in c.poll.new.damage)) c.draw.new.self (listed_in c.draw.new.damage) (flying g a).0 (flying g a).1 c.in-None.ensures.step c.if-draw.ensures.step

pub returns-in-Some-clause-draws : goal.returns-in-Some-clause-draws
returns-in-Some-clause-draws g c =
    let a = (goal.at.returns-in-Some-clause-draws g c).After-poll in
    let new = stage c.poll.new.self (g.P.Panel.state c.poll.new.panel) (listed_in c.poll.new.damage) in
    let pumps = pump_polled (g.Q.Picture.color c.args.picture.now) (at g a) (sound g a) new c.in-Some.answer c.in-Some.ensures.step in
    draws_polled _ _ (g.Q.Picture.color c.args.picture.now) (at g a) (sound g a) new c.in-Some.answer _ _ c.in-Some.ensures.step pumps (omega arith)

pub returns-then-draw-clause-draws : goal.returns-then-draw-clause-draws
returns-then-draw-clause-draws g c =
    let a = (goal.at.returns-then-draw-clause-draws g c).After-poll in
    draws_beside _ _ (g.Q.Picture.color c.args.picture.now) (at g a) (sound g a) (stage c.poll.new.self (g.P.Panel.state c.poll.new.panel) (listed_in c.poll.new.damage)) c.draw.new.self (listed_in c.draw.new.damage) (flying g a).0 _ _ (flying g a).1 c.in-None.ensures.step c.if-draw.ensures.step c.if-draw.ensures.steps

pub returns-else-draw-clause-draws : goal.returns-else-draw-clause-draws
returns-else-draw-clause-draws g c =
    let a = (goal.at.returns-else-draw-clause-draws g c).After-poll in
    let steps = c.if-draw.ensures.steps in
    draws_waiting _ _ (g.Q.Picture.color c.args.picture.now) (at g a) (sound g a) (stage c.draw.new.self (g.P.Panel.state c.poll.new.panel) (listed_in c.draw.new.damage)) _ _
    (pump_waiting (g.Q.Picture.color c.args.picture.now) (at g a) (sound g a) (stage c.poll.new.self (g.P.Panel.state c.poll.new.panel) (listed_in c.poll.new.damage)) c.draw.new.self (listed_in c.draw.new.damage) (flying g a).0 (flying g a).1 c.in-None.ensures.step c.if-draw.ensures.step) (omega arith)
