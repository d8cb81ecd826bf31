use Rattle.std.proofs.Common.{◌∙◌, sym, ap}
use Rattle.gui_base.specs.Corners.{rect_of}
use Rattle.gui_base.specs.Gridded.{block_of}
use Rattle.gui_base.specs.declared.rounding.Grid.{Grid}
use Rattle.gui_change.specs.Canvas.{scene_in}
use Rattle.gui_board.proofs.Sending.{can_refresh, refreshes_scene, draws_scene}
use Rattle.gui_damage.specs.Gridded.{listed_in}
use Rattle.gui_refresh.specs.Stages.{Sizes, stage}
use Rattle.gui_board.proofs.board.Board.refresh.Goals as goal

pub refresh-requires : goal.refresh-requires
refresh-requires g c = record {
  can = can_refresh (scene_in c.args.self.now.canvas) (stage c.args.refresher.now (g.P.Panel.state c.args.panel.now) (listed_in c.args.self.now.damage))
      (record { sizes = c.requires.can.sizes; started = c.requires.can.started; coming = c.requires.can.coming }) c.requires.refresher c.args.self.now.panel;
  blocks = c.args.self.now.blocks ∙ sym (ap (λ (s : Sizes). s.block) c.requires.refresher);
}

pub returns-clause-refreshes : goal.returns-clause-refreshes
returns-clause-refreshes g c =
    refreshes_scene (scene_in c.args.self.now.canvas) (stage c.args.refresher.now (g.P.Panel.state c.args.panel.now) (listed_in c.args.self.now.damage)) (stage c.refresh.new.self (g.P.Panel.state c.refresh.new.panel) (listed_in c.refresh.new.damage))
    c.refresh.result c.requires.can.sizes c.requires.refresher c.args.self.now.panel (g.met.P.Panel.each c.refresh.new.panel) c.refresh.ensures.refreshes

pub returns-clause-draws : goal.returns-clause-draws
returns-clause-draws g c =
    draws_scene (scene_in c.args.self.now.canvas) (stage c.args.refresher.now (g.P.Panel.state c.args.panel.now) (listed_in c.args.self.now.damage)) (stage c.refresh.new.self (g.P.Panel.state c.refresh.new.panel) (listed_in c.refresh.new.damage))
    c.refresh.result _ _ c.requires.can.sizes c.requires.refresher c.args.self.now.panel c.refresh.ensures.refreshes.keeps c.refresh.ensures.draws

pub invariant_of-self-clause-panel : goal.invariant_of-self-clause-panel
invariant_of-self-clause-panel g c = ap (λ (grid : Grid). rect_of grid.panel) c.refresh.ensures.round ∙ c.args.self.now.panel

pub invariant_of-self-clause-blocks : goal.invariant_of-self-clause-blocks
invariant_of-self-clause-blocks g c = ap block_of c.refresh.ensures.round ∙ c.args.self.now.blocks
