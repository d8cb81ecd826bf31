use Rattle.std.proofs.Common.{◌∙◌, sym, ap}
use Rattle.gui_base.specs.Corners.{rect_of}
use Rattle.gui_base.specs.Gridded.{block_of}
use Rattle.gui_base.specs.declared.rounding.Grid.{Grid}
use Rattle.gui_change.specs.Canvas.{scene_in}
use Rattle.gui_board.proofs.Sending.{can_refresh, pumps_scene, draws_part}
use Rattle.gui_damage.specs.Gridded.{listed_in}
use Rattle.gui_refresh.specs.Stages.{Sizes, stage}
use Rattle.gui_board.proofs.board.Board.pump.Goals as goal

pub pump-requires : goal.pump-requires
pump-requires g c = record {
  can = can_refresh (scene_in c.args.self.now.canvas) (stage c.args.refresher.now (g.P.Panel.state c.args.panel.now) (listed_in c.args.self.now.damage))
      (record { sizes = c.requires.can.sizes; started = c.requires.can.started; coming = c.requires.can.coming }) c.requires.refresher c.args.self.now.panel;
  blocks = c.args.self.now.blocks ∙ sym (ap (λ (s : Sizes). s.block) c.requires.refresher);
}

pub returns-clause-pumps : goal.returns-clause-pumps
returns-clause-pumps g c =
    pumps_scene (scene_in c.args.self.now.canvas) (stage c.args.refresher.now (g.P.Panel.state c.args.panel.now) (listed_in c.args.self.now.damage)) (stage c.pump.new.self (g.P.Panel.state c.pump.new.panel) (listed_in c.pump.new.damage))
    c.pump.result c.requires.can.sizes c.requires.refresher c.args.self.now.panel (g.met.P.Panel.each c.pump.new.panel) c.pump.ensures.pumps

pub returns-clause-draws : goal.returns-clause-draws
returns-clause-draws g c =
    draws_part (scene_in c.args.self.now.canvas) (stage c.args.refresher.now (g.P.Panel.state c.args.panel.now) (listed_in c.args.self.now.damage)) (stage c.pump.new.self (g.P.Panel.state c.pump.new.panel) (listed_in c.pump.new.damage))
    c.pump.result _ _ c.requires.can.sizes c.requires.refresher c.args.self.now.panel c.pump.ensures.pumps.keeps c.pump.ensures.draws

pub invariant_of-self-clause-panel : goal.invariant_of-self-clause-panel
invariant_of-self-clause-panel g c = ap (λ (grid : Grid). rect_of grid.panel) c.pump.ensures.round ∙ c.args.self.now.panel

pub invariant_of-self-clause-blocks : goal.invariant_of-self-clause-blocks
invariant_of-self-clause-blocks g c = ap block_of c.pump.ensures.round ∙ c.args.self.now.blocks
