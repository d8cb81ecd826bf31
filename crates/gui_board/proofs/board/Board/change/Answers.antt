use Rattle.std.proofs.Common.{◌≡◌, ◌∙◌, sym, ap, refl}
use Rattle.gui_base.specs.Gridded.{block_of}
use Rattle.gui_base.specs.Limits.{Bounds}
use Rattle.gui_damage.specs.Gridded.{listed_in}
use Rattle.std.proofs.lemmas.Result.{on_err_weaker}
use Rattle.scene_defs.proofs.Changes.{change_keeps_limits}
use Rattle.scene_defs.specs.Scene.{Scene}
use Rattle.gui_change.specs.Canvas.{scene_in}
use Rattle.debt_defs.specs.Scenes.{debt_of}
use Rattle.gui_board.specs.Boards.{machine_of, stage}
use Rattle.gui_board.proofs.Areas.{adds_of_panel, same_panel, stays_of_panel}
use Rattle.gui_board.proofs.Boards.{played_change, sized_for}
use Rattle.gui_board.proofs.Writes.{writes_nothing}
use Rattle.gui_board.proofs.board.Board.change.Goals as goal
use Rattle.gui_board.proofs.board.Board.change.Goals.{After-change}

same_limits : (c : After-change) → (scene_in c.change.new.self).limits ≡ (scene_in c.args.self.now.canvas).limits
same_limits c = ap (λ (s : Scene). s.limits) c.change.ensures.after ∙ change_keeps_limits (scene_in c.args.self.now.canvas) c.args.change.now

pub invariant_of-self : goal.invariant_of-self
invariant_of-self c =
    let limits = same_limits (goal.at.invariant_of-self c).After-change in record {
      panel = c.change.ensures.debt.panel ∙ (c.args.self.now.panel ∙ sym (same_panel (scene_in c.args.self.now.canvas) (scene_in c.change.new.self) limits));
      blocks = ap block_of c.change.ensures.round ∙ (c.args.self.now.blocks ∙ sym (ap (λ (b : Bounds). b.block) limits));
      sized = sized_for c.args.self.now.handlers c.args.self.now.groups c.args.self.now.anims (sym limits) c.args.self.now.sized;
    }

pub returns-clause-done : goal.returns-clause-done
returns-clause-done c = λ log.
    let old = scene_in c.args.self.now.canvas in
    let limits = same_limits (goal.at.returns-clause-done c).After-change in
    played_change (stage c.args.self.now log) _ c.args.change.now
    (ap (λ (s : Scene). record (machine_of c.args.self.now) { scene = s }) c.change.ensures.after)
    (adds_of_panel old (scene_in c.change.new.self) (listed_in c.args.self.now.damage) (listed_in c.change.new.damage) (debt_of old c.args.change.now) c.args.self.now.panel limits c.change.ensures.debt)
    (writes_nothing c.args.self.now.scribe.cut log) refl

pub returns-clause-refused : goal.returns-clause-refused
returns-clause-refused c =
    let limits = same_limits (goal.at.returns-clause-refused c).After-change in
    on_err_weaker c.change.result (λ same. stays_of_panel (scene_in c.args.self.now.canvas) (scene_in c.change.new.self) (listed_in c.args.self.now.damage) (listed_in c.change.new.damage) limits (ap listed_in same)) c.change.ensures.refused
