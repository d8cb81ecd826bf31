use Rattle.std.proofs.Common.{◌∙◌, sym, ap, subst}
use Rattle.gui_base.specs.Area.{Rect}
use Rattle.gui_base.specs.Bounded.{bounds_of}
use Rattle.gui_base.specs.Gridded.{block_of, size_in}
use Rattle.gui_base.specs.Grids.{HasBlocks}
use Rattle.gui_base.proofs.Bounds.{limits_gridded}
use Rattle.gui_damage.specs.Gridded.{GridList}
use Rattle.scene_defs.specs.Scene.{Scene}
use Rattle.gui_board.proofs.NoHandlers.{no_handlers_is, first_machine_is}
use Rattle.gui_board.proofs.board.Board.open.Goals as goal

pub new-grid-requires : goal.new-grid-requires
new-grid-requires c =
    let limits = c.args.limits.now in
    subst (λ (panel : Rect). HasBlocks limits.block.w limits.block.h panel) (sym c.panel_area-panel.ensures.value) (limits_gridded limits).whole

pub invariant_of-result-clause-blocks : goal.invariant_of-result-clause-blocks
invariant_of-result-clause-blocks c =
    ap (λ (d : GridList). block_of d.round) c.new-damage.ensures ∙ (ap size_in c.new-grid.ensures.block ∙ sym (ap (λ (s : Scene). s.limits.block) c.in_ok-canvas.ensures.scene))

pub returns-clause-machine : goal.returns-clause-machine
returns-clause-machine c =
    let handlers = c.in_ok-handlers.ensures in
    first_machine_is _ _ _ _ _ (bounds_of c.args.limits.now) c.in_ok-canvas.ensures.scene (no_handlers_is c.in_ok-handlers.handlers.lists handlers.handles handlers.none) c.in_ok-groups.ensures.none c.in_ok-anims.ensures.none c.new.ensures
