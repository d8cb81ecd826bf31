use Rattle.std.proofs.Common.{◌*◌, subst, ℕ}
use Rattle.gui_base.specs.Area.{Rect}
use Rattle.gui_base.specs.Forest.{size, tree_by}
use Rattle.scene_defs.specs.Place.{panel_of}
use Rattle.scene_defs.specs.Scene.{is_at}
use Rattle.scene_defs.specs.Shown.{painted}
use Rattle.cover_defs.specs.Steps.{object_count}
use Rattle.gui_store.specs.Views.{scene_of}
use Rattle.gui_paint.specs.Walking.{PaintsMet, number_of, tree_walk}
use Rattle.gui_paint.proofs.Waiting.{paints_three}
use Rattle.gui_paint.proofs.paint.paint.Given.{Over}
use Rattle.gui_paint.proofs.paint.paint.Goals as goal
use Rattle.gui_paint.proofs.paint.paint.Goals.{After-paint_tree-3}

all : (g : Over) (c : After-paint_tree-3 g) → PaintsMet (scene_of c.args.shown.now.store.now) (painted (scene_of c.args.shown.now.store.now)) (number_of c.args.start) (number_of c.paint_tree-3.new.progress.start) c.args.buf.now c.paint_tree-3.new.buf (2 * object_count (scene_of c.args.shown.now.store.now)) c.args.steps.now c.paint_tree-3.new.steps
all g c =
    let scene = scene_of c.args.shown.now.store.now in
    let clip = c.panel-clip.ensures in
    let count = λ (h : ℕ). 2 * size (tree_by (is_at h) scene.trees) in
    paints_three scene c.active-screen.ensures.valid _ _ _ _ _ _ _ _ _ _ _ _
    (subst (λ (h : ℕ). PaintsMet scene (tree_walk scene (panel_of scene) h) (number_of c.args.start) (number_of c.paint_tree.new.progress.start) c.args.buf.now c.paint_tree.new.buf (count h) c.args.steps.now c.paint_tree.new.steps) c.active-screen.ensures.screen
    (subst (λ (r : Rect). PaintsMet scene (tree_walk scene r c.active-screen.result.0) (number_of c.args.start) (number_of c.paint_tree.new.progress.start) c.args.buf.now c.paint_tree.new.buf (count c.active-screen.result.0) c.args.steps.now c.paint_tree.new.steps) clip c.paint_tree.ensures))
    (subst (λ (r : Rect). PaintsMet scene (tree_walk scene r 1) (number_of c.paint_tree.new.progress.start) (number_of c.paint_tree-2.new.progress.start) c.paint_tree.new.buf c.paint_tree-2.new.buf (count 1) c.paint_tree.new.steps c.paint_tree-2.new.steps) clip c.paint_tree-2.ensures)
    (subst (λ (r : Rect). PaintsMet scene (tree_walk scene r 2) (number_of c.paint_tree-2.new.progress.start) (number_of c.paint_tree-3.new.progress.start) c.paint_tree-2.new.buf c.paint_tree-3.new.buf (count 2) c.paint_tree-2.new.steps c.paint_tree-3.new.steps) clip c.paint_tree-3.ensures)

pub returns-clause-painted : goal.returns-clause-painted
returns-clause-painted g c = (all g c).painted

pub returns-clause-steps : goal.returns-clause-steps
returns-clause-steps g c = (all g c).steps
