use Rattle.std.proofs.Common.{ℕ, Option, ◌*◌}
use Rattle.gui_base.specs.Corners.{rect_of}
use Rattle.gui_base.specs.Forest.{size, tree_at, children_of}
use Rattle.gui_color.specs.Buffer.{Buffer}
use Rattle.gui_tree.proofs.Below.{IsBelow}
use Rattle.scene_defs.specs.Scene.{handles_of}
use Rattle.gui_store.specs.Views.{scene_of}
use Rattle.gui_paint.specs.Walking.{PaintsMet, number_of, below_walk}
use Rattle.gui_paint.proofs.Walking.{trees_walk}
use Rattle.gui_paint.proofs.paint.+paint_tree.Given as goal

abbrev pub decreases-paint_tree : goal.decreases-paint_tree
decreases-paint_tree g l = size (tree_at (handles_of (scene_of l.shown.now.store.now).trees) l.h.0)

abbrev pub invariant-loop-child : goal.invariant-loop-child
invariant-loop-child g l =
    let scene = scene_of l.shown.store.now in
    let f = handles_of scene.trees in
    let left = l.child-iterator.left in
    let clip = rect_of l.seen.visible in
    record {
      below : IsBelow f l.fn.h.0 l.child-iterator;
      later : (w : Option ℕ) (buf : Buffer) (to : ℕ) → PaintsMet scene (trees_walk scene clip left) (number_of l.progress.start) w l.buf buf (2 * size left) l.steps to →
          PaintsMet scene (below_walk scene clip l.fn.h.0) (number_of l.initial.progress.start) w l.initial.buf buf (2 * size (children_of f l.fn.h.0)) l.initial.steps to;
    }
