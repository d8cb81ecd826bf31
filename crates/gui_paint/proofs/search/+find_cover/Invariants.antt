use Rattle.std.proofs.Common.{◌≡◌, ◌≤◌, ◌+◌, fold}
use Rattle.gui_base.specs.Corners.{rect_of}
use Rattle.gui_base.specs.Forest.{size, tree_at, children_of}
use Rattle.gui_tree.proofs.Below.{IsBelow}
use Rattle.scene_defs.specs.Scene.{handles_of}
use Rattle.cover_defs.specs.Walks.{remembered}
use Rattle.gui_store.specs.Views.{scene_of}
use Rattle.gui_paint.specs.Walking.{number_of, below_walk}
use Rattle.gui_paint.proofs.Walking.{trees_walk}
use Rattle.gui_paint.proofs.search.+find_cover.Given as goal

abbrev pub decreases-find_cover : goal.decreases-find_cover
decreases-find_cover g l = size (tree_at (handles_of (scene_of l.shown.now.store.now).trees) l.h.0)

abbrev pub invariant-loop-child : goal.invariant-loop-child
invariant-loop-child g l =
    let scene = scene_of l.shown.store.now in
    let f = handles_of scene.trees in
    let left = l.child-iterator.left in
    let step = remembered scene (rect_of l.part) in
    let clip = rect_of l.seen.visible in
    record {
      below : IsBelow f l.fn.h.0 l.child-iterator;
      last : fold step (number_of l.search.last) (trees_walk scene clip left) ≡ fold step (number_of l.initial.search.last) (below_walk scene clip l.fn.h.0);
      steps : l.steps + size left ≤ l.initial.steps + size (children_of f l.fn.h.0);
    }
