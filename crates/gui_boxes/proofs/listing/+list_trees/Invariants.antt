use Rattle.std.proofs.Common.{◌≡◌, ◌≤◌, ◌+◌, ◌++◌, vec_len, vec_capacity}
use Rattle.gui_base.specs.Forest.{size, preorder}
use Rattle.gui_tree.specs.Handles.{numbers}
use Rattle.gui_boxes.proofs.listing.+list_trees.Given as goal

abbrev pub decreases-list_trees : goal.decreases-list_trees
decreases-list_trees l = size l.trees.left

abbrev pub invariant-loop-h : goal.invariant-loop-h
invariant-loop-h l =
    let later = l.h-iterator.left in
    record {
      same : l.h-iterator.forest ≡ l.tree.forest;
      fewer : size later ≤ size l.fn.trees.left;
      len : vec_len l.listed + size later ≡ vec_len l.fn.listed + size l.fn.trees.left;
      capacity : vec_capacity l.listed ≡ vec_capacity l.fn.listed;
      left : numbers l.listed.items ++ preorder later ≡ numbers l.fn.listed.items ++ preorder l.fn.trees.left;
    }
