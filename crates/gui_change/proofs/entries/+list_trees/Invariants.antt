use Rattle.std.proofs.Common.{◌≡◌, ◌≤◌, ◌+◌, ◌*◌, ◌++◌, vec_len, vec_capacity}
use Rattle.gui_base.specs.Forest.{size}
use Rattle.scene_defs.specs.Shown.{entries_in}
use Rattle.gui_change.specs.Entries.{all_entries}
use Rattle.gui_change.proofs.entries.+list_trees.Given as goal

abbrev pub decreases-list_trees : goal.decreases-list_trees
decreases-list_trees l = size l.trees.left

abbrev pub invariant-loop-h : goal.invariant-loop-h
invariant-loop-h l =
    let later = l.h-iterator.left in
    record {
      same : l.h-iterator.forest ≡ l.tree.forest;
      fewer : size later ≤ size l.fn.trees.left;
      len : vec_len l.listed + 2 * size later ≡ vec_len l.fn.listed + 2 * size l.fn.trees.left;
      capacity : vec_capacity l.listed ≡ vec_capacity l.fn.listed;
      left : all_entries l.listed.items ++ entries_in later ≡ all_entries l.fn.listed.items ++ entries_in l.fn.trees.left;
    }
