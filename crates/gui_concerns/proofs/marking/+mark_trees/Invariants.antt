use Rattle.std.proofs.Common.{◌≡◌, ◌≤◌, ℕ, true, ◌||◌}
use Rattle.gui_base.specs.Forest.{has, size}
use Rattle.gui_boxes.specs.Marks.{is_changed, is_parent, most_marks}
use Rattle.gui_concerns.specs.Marking.{AreMarked}
use Rattle.gui_concerns.proofs.marking.+mark_trees.Given as goal

abbrev pub decreases-mark_trees : goal.decreases-mark_trees
decreases-mark_trees l = size l.trees.left

abbrev pub invariant-loop-h : goal.invariant-loop-h
invariant-loop-h l =
    let later = l.h-iterator.left in
    record {
      same : l.h-iterator.forest ≡ l.tree.forest;
      fewer : size later ≤ size l.fn.trees.left;
      room : AreMarked l.marks l.tree.forest;
      changed : (k : ℕ) → (is_changed l.marks k || has later k) ≡ (is_changed l.fn.marks k || has l.fn.trees.left k);
      most : most_marks l.marks ≡ most_marks l.fn.marks;
      parents : (k : ℕ) → is_parent l.marks k ≡ true → is_parent l.fn.marks k ≡ true;
    }
