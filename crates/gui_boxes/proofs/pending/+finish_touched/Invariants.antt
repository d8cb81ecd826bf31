use Rattle.std.proofs.Common.{◌≡◌, ℕ, Bool, true}
use Rattle.gui_base.specs.Forest.{has, size, tree_at, children_of}
use Rattle.gui_tree.proofs.Below.{IsBelow}
use Rattle.gui_boxes.specs.Pending.{is_first, is_pending}
use Rattle.gui_boxes.specs.Tables.{listing_of, told}
use Rattle.gui_boxes.specs.Touched.{is_touched, IsClosed}
use Rattle.gui_boxes.proofs.Rests.{Clears}
use Rattle.gui_boxes.proofs.pending.+finish_touched.Given as goal

abbrev pub decreases-finish_touched : goal.decreases-finish_touched
decreases-finish_touched l = size (tree_at l.tree.now.forest l.h.0)

abbrev pub invariant-loop-child : goal.invariant-loop-child
invariant-loop-child l =
    let f = l.tree.forest in
    let trees = l.child-iterator.left in
    let begun = l.initial in
    record {
      below : IsBelow f l.fn.h.0 l.child-iterator;
      marks : listing_of l.pending ≡ listing_of l.fn.pending;
      first : (k : ℕ) → is_first l.pending k ≡ is_first l.fn.pending k;
      closed : IsClosed (is_touched (told l.entries)) trees;
      marked : (k : ℕ) → has trees k ≡ true → is_pending l.pending k ≡ true → is_touched (told l.entries) k ≡ true;
      pending : (t : ℕ → Bool) → Clears (is_pending l.pending) t trees → Clears (is_pending begun.pending) t (children_of f l.fn.h.0);
    }
