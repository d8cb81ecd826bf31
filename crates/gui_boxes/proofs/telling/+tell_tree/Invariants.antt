use Rattle.std.proofs.Common.{◌≡◌, ℕ, Bool}
use Rattle.std.specs.Prelude.{vec_capacity}
use Rattle.gui_base.specs.Forest.{size, tree_at, children_of}
use Rattle.gui_tree.proofs.Below.{IsBelow}
use Rattle.gui_boxes.specs.Pending.{is_first}
use Rattle.gui_boxes.specs.Tables.{listing_of, told}
use Rattle.gui_boxes.specs.Telling.{Tells}
use Rattle.gui_boxes.specs.Touched.{is_touched, IsClosed}
use Rattle.gui_boxes.proofs.Rests.{Clears}
use Rattle.gui_boxes.proofs.telling.+tell_tree.Given as goal

abbrev pub decreases-tell_tree : goal.decreases-tell_tree
decreases-tell_tree l = size (tree_at l.tree.now.forest l.h.0)

abbrev pub invariant-loop-child : goal.invariant-loop-child
invariant-loop-child l =
    let f = l.tree.forest in
    let trees = l.child-iterator.left in
    let begun = l.initial in
    record {
      below : IsBelow f l.fn.h.0 l.child-iterator;
      listed : listing_of l.entries ≡ listing_of l.fn.entries;
      capacity : vec_capacity l.moved ≡ vec_capacity l.fn.moved;
      tells : Tells f (is_first l.pending) (told l.fn.entries) (told l.entries) l.fn.moved.items l.moved.items;
      closed : IsClosed (is_touched (told l.entries)) trees;
      touched : (t : ℕ → Bool) → Clears (is_touched (told l.entries)) t trees → Clears (is_touched (told begun.entries)) t (children_of f l.fn.h.0);
    }
