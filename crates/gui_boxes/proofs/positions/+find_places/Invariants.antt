use Rattle.std.proofs.Common.{ℕ, Bool, true, List, ◌≡◌}
use Rattle.std.specs.List.{All}
use Rattle.gui_base.specs.Forest.{size, tree_at, children_of}
use Rattle.layout_defs.specs.Solving.{Slot, nowhere}
use Rattle.gui_tree.proofs.Below.{IsBelow as IsWalkBelow}
use Rattle.gui_boxes.specs.Tables.{told, listing_of}
use Rattle.gui_boxes.specs.Touched.{is_touched, IsClosed, KeepsCalm}
use Rattle.gui_boxes.specs.Layouts.{ButTouchedPlaces}
use Rattle.gui_boxes.specs.Slots.{slot_at, at_roots, IsBelow}
use Rattle.gui_boxes.specs.Scrolls.{Scrolled, not_scrolled}
use Rattle.gui_boxes.proofs.Reached.{Reached}
use Rattle.gui_boxes.proofs.positions.+find_places.Given as goal

abbrev pub decreases-find_places : goal.decreases-find_places
decreases-find_places l = size (tree_at l.tree.now.forest l.h.0)

abbrev pub invariant-loop-child : goal.invariant-loop-child
invariant-loop-child l =
    let f = l.tree.forest in
    let trees = l.child-iterator.left in
    let was = told l.fn.entries in
    let now = told l.entries in
    let begun = told l.initial.entries in
    record {
      below : IsWalkBelow f l.fn.h.0 l.child-iterator;
      listed : listing_of l.entries ≡ listing_of l.fn.entries;
      rest : ButTouchedPlaces was now;
      more : (k : ℕ) → is_touched was k ≡ true → is_touched now k ≡ true;
      calm : KeepsCalm nowhere (is_touched now) was.slots now.slots;
      calm_scrolls : KeepsCalm not_scrolled (is_touched now) was.scrolls now.scrolls;
      closed : IsClosed (is_touched now) trees;
      near : All (IsBelow (slot_at was.slots l.fn.h.0)) (at_roots now.slots trees);
      later : (t : ℕ → Bool) (u : List Slot) (v : List Scrolled) → Reached was (is_touched now) t now.slots u now.scrolls v trees → Reached was (is_touched begun) t begun.slots u begun.scrolls v (children_of f l.fn.h.0);
    }
