use Rattle.std.proofs.Common.{ℕ, Bool, true, List, ◌≡◌}
use Rattle.gui_base.specs.Forest.{size, tree_at, children_of}
use Rattle.gui_tree.proofs.Below.{IsBelow}
use Rattle.gui_boxes.specs.Tables.{told, listing_of}
use Rattle.gui_boxes.specs.Layouts.{ButTouchedWidths}
use Rattle.gui_boxes.specs.Touched.{is_touched, IsClosed, KeepsCalm}
use Rattle.gui_boxes.proofs.Lowered.{Lowered}
use Rattle.gui_boxes.proofs.widths.+find_widths.Given as goal

abbrev pub decreases-find_widths : goal.decreases-find_widths
decreases-find_widths l = size (tree_at l.tree.now.forest l.h.0)

abbrev pub invariant-loop-child : goal.invariant-loop-child
invariant-loop-child l =
    let f = l.tree.forest in
    let was = told l.fn.entries in
    let begun = told l.initial.entries in
    let now = told l.entries in
    record {
      below : IsBelow f l.fn.h.0 l.child-iterator;
      listed : listing_of l.entries ≡ listing_of l.fn.entries;
      rest : ButTouchedWidths was now;
      more : (k : ℕ) → is_touched was k ≡ true → is_touched now k ≡ true;
      calm : KeepsCalm 0 (is_touched now) was.widths now.widths;
      closed : IsClosed (is_touched now) l.child-iterator.left;
      later : (t : ℕ → Bool) (u : List ℕ) → Lowered was (is_touched now) t now.widths u l.child-iterator.left → Lowered was (is_touched begun) t begun.widths u (children_of f l.fn.h.0);
    }
