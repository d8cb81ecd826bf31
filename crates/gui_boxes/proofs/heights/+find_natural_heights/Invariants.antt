use Rattle.std.proofs.Common.{◌≡◌, ◌≤◌, ◌+◌}
use Rattle.gui_base.specs.Forest.{size, tree_at, children_of}
use Rattle.gui_tree.proofs.Below.{IsBelow}
use Rattle.gui_boxes.specs.Totals.{total_of, down_kid}
use Rattle.gui_boxes.specs.Settled.{tall_of}
use Rattle.gui_boxes.specs.Tables.{told, listing_of}
use Rattle.gui_boxes.specs.Touched.{is_touched, IsClosed, KeepsCalm}
use Rattle.gui_boxes.proofs.Touched.{touched_pass}
use Rattle.gui_boxes.specs.Layouts.{ButNaturalHeights}
use Rattle.gui_boxes.proofs.Passes.{Gathers, heights_pass}
use Rattle.gui_boxes.proofs.heights.+find_natural_heights.Given as goal

abbrev pub decreases-find_natural_heights : goal.decreases-find_natural_heights
decreases-find_natural_heights l = size (tree_at l.tree.now.forest l.h.0)

abbrev pub invariant-loop-child : goal.invariant-loop-child
invariant-loop-child l =
    let f = l.tree.forest in
    let was = told l.fn.entries in
    let trees = l.child-iterator.left in
    record {
      below : IsBelow f l.h.0 l.child-iterator;
      few : l.total.count + size trees ≤ 4000;
      listed : listing_of l.entries ≡ listing_of l.fn.entries;
      rest : ButNaturalHeights was (told l.entries);
      closed : IsClosed (is_touched was) trees;
      calm : KeepsCalm 0 (is_touched was) was.natural_heights (told l.entries).natural_heights;
      gathered : Gathers (touched_pass (is_touched was) (heights_pass was)) tall_of down_kid l.run was.natural_heights (children_of f l.h.0) (told l.entries).natural_heights (total_of l.total) trees;
    }
