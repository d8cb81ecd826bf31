use Rattle.std.proofs.Common.{◌≤◌, ◌+◌, ◌≡◌}
use Rattle.gui_base.specs.Forest.{size, tree_at, children_of}
use Rattle.gui_tree.proofs.Below.{IsBelow}
use Rattle.gui_boxes.specs.Layouts.{ButNaturalWidths}
use Rattle.gui_boxes.specs.Totals.{total_of, across_kid}
use Rattle.gui_boxes.specs.Settled.{wide_of}
use Rattle.gui_boxes.specs.Tables.{told, listing_of}
use Rattle.gui_boxes.specs.Touched.{is_touched, IsClosed, KeepsCalm}
use Rattle.gui_boxes.proofs.Touched.{touched_pass}
use Rattle.gui_boxes.proofs.Passes.{Gathers, naturals_pass}
use Rattle.gui_boxes.proofs.natural.+find_natural_widths.Given as goal

abbrev pub decreases-find_natural_widths : goal.decreases-find_natural_widths
decreases-find_natural_widths l = size (tree_at l.tree.now.forest l.h.0)

abbrev pub invariant-loop-child : goal.invariant-loop-child
invariant-loop-child l =
    let f = l.tree.forest in
    let was = told l.fn.entries in
    let trees = l.child-iterator.left in
    record {
      below : IsBelow f l.h.0 l.child-iterator;
      listed : listing_of l.entries ≡ listing_of l.fn.entries;
      rest : ButNaturalWidths was (told l.entries);
      few : l.total.count + size trees ≤ 4000;
      closed : IsClosed (is_touched was) trees;
      calm : KeepsCalm 0 (is_touched was) was.natural_widths (told l.entries).natural_widths;
      gathered : Gathers (touched_pass (is_touched was) (naturals_pass was)) wide_of across_kid l.run was.natural_widths (children_of f l.h.0) (told l.entries).natural_widths (total_of l.total) trees;
    }
