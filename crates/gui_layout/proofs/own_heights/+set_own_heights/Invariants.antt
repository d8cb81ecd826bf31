use Rattle.std.proofs.Common.{◌≡◌, List, Option}
use Rattle.gui_base.specs.Forest.{size, tree_at, children_of}
use Rattle.gui_store.specs.Views.{scene_of}
use Rattle.gui_tree.proofs.Below.{IsBelow}
use Rattle.gui_boxes.specs.declared.layout_box.LayoutBox.{LayoutBox}
use Rattle.gui_boxes.specs.Layouts.{ButBoxes}
use Rattle.gui_layout.specs.OwnHeights.{IsFixed, AreFixedIf, KeepsFixed}
use Rattle.gui_layout.specs.Renewed.{KeepsRenewed}
use Rattle.gui_layout.specs.Scenes.{scene_box}
use Rattle.gui_boxes.specs.Tables.{told, listing_of}
use Rattle.gui_boxes.specs.Touched.{is_touched, IsClosed}
use Rattle.gui_layout.proofs.own_heights.+set_own_heights.Given as goal

abbrev pub decreases-set_own_heights : goal.decreases-set_own_heights
decreases-set_own_heights l = size (tree_at l.tree.now.forest l.h.0)

abbrev pub invariant-loop-child : goal.invariant-loop-child
invariant-loop-child l =
    let f = l.tree.forest in
    let box = scene_box (scene_of l.store) in
    let w = (told l.fn.entries).widths in
    let touched = is_touched (told l.fn.entries) in
    record {
      below : IsBelow f l.fn.h.0 l.child-iterator;
      boxes : KeepsRenewed (scene_of l.store) (told l.fn.entries).boxes (told l.entries).boxes;
      listed : listing_of l.entries ≡ listing_of l.fn.entries;
      rest : ButBoxes (told l.fn.entries) (told l.entries);
      closed : IsClosed touched l.child-iterator.left;
      kept : KeepsFixed box w (told l.fn.entries).boxes (told l.entries).boxes;
      top : IsFixed box w (told l.entries).boxes l.fn.h.0;
      later : (t : List (Option LayoutBox)) → KeepsFixed box w (told l.entries).boxes t → AreFixedIf touched box w t l.child-iterator.left → AreFixedIf touched box w t (children_of f l.fn.h.0);
    }
