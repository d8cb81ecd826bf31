use Rattle.std.proofs.Common.{◌≡◌, ◌≤◌, ◌+◌, ◌++◌, map, take}
use Rattle.gui_base.specs.Forest.{roots, size}
use Rattle.layout_defs.specs.Solving.{taking_part}
use Rattle.gui_flex.specs.Items.{items_of}
use Rattle.gui_tree.proofs.Below.{IsBelow}
use Rattle.gui_boxes.specs.Tables.{told}
use Rattle.gui_boxes.specs.Views.{box_at}
use Rattle.gui_boxes.specs.Settled.{known}
use Rattle.gui_boxes.specs.Kids.{told_kids}
use Rattle.gui_boxes.specs.Sizings.{known_box, sized}
use Rattle.gui_boxes.proofs.items.fill_items.Given as goal

abbrev pub invariant-loop-child : goal.invariant-loop-child
invariant-loop-child l =
    let f = l.tree.forest in
    let later = l.child-iterator.left in
    let box = box_at (told l.entries).boxes in
    record {
      below : IsBelow f l.fn.h.0 l.child-iterator;
      few : l.count + size later ≤ size f;
      left : items_of (take l.count l.items) ++ map (sized l.sizing) (taking_part known_box (roots (known box (told l.entries) later))) ≡ map (sized l.sizing) (taking_part known_box (told_kids (told l.entries) f l.fn.h.0));
    }
