use Rattle.std.proofs.Common.{◌≡◌, map, max}
use Rattle.gui_base.specs.Forest.{children_of, roots}
use Rattle.layout_defs.specs.Solving.{far_end, end_across, end_down}
use Rattle.gui_tree.proofs.Below.{IsBelow}
use Rattle.gui_boxes.specs.Scrolls.{at_corner}
use Rattle.gui_boxes.specs.Kids.{tall_kids, told_trees}
use Rattle.gui_boxes.specs.Settled.{tall_of}
use Rattle.gui_boxes.specs.Slots.{at_roots}
use Rattle.gui_boxes.specs.Tables.{told}
use Rattle.gui_boxes.proofs.reaching.reach_of.Given as goal

abbrev pub invariant-loop-child : goal.invariant-loop-child
invariant-loop-child l =
    let f = l.tree.forest in
    let trees = l.child-iterator.left in
    let t = told l.entries in
    let room = at_corner l.x l.y in
    record {
      below : IsBelow f l.fn.h.0 l.child-iterator;
      across :
          max l.ends.across (far_end (end_across room) (map tall_of (roots (told_trees t trees))) (at_roots t.slots trees))
          ≡ far_end (end_across room) (tall_kids t f l.fn.h.0) (at_roots t.slots (children_of f l.fn.h.0));
      down :
          max l.ends.down (far_end (end_down room) (map tall_of (roots (told_trees t trees))) (at_roots t.slots trees))
          ≡ far_end (end_down room) (tall_kids t f l.fn.h.0) (at_roots t.slots (children_of f l.fn.h.0));
    }
