use Rattle.std.proofs.Common.{◌≡◌, ℕ, Bool, true, List, ◌≤◌, length, drop, map}
use Rattle.gui_base.specs.Forest.{children_of}
use Rattle.layout_defs.specs.Solving.{Slot, nowhere}
use Rattle.gui_tree.proofs.Below.{IsBelow}
use Rattle.gui_boxes.specs.Tables.{told, listing_of}
use Rattle.gui_boxes.specs.Layouts.{ButTouchedSlots}
use Rattle.gui_boxes.specs.Touched.{is_touched, KeepsCalm}
use Rattle.gui_boxes.proofs.Touched.{TouchesRoots}
use Rattle.gui_boxes.specs.Kids.{Deals}
use Rattle.gui_boxes.specs.Slots.{room_in, item_slot}
use Rattle.gui_boxes.proofs.positions.deal_positions.Given as goal

abbrev pub invariant-loop-child : goal.invariant-loop-child
invariant-loop-child l =
    let f = l.tree.forest in
    let was = told l.fn.entries in
    let room = room_in l.area.inside in
    record {
      below : IsBelow f l.fn.h.0 l.child-iterator;
      listed : listing_of l.entries ≡ listing_of l.fn.entries;
      rest : ButTouchedSlots was (told l.entries);
      more : (k : ℕ) → is_touched was k ≡ true → is_touched (told l.entries) k ≡ true;
      calm : KeepsCalm nowhere (is_touched (told l.entries)) was.slots (told l.entries).slots;
      roots : (t : ℕ → Bool) → TouchesRoots (is_touched (told l.entries)) t l.child-iterator.left → TouchesRoots (is_touched was) t (children_of f l.fn.h.0);
      within : l.i ≤ length l.items;
      later : (u : List Slot) →
          Deals was room (told l.entries).slots u l.child-iterator.left (map (item_slot l.area.course room) (drop l.i l.items)) →
          Deals was room was.slots u (children_of f l.fn.h.0) (map (item_slot l.area.course room) l.items);
    }
