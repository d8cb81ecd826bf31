use Rattle.std.proofs.Common.{◌≡◌, ◌≤◌, ℕ, List, length, drop, map, max}
use Rattle.gui_base.specs.Forest.{Forest, children_of}
use Rattle.layout_defs.specs.Solving.{Room, Slot, Tall, dealt, far_end, end_across, end_down, own_slot, tall_box}
use Rattle.gui_tree.proofs.Below.{IsBelow}
use Rattle.gui_boxes.specs.Slots.{item_slot, room_in}
use Rattle.gui_boxes.specs.Tables.{told}
use Rattle.gui_boxes.proofs.Flows.{talls}
use Rattle.gui_boxes.proofs.positions.flat_reach.Given as goal

abbrev pub invariant-loop-child : goal.invariant-loop-child
invariant-loop-child l =
    let f = l.tree.forest in
    let t = told l.entries in
    let room : Room = room_in l.area.inside in
    let made = item_slot l.area.course room in
    let far : (Tall → Slot → ℕ) → Forest ℕ → List Slot → ℕ = λ end trees flow. far_end end (talls t room trees) (dealt tall_box (own_slot room) (talls t room trees) flow) in
    record {
      below : IsBelow f l.fn.h.0 l.child-iterator;
      within : l.i ≤ length l.items;
      across : max l.ends.across (far (end_across room) l.child-iterator.left (map made (drop l.i l.items))) ≡ far (end_across room) (children_of f l.fn.h.0) (map made l.items);
      down : max l.ends.down (far (end_down room) l.child-iterator.left (map made (drop l.i l.items))) ≡ far (end_down room) (children_of f l.fn.h.0) (map made l.items);
    }
