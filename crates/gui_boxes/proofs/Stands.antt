-- Room for places below one another, and slots that are dealt.
use Rattle.std.proofs.Common.{◌≡◌, ◌∙◌, ap, ℕ, ◌+◌, ◌≤◌, List, arith}
use Rattle.std.proofs.lemmas.Int.{ints}
use Rattle.layout_defs.specs.Solving.{Tall, tall_box, taking_part, dealt, own_slot, flow_slots, room_of, Slot, Room, flat_slots}
use Rattle.gui_boxes.specs.Slots.{IsBelow, HasRoom}

-- a child has room for all but one of the levels
pub room_below : (parent child : Slot) (m n : ℕ) → HasRoom parent n → IsBelow parent child → m + 1 ≤ n → HasRoom child m
room_below parent child m n room below fewer =
    let a = room.left in let b = room.right in let c = room.top in let d = room.bottom in
    let e = below.left in let f = below.right in let g = below.top in let h = below.bottom in
    record { left = omega (arith, ints); right = omega (arith, ints); top = omega (arith, ints); bottom = omega (arith, ints) }

-- the slots that are dealt are those in which the children stand flat
pub flat_slots_are : (tall : Tall) (slot : Slot) (room : Room) (kids : List Tall) (flow ss : List Slot) → room ≡ room_of tall slot →
    ss ≡ dealt tall_box (own_slot room) kids flow → flow ≡ flow_slots tall.box room (taking_part tall_box kids) → ss ≡ flat_slots tall slot kids
flat_slots_are tall slot room kids flow ss is_room is is_flow =
    is ∙ (ap (dealt tall_box (own_slot room) kids) is_flow ∙ ap (λ (r : Room). dealt tall_box (own_slot r) kids (flow_slots tall.box r (taking_part tall_box kids))) is_room)

pub room_fewer : (slot : Slot) (m n : ℕ) → HasRoom slot n → m ≤ n → HasRoom slot m
room_fewer slot m n room fewer =
    let a = room.left in let b = room.right in let c = room.top in let d = room.bottom in
    record { left = omega (arith, ints); right = omega (arith, ints); top = omega (arith, ints); bottom = omega (arith, ints) }
