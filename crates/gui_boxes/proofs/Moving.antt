-- Children that are dealt in a content area that is moved.
use Rattle.std.proofs.Common.{◌≡◌, ◌∙◌, refl, ap, ℕ, ℤ, pos, ◌-ℤ◌, ◌≤◌, List, [], ◌∷◌, map, arith}
use Rattle.std.proofs.lemmas.Int.{ints}
use Rattle.layout_defs.specs.declared.Course.{Course}
use Rattle.layout_defs.specs.declared.Course.TheVariants.{Free, Across, Down}
use Rattle.layout_defs.specs.Scrolling.{moved_room}
use Rattle.layout_defs.specs.Solving.{Slot, Room, Span, moved, no_span}
use Rattle.layout_defs.proofs.Scrolling.{slot-moved}
use Rattle.gui_flex.specs.declared.item.FlexItem.{FlexItem}
use Rattle.gui_flex.specs.Items.{item_of, spot_of}
use Rattle.gui_boxes.specs.Slots.{item_slot, IsAtCorner, IsBelow, IsClose}

item-moved : (course : Course) (offset : Span) (room : Room) (item : FlexItem) → item_slot course (moved_room offset room) item ≡ moved offset (item_slot course room item)
item-moved Free offset room item = slot-moved offset room (spot_of item).main_at (spot_of item).cross_at (item_of item).cross
item-moved Across offset room item = slot-moved offset room (spot_of item).main_at (spot_of item).cross_at (item_of item).cross
item-moved Down offset room item = slot-moved offset room (spot_of item).cross_at (spot_of item).main_at (item_of item).main

pub items-moved : (course : Course) (offset : Span) (room : Room) (items : List FlexItem) → map (item_slot course (moved_room offset room)) items ≡ map (moved offset) (map (item_slot course room) items)
items-moved course offset room [] = refl
items-moved course offset room (item ∷ items) = rw (item-moved course offset room item, items-moved course offset room items) refl

pub moved_below : (parent : Slot) (room : Room) (offset : Span) → IsAtCorner parent room → offset.across ≤ 8191 → offset.down ≤ 8191 → (child : Slot) → IsClose (moved_room offset room).x (moved_room offset room).y child → IsBelow parent child
moved_below parent room offset corner x y child close =
    let a = corner.left in let b = corner.right in let c = corner.top in let d = corner.bottom in
    let e = close.left in let f = close.right in let g = close.top in let h = close.bottom in
    record { left = omega (arith, ints); right = omega (arith, ints); top = omega (arith, ints); bottom = omega (arith, ints) }

-- Nothing to move.
less-none : (x : ℤ) → (x -ℤ pos 0) ≡ x
less-none x = omega (arith, ints)

abbrev slot_with : ℤ → ℤ → ℕ → Slot
slot_with x y height = record { x = x; y = y; height = height }

pub slot-still : (offset : Span) → offset ≡ no_span → (slot : Slot) → moved offset slot ≡ slot
slot-still offset none slot =
    ap (λ (o : Span). moved o slot) none
    ∙ (ap (λ x. slot_with x (slot.y -ℤ pos 0) slot.height) (less-none slot.x) ∙ ap (λ y. slot_with slot.x y slot.height) (less-none slot.y))

abbrev corner_at : Room → ℤ → ℤ → Room
corner_at room x y = record room { x = x; y = y }

pub room-still : (offset : Span) → offset ≡ no_span → (room : Room) → moved_room offset room ≡ room
room-still offset none room =
    ap (λ (o : Span). moved_room o room) none
    ∙ (ap (λ x. corner_at room x (room.y -ℤ pos 0)) (less-none room.x) ∙ ap (λ y. corner_at room room.x y) (less-none room.y))
