-- Slots of children, from the tables and from items.
use Rattle.std.specs.Prelude.{ℕ, ◌*◌, ℤ, pos, ◌≤ℤ◌, ◌+ℤ◌, ◌-ℤ◌, List, [], map, slice_index}
use Rattle.std.specs.Prelude.{slice_index_or}
use Rattle.gui_base.specs.Forest.{Forest, roots, map_forest}
use Rattle.layout_defs.specs.declared.Course.{Course}
use Rattle.layout_defs.specs.declared.Course.TheVariants.{Free, Across, Down}
use Rattle.layout_defs.specs.Flex.{TrackItem, shared, spots}
use Rattle.layout_defs.specs.Boxes.{Box, wraps}
use Rattle.layout_defs.specs.Solving.{Tall, Slot, Room, Placed, paired, height_in}
use Rattle.layout_defs.specs.Solving.{row_slot, column_slot, nowhere}
use Rattle.layout_defs.specs.Tables.{Holds}
use Rattle.gui_flex.specs.declared.item.FlexItem.{FlexItem}
use Rattle.gui_flex.specs.Items.{item_of, spot_of}
use Rattle.gui_boxes.specs.declared.position.Position.{Position}
use Rattle.gui_boxes.specs.declared.inside.Inside.{Inside}

abbrev pub slot_of : Position → Slot
slot_of p = record { x = p.x; y = p.y; height = p.height }

abbrev pub room_in : Inside → Room
room_in inside = record { x = inside.x; y = inside.y; width = inside.width; height = inside.height }

-- what the tables say of the size of a handle
abbrev pub tall_at : (ℕ → Box) → List ℕ → List ℕ → ℕ → Tall
tall_at box widths naturals h = record {
  box = record (box h) { handle = h };
  width = slice_index widths h;
  natural_height = slice_index naturals h;
}

abbrev pub talls : (ℕ → Box) → List ℕ → List ℕ → Forest ℕ → Forest Tall
talls box widths naturals f = map_forest (tall_at box widths naturals) f

-- something so wide and so high as an item of a flow
abbrev pub item_in : Course → ℕ → ℕ → ℕ → TrackItem
item_in Free width height grow = record { main = width; cross = height; grow = grow }
item_in Across width height grow = record { main = width; cross = height; grow = grow }
item_in Down width height grow = record { main = height; cross = width; grow = grow }

-- a child as an item of its parent's flow
abbrev pub flow_item : Course → ℕ → Tall → TrackItem
flow_item course room kid = item_in course kid.width (height_in room kid) kid.box.grow

-- the slot of an item that is placed
abbrev pub item_slot : Course → Room → FlexItem → Slot
item_slot Free room item = row_slot room (item_of item) (spot_of item)
item_slot Across room item = row_slot room (item_of item) (spot_of item)
item_slot Down room item = column_slot room (item_of item) (spot_of item)

-- the slots of items that are in the order of their flow, each with its size in a content area
abbrev pub arranged : Course → Box → Room → List TrackItem → List Slot
arranged Free box room items = []
arranged Across box room items =
    let at = spots box.places (wraps box.flow) room.width room.height box.across.gap box.down.gap items in
    paired (row_slot room) items at
arranged Down box room items =
    let all = shared (wraps box.flow) room.height box.down.gap items in
    let at = spots box.places (wraps box.flow) room.height room.width box.down.gap box.across.gap all in
    paired (column_slot room) all at

-- a slot is no further from a content area's corner than a child may stand
pub record IsClose (x y : ℤ) (slot : Slot) : Type 0 where
  pub left : (x -ℤ pos 50000000) ≤ℤ slot.x
  pub right : slot.x ≤ℤ (x +ℤ pos 50000000)
  pub top : (y -ℤ pos 50000000) ≤ℤ slot.y
  pub bottom : slot.y ≤ℤ (y +ℤ pos 50000000)

-- trees so high have places below an object in this slot
pub record HasRoom (slot : Slot) (levels : ℕ) : Type 0 where
  pub left : pos (55000000 * levels) ≤ℤ (slot.x +ℤ pos 940000000)
  pub right : (slot.x +ℤ pos (55000000 * levels)) ≤ℤ pos 940000000
  pub top : pos (55000000 * levels) ≤ℤ (slot.y +ℤ pos 940000000)
  pub bottom : (slot.y +ℤ pos (55000000 * levels)) ≤ℤ pos 940000000

-- the entries at the roots
abbrev pub at_roots : List Slot → Forest ℕ → List Slot
at_roots table f = map (λ h. slice_index_or table h nowhere) (roots f)

abbrev pub slot_at : List Slot → ℕ → Slot
slot_at table h = slice_index_or table h nowhere

-- a content area's corner lies in its object, near the object's own
pub record IsAtCorner (slot : Slot) (room : Room) : Type 0 where
  pub left : slot.x ≤ℤ room.x
  pub right : room.x ≤ℤ (slot.x +ℤ pos 1100)
  pub top : slot.y ≤ℤ room.y
  pub bottom : room.y ≤ℤ (slot.y +ℤ pos 1100)

-- a child is no further from its parent than this
pub record IsBelow (parent child : Slot) : Type 0 where
  pub left : (parent.x -ℤ pos 51000000) ≤ℤ child.x
  pub right : child.x ≤ℤ (parent.x +ℤ pos 51000000)
  pub top : (parent.y -ℤ pos 51000000) ≤ℤ child.y
  pub bottom : child.y ≤ℤ (parent.y +ℤ pos 51000000)

-- the tables have the width and the slot of each object of a forest that is solved
abbrev pub HoldsPlaced : List ℕ → List Slot → Forest Placed → Type 0
HoldsPlaced widths slots f =
    Holds (λ (p : Placed). p.tall.box.handle) (λ (p : Placed). p.tall.width) 0 widths f
    × Holds (λ (p : Placed). p.tall.box.handle) (λ (p : Placed). p.slot) nowhere slots f
