-- Where the boxes of a forest stand: natural widths upward, widths downward, natural heights upward, heights,
-- flat places, offsets and places downward.
use Rattle.std.specs.Prelude.{ℕ, ◌+◌, ◌-◌, ◌/◌, max, min, Bool, ◌==◌, if◌then◌else◌, List, [], ◌∷◌, map, reverse}
use Rattle.std.specs.Prelude.{ℤ, pos, negsuc, ◌+ℤ◌, ◌-ℤ◌}
use Rattle.gui_base.specs.Area.{Rect, area_at, nat_of}
use Rattle.gui_base.specs.Forest.{Forest, Empty, Tree, roots}
use Rattle.gui_base.specs.declared.words.Length.{Length}
use Rattle.gui_base.specs.declared.words.Length.TheVariants.{Pixels, Percent, Content}
use Rattle.layout_defs.specs.Flex.{TrackItem, Spot, greatest, spanned, tracks, thickness, shared, spots}
use Rattle.layout_defs.specs.declared.Course.{Course}
use Rattle.layout_defs.specs.declared.Course.TheVariants.{Free, Across, Down}
use Rattle.layout_defs.specs.declared.Side.{Side}
use Rattle.layout_defs.specs.declared.Side.TheVariants.{Near, Middle, Far}
use Rattle.layout_defs.specs.Boxes.{Axis, Box, course_of, wraps, is_reversed, inset, inner, brought, size_in}

-- Children that take part in their parent's sizes and in its flex.
abbrev pub taking_part : {A : Type 0} → (A → Box) → List A → List A
taking_part box [] = []
taking_part box (kid ∷ kids) = if (box kid).hidden then taking_part box kids else kid ∷ taking_part box kids

-- in the order of the flow
abbrev pub in_order : {A : Type 0} → Bool → List A → List A
in_order reversed xs = if reversed then reverse xs else xs

-- the first to the first child that takes part, and so on; a hidden child has its own
abbrev pub dealt : {A B : Type 0} → (A → Box) → (A → B) → List A → List B → List B
dealt box own [] ys = []
dealt box own (kid ∷ kids) [] = own kid ∷ dealt box own kids []
dealt box own (kid ∷ kids) (y ∷ ys) =
    if (box kid).hidden then own kid ∷ dealt box own kids (y ∷ ys) else y ∷ dealt box own kids ys

-- a child's natural size in a sum along the flow
abbrev pub flowing : Box → ℕ → ℕ
flowing box natural = if box.grow == 0 then natural else 0

-- how far a child reaches from its parent's near side, without flex
abbrev pub reach : Side → ℤ → ℕ → ℕ
reach Near wanted natural = nat_of (pos natural +ℤ wanted)
reach Middle wanted natural = natural
reach Far wanted natural = natural

-- the natural size of an object that wants this size, with so much in border and pads and so much inside
abbrev pub natural_size : Length → ℕ → ℕ → ℕ
natural_size (Pixels n) inset inside = brought n
natural_size (Percent n) inset inside = 0
natural_size Content inset inside = brought (inset + inside)

-- 1. Natural widths upward.
pub record Wide : Type 0 where
  pub box : Box
  pub natural : ℕ

-- the box of an object with its natural width
abbrev pub wide_box : Wide → Box
wide_box wide = wide.box

-- how wide the children are that take part
abbrev pub kids_width : Course → Box → List Wide → ℕ
kids_width Free box kids =
    greatest (map (λ (k : Wide). reach k.box.across.side k.box.across.wanted k.natural) kids)
kids_width Across box kids = spanned box.across.gap (map (λ (k : Wide). flowing k.box k.natural) kids)
kids_width Down box kids = greatest (map (λ (k : Wide). k.natural) kids)

-- the width that an object has by its own wish, what it shows and its children; 0 for a percentage
abbrev pub natural_width : Box → List Wide → ℕ
natural_width box kids =
    let inside = kids_width (course_of box.flow) box (taking_part wide_box kids) in
    natural_size box.across.size (inset box.across) (max box.own_width inside)

-- the trees with natural widths, those of children before their parent's
abbrev pub with_natural_widths : Forest Box → Forest Wide
with_natural_widths Empty = Empty
with_natural_widths (Tree box cs rest) =
    let kids = with_natural_widths cs in
    Tree (record { box = box; natural = natural_width box (roots kids) }) kids (with_natural_widths rest)

-- 2. Widths downward.
pub record Widened : Type 0 where
  pub box : Box
  pub width : ℕ

abbrev pub widened_box : Widened → Box
widened_box w = w.box

-- the width of a child in a content area so wide, without flex
abbrev pub width_in : ℕ → Wide → ℕ
width_in room kid = size_in kid.box.across.size room kid.natural

-- a child as an item of a row, with only its width
abbrev pub width_item : ℕ → Wide → TrackItem
width_item room kid = record { main = width_in room kid; cross = 0; grow = kid.box.grow }

-- the sizes of items along the flow, each brought into the interval of sizes
abbrev pub main_sizes : List TrackItem → List ℕ
main_sizes items = map (λ (item : TrackItem). brought item.main) items

-- the widths of the children of a row that take part, with its shares
abbrev pub row_widths : Box → ℕ → List Wide → List ℕ
row_widths box room kids =
    let back = is_reversed box.flow in
    let items = in_order back (map (width_item room) (taking_part wide_box kids)) in
    in_order back (main_sizes (shared (wraps box.flow) room box.across.gap items))

-- the widths of children in a content area so wide: only the flow across shares out what is free
abbrev pub kid_widths_by : Course → Box → ℕ → List Wide → List ℕ
kid_widths_by Free box room kids = map (width_in room) kids
kid_widths_by Across box room kids = dealt wide_box (width_in room) kids (row_widths box room kids)
kid_widths_by Down box room kids = map (width_in room) kids

-- the widths of the children of an object that is so wide
abbrev pub kid_widths : Box → ℕ → List Wide → List ℕ
kid_widths box width kids = kid_widths_by (course_of box.flow) box (inner box.across width) kids

-- the trees, whose roots get these widths
abbrev pub with_widths : List ℕ → Forest Wide → Forest Widened
with_widths ws Empty = Empty
with_widths [] (Tree wide cs rest) =
    Tree (record { box = wide.box; width = 0 }) (with_widths [] cs) (with_widths [] rest)
with_widths (w ∷ ws) (Tree wide cs rest) =
    Tree (record { box = wide.box; width = w }) (with_widths (kid_widths wide.box w (roots cs)) cs)
    (with_widths ws rest)

-- 3. Natural heights upward.
pub record Tall : Type 0 where
  pub box : Box
  pub width : ℕ
  pub natural_height : ℕ

-- the box of an object with its natural height
abbrev pub tall_box : Tall → Box
tall_box tall = tall.box

-- a child as an item of a row, as high as it is by nature
abbrev pub height_item : Tall → TrackItem
height_item kid = record { main = kid.width; cross = kid.natural_height; grow = kid.box.grow }

-- how high the children are that take part, in a content area so wide; a row is as high as its tracks
abbrev pub kids_height : Course → Box → ℕ → List Tall → ℕ
kids_height Free box room kids =
    greatest (map (λ (k : Tall). reach k.box.down.side k.box.down.wanted k.natural_height) kids)
kids_height Across box room kids =
    let items = in_order (is_reversed box.flow) (map height_item kids) in
    spanned box.down.gap (map thickness (tracks (wraps box.flow) room box.across.gap items))
kids_height Down box room kids =
    spanned box.down.gap (map (λ (k : Tall). flowing k.box k.natural_height) kids)

-- the height that an object so wide has by its own wish, what it shows and its children; 0 for a percentage
abbrev pub natural_height : Box → ℕ → List Tall → ℕ
natural_height box width kids =
    let room = inner box.across width in
    let inside = kids_height (course_of box.flow) box room (taking_part tall_box kids) in
    natural_size box.down.size (inset box.down) (max (box.own_height room) inside)

-- the trees with natural heights, those of children before their parent's
abbrev pub with_natural_heights : Forest Widened → Forest Tall
with_natural_heights Empty = Empty
with_natural_heights (Tree w cs rest) =
    let kids = with_natural_heights cs in
    let natural = natural_height w.box w.width (roots kids) in
    Tree (record { box = w.box; width = w.width; natural_height = natural }) kids (with_natural_heights rest)

-- 4. Heights and places downward.
-- an object's top left corner and its height
pub record Slot : Type 0 where
  pub x : ℤ
  pub y : ℤ
  pub height : ℕ

-- half of a number, rounded down
abbrev pub half : ℤ → ℤ
half (pos n) = pos (n / 2)
half (negsuc n) = negsuc (n / 2)

-- where its side puts an object that is so large in a content area
abbrev pub side_at : Side → ℕ → ℕ → ℤ
side_at Near room size = pos 0
side_at Middle room size = half (pos room -ℤ pos size)
side_at Far room size = pos room -ℤ pos size

-- where an object stands in a content area, without flex
abbrev pub aligned_at : Axis → ℕ → ℕ → ℤ
aligned_at axis room size = side_at axis.side room size +ℤ axis.wanted

-- a content area: its corner and its sizes
pub record Room : Type 0 where
  pub x : ℤ
  pub y : ℤ
  pub width : ℕ
  pub height : ℕ

-- the content area of an object in its slot
abbrev pub room_of : Tall → Slot → Room
room_of tall slot = record {
  x = slot.x +ℤ pos tall.box.across.before;
  y = slot.y +ℤ pos tall.box.down.before;
  width = inner tall.box.across tall.width;
  height = inner tall.box.down slot.height;
}

-- the height of a child in a content area so high, without flex
abbrev pub height_in : ℕ → Tall → ℕ
height_in room kid = size_in kid.box.down.size room kid.natural_height

-- a child's slot without flex
abbrev pub own_slot : Room → Tall → Slot
own_slot room kid =
    let height = height_in room.height kid in
    record {
      x = room.x +ℤ aligned_at kid.box.across room.width kid.width;
      y = room.y +ℤ aligned_at kid.box.down room.height height;
      height = height;
    }

-- the slot of an item of a row, at its spot
abbrev pub row_slot : Room → TrackItem → Spot → Slot
row_slot room item spot =
    record { x = room.x +ℤ spot.main_at; y = room.y +ℤ spot.cross_at; height = item.cross }

-- the slot of an item of a column, at its spot
abbrev pub column_slot : Room → TrackItem → Spot → Slot
column_slot room item spot =
    record { x = room.x +ℤ spot.cross_at; y = room.y +ℤ spot.main_at; height = item.main }

-- f of each two that stand at the same number
abbrev pub paired : {A B C : Type 0} → (A → B → C) → List A → List B → List C
paired f [] ys = []
paired f (x ∷ xs) [] = []
paired f (x ∷ xs) (y ∷ ys) = f x y ∷ paired f xs ys

-- a child as an item of a row, in a content area so high
abbrev pub row_item : ℕ → Tall → TrackItem
row_item room kid = record { main = kid.width; cross = height_in room kid; grow = kid.box.grow }

-- a child as an item of a column, in a content area so high
abbrev pub column_item : ℕ → Tall → TrackItem
column_item room kid = record { main = height_in room kid; cross = kid.width; grow = kid.box.grow }

-- the slots of the children that take part in a flow, in its order
abbrev pub ordered_slots : Course → Box → Room → List Tall → List Slot
ordered_slots Free box room kids = []
ordered_slots Across box room kids =
    let items = map (row_item room.height) kids in
    let at = spots box.places (wraps box.flow) room.width room.height box.across.gap box.down.gap items in
    paired (row_slot room) items at
ordered_slots Down box room kids =
    let items = shared (wraps box.flow) room.height box.down.gap (map (column_item room.height) kids) in
    let at = spots box.places (wraps box.flow) room.height room.width box.down.gap box.across.gap items in
    paired (column_slot room) items at

-- and in the order of the children
abbrev pub flow_slots : Box → Room → List Tall → List Slot
flow_slots box room kids =
    let back = is_reversed box.flow in
    in_order back (ordered_slots (course_of box.flow) box room (in_order back kids))

-- the flat slots of the children of an object in its slot: where they stand while nothing is scrolled
abbrev pub flat_slots : Tall → Slot → List Tall → List Slot
flat_slots tall slot kids =
    let room = room_of tall slot in
    dealt tall_box (own_slot room) kids (flow_slots tall.box room (taking_part tall_box kids))

-- so many pixels across and down
pub record Span : Type 0 where
  pub across : ℕ
  pub down : ℕ

-- no pixels in either direction
abbrev pub no_span : Span
no_span = record { across = 0; down = 0 }

-- the right end of a child in its slot, counted from a content area's left side
abbrev pub end_across : Room → Tall → Slot → ℕ
end_across room kid slot = nat_of ((slot.x +ℤ pos kid.width) -ℤ room.x)

-- the bottom end of a child in its slot, counted from a content area's top
abbrev pub end_down : Room → Tall → Slot → ℕ
end_down room kid slot = nat_of ((slot.y +ℤ pos slot.height) -ℤ room.y)

-- the greatest end of the children that are not hidden
abbrev pub far_end : (Tall → Slot → ℕ) → List Tall → List Slot → ℕ
far_end end [] slots = 0
far_end end (kid ∷ kids) [] = 0
far_end end (kid ∷ kids) (slot ∷ slots) =
    if kid.box.hidden then far_end end kids slots else max (end kid slot) (far_end end kids slots)

-- how far children in flat slots reach out of a content area, to the right and to the bottom
abbrev pub reach_in : Room → List Tall → List Slot → Span
reach_in room kids slots = record {
  across = far_end (end_across room) kids slots - room.width;
  down = far_end (end_down room) kids slots - room.height;
}

-- the reach of an object in its slot
abbrev pub kid_reach : Tall → Slot → List Tall → Span
kid_reach tall slot kids = reach_in (room_of tall slot) kids (flat_slots tall slot kids)

-- how far an object with this reach moves its children, to the left and upward
abbrev pub offset_of : Box → Span → Span
offset_of box reach =
    if box.scrollable then
    record { across = min box.across.scroll reach.across; down = min box.down.scroll reach.down }
    else no_span

-- a slot that an offset moves to the left and upward
abbrev pub moved : Span → Slot → Slot
moved offset slot =
    record slot { x = slot.x -ℤ pos offset.across; y = slot.y -ℤ pos offset.down }

-- the slots of the children of an object in its slot
abbrev pub kid_slots : Tall → Slot → List Tall → List Slot
kid_slots tall slot kids =
    map (moved (offset_of tall.box (kid_reach tall slot kids))) (flat_slots tall slot kids)

-- an empty slot, for an object that none is given to
abbrev pub nowhere : Slot
nowhere = record { x = pos 0; y = pos 0; height = 0 }

-- an object with its width, its slot, and how far its children reach out of its content area
pub record Placed : Type 0 where
  pub tall : Tall
  pub slot : Slot
  pub reach : Span

-- the trees, whose roots get these slots
abbrev pub with_slots : List Slot → Forest Tall → Forest Placed
with_slots slots Empty = Empty
with_slots [] (Tree tall cs rest) =
    Tree (record { tall = tall; slot = nowhere; reach = no_span }) (with_slots [] cs) (with_slots [] rest)
with_slots (slot ∷ slots) (Tree tall cs rest) =
    Tree (record { tall = tall; slot = slot; reach = kid_reach tall slot (roots cs) })
    (with_slots (kid_slots tall slot (roots cs)) cs) (with_slots slots rest)

-- its offset
abbrev pub offset_at : Placed → Span
offset_at p = offset_of p.tall.box p.reach

-- where an object stands
abbrev pub place_of : Placed → Rect
place_of p = area_at p.slot.x p.slot.y p.tall.width p.slot.height

-- what is found of an object: its place, its reach and its offset
pub record Stand : Type 0 where
  pub place : Rect
  pub reach : Span
  pub offset : Span

abbrev pub stand_of : Placed → Stand
stand_of p = record { place = place_of p; reach = p.reach; offset = offset_at p }

-- All four: the roots fill a panel of these sizes.
abbrev pub solved : ℕ → ℕ → Forest Box → Forest Placed
solved width height trees =
    let wide = with_natural_widths trees in
    let tall = with_natural_heights (with_widths (map (λ _. width) (roots wide)) wide) in
    with_slots (map (λ _. record { x = pos 0; y = pos 0; height = height }) (roots tall)) tall
