-- Sizes that are solved lie between 0 and 8191.
use Rattle.std.proofs.Common.{ℕ, ◌≤◌, max, min, List, [], ◌∷◌, map, pos, arith}
use Rattle.std.specs.List.{All}
use Rattle.std.proofs.lemmas.List.Elements.{All-nil, All-head, All-tail}
use Rattle.gui_base.specs.Forest.{Forest, Empty, Tree, preorder, roots}
use Rattle.gui_base.specs.declared.words.Length.{Length}
use Rattle.gui_base.specs.declared.words.Length.TheVariants.{Pixels, Percent, Content}
use Rattle.layout_defs.specs.declared.Course.{Course}
use Rattle.layout_defs.specs.declared.Course.TheVariants.{Free, Across, Down}
use Rattle.layout_defs.specs.Flex.{TrackItem, shared, spots}
use Rattle.layout_defs.specs.Boxes.{Box, course_of, wraps, is_reversed, inset, inner, size_in}
use Rattle.layout_defs.specs.Solving.{Wide, wide_box, Widened, Tall, tall_box, Slot, Room, with_natural_widths, with_widths, with_natural_heights, with_slots, natural_size, natural_width, natural_height, kids_width, kids_height, taking_part, in_order, width_in, width_item, main_sizes, row_widths, kid_widths, kid_widths_by, own_slot, row_item, column_item, row_slot, column_slot, ordered_slots, flow_slots, flat_slots, room_of, kid_slots, kid_reach, offset_of, moved, nowhere, no_span}
use Rattle.layout_defs.specs.Reach.{NaturalWidthsAreSizes, HasSizes, SolvedAreSizes}
use Rattle.layout_defs.proofs.Everywhere.{all_tree, all_top, all_below, all_beside, all_roots, All-in_order, All-taking_part, All-each, All-dealt, All-paired}
use Rattle.layout_defs.proofs.Boxes.{talls}
use Rattle.layout_defs.proofs.Shares.{IsItem, All-shared}

abbrev pub IsSmall : ℕ → Type 0
IsSmall n = n ≤ 8191

pub size_in_small : (size : Length) (room natural : ℕ) → size_in size room natural ≤ 8191
size_in_small (Pixels n) room natural = omega arith
size_in_small (Percent n) room natural = omega arith
size_in_small Content room natural = omega arith

natural_small : (size : Length) (inset inside : ℕ) → natural_size size inset inside ≤ 8191
natural_small (Pixels n) inset inside = omega arith
natural_small (Percent n) inset inside = omega arith
natural_small Content inset inside = omega arith

-- natural widths
natural_width_small : (box : Box) (kids : List Wide) → natural_width box kids ≤ 8191
natural_width_small box kids = natural_small box.across.size (inset box.across) (max box.own_width (kids_width (course_of box.flow) box (taking_part wide_box kids)))

pub naturals_small : NaturalWidthsAreSizes
naturals_small Empty = All-nil (λ (w : Wide). w.natural ≤ 8191)
naturals_small (Tree box cs rest) =
    all_tree (λ (w : Wide). w.natural ≤ 8191) (record { box = box; natural = natural_width box (roots (with_natural_widths cs)) }) (with_natural_widths cs) (with_natural_widths rest)
    (natural_width_small box (roots (with_natural_widths cs))) (naturals_small cs) (naturals_small rest)

-- widths
abbrev pub Any : {A : Type 0} → A → Type 0
Any x = Unit {0}

pub all_any : {A : Type 0} (xs : List A) → All Any xs
all_any xs k d h = tt

width_small : (room : ℕ) (kid : Wide) → Any kid → width_in room kid ≤ 8191
width_small room kid _ = size_in_small kid.box.across.size room kid.natural

main_sizes_small : (items : List TrackItem) → All IsSmall (main_sizes items)
main_sizes_small items = All-each Any IsSmall (λ (item : TrackItem). min item.main 8191) (λ item _. omega arith) items (all_any items)

kid_widths_by_small : (course : Course) (box : Box) (room : ℕ) (kids : List Wide) → All IsSmall (kid_widths_by course box room kids)
kid_widths_by_small Free box room kids = All-each Any IsSmall (width_in room) (width_small room) kids (all_any kids)
kid_widths_by_small Down box room kids = All-each Any IsSmall (width_in room) (width_small room) kids (all_any kids)
kid_widths_by_small Across box room kids =
    let items = in_order (is_reversed box.flow) (map (width_item room) (taking_part wide_box kids)) in
    let sizes = main_sizes (shared (wraps box.flow) room box.across.gap items) in
    All-dealt Any IsSmall wide_box (width_in room) (width_small room) kids (row_widths box room kids) (all_any kids)
    (All-in_order IsSmall (is_reversed box.flow) sizes (main_sizes_small (shared (wraps box.flow) room box.across.gap items)))

abbrev HasWidth : Widened → Type 0
HasWidth w = w.width ≤ 8191

pub widths_small : (ws : List ℕ) (f : Forest Wide) → All IsSmall ws → All HasWidth (preorder (with_widths ws f))
widths_small ws Empty all = All-nil HasWidth
widths_small [] (Tree wide cs rest) all =
    all_tree HasWidth (record { box = wide.box; width = 0 }) (with_widths [] cs) (with_widths [] rest) (omega arith) (widths_small [] cs all) (widths_small [] rest all)
widths_small (w ∷ ws) (Tree wide cs rest) all =
    let kids = kid_widths wide.box w (roots cs) in
    all_tree HasWidth (record { box = wide.box; width = w }) (with_widths kids cs) (with_widths ws rest) (All-head IsSmall w ws all)
    (widths_small kids cs (kid_widths_by_small (course_of wide.box.flow) wide.box (inner wide.box.across w) (roots cs)))
    (widths_small ws rest (All-tail IsSmall w ws all))

-- natural heights
pub record IsTall (t : Tall) : Type 0 where
  pub width : t.width ≤ 8191
  pub natural : t.natural_height ≤ 8191

natural_height_small : (box : Box) (width : ℕ) (kids : List Tall) → natural_height box width kids ≤ 8191
natural_height_small box width kids =
    let room = inner box.across width in
    natural_small box.down.size (inset box.down) (max (box.own_height room) (kids_height (course_of box.flow) box room (taking_part tall_box kids)))

pub heights_small : (f : Forest Widened) → All HasWidth (preorder f) → All IsTall (preorder (with_natural_heights f))
heights_small Empty all = All-nil IsTall
heights_small (Tree w cs rest) all =
    let kids = with_natural_heights cs in
    all_tree IsTall (record { box = w.box; width = w.width; natural_height = natural_height w.box w.width (roots kids) }) kids (with_natural_heights rest)
    (record { width = all_top HasWidth w cs rest all; natural = natural_height_small w.box w.width (roots kids) })
    (heights_small cs (all_below HasWidth w cs rest all)) (heights_small rest (all_beside HasWidth w cs rest all))

-- heights
abbrev pub HasHeight : Slot → Type 0
HasHeight slot = slot.height ≤ 8191

pub row_items : (room : ℕ) (kids : List Tall) → All IsTall kids → All IsItem (map (row_item room) kids)
row_items room kids all = All-each IsTall IsItem (row_item room) (λ kid is. record { main = is.width; cross = size_in_small kid.box.down.size room kid.natural_height }) kids all

pub column_items : (room : ℕ) (kids : List Tall) → All IsTall kids → All IsItem (map (column_item room) kids)
column_items room kids all = All-each IsTall IsItem (column_item room) (λ kid is. record { main = size_in_small kid.box.down.size room kid.natural_height; cross = is.width }) kids all

ordered_small : (course : Course) (box : Box) (room : Room) (kids : List Tall) → room.height ≤ 8191 → All IsTall kids → All HasHeight (ordered_slots course box room kids)
ordered_small Free box room kids small all = All-nil HasHeight
ordered_small Across box room kids small all =
    let items = map (row_item room.height) kids in
    let at = spots box.places (wraps box.flow) room.width room.height box.across.gap box.down.gap items in
    All-paired IsItem Any HasHeight (row_slot room) (λ item spot is _. is.cross) items at (row_items room.height kids all) (all_any at)
ordered_small Down box room kids small all =
    let items = shared (wraps box.flow) room.height box.down.gap (map (column_item room.height) kids) in
    let at = spots box.places (wraps box.flow) room.height room.width box.down.gap box.across.gap items in
    All-paired IsItem Any HasHeight (column_slot room) (λ item spot is _. is.main) items at
    (All-shared (wraps box.flow) room.height box.down.gap (map (column_item room.height) kids) (column_items room.height kids all) small) (all_any at)

flat_slots_small : (tall : Tall) (slot : Slot) (kids : List Tall) → slot.height ≤ 8191 → All IsTall kids → All HasHeight (flat_slots tall slot kids)
flat_slots_small tall slot kids small all =
    let room = room_of tall slot in
    let back = is_reversed tall.box.flow in
    let part = taking_part tall_box kids in
    let taking = All-taking_part IsTall tall_box kids all in
    All-dealt IsTall HasHeight tall_box (own_slot room) (λ kid _. size_in_small kid.box.down.size room.height kid.natural_height) kids (flow_slots tall.box room part) all
    (All-in_order HasHeight back (ordered_slots (course_of tall.box.flow) tall.box room (in_order back part))
    (ordered_small (course_of tall.box.flow) tall.box room (in_order back part) (omega arith) (All-in_order IsTall back part taking)))

pub kid_slots_small : (tall : Tall) (slot : Slot) (kids : List Tall) → slot.height ≤ 8191 → All IsTall kids → All HasHeight (kid_slots tall slot kids)
kid_slots_small tall slot kids small all =
    All-each HasHeight HasHeight (moved (offset_of tall.box (kid_reach tall slot kids))) (λ s is. is) (flat_slots tall slot kids) (flat_slots_small tall slot kids small all)

slots_small : (slots : List Slot) (f : Forest Tall) → All HasHeight slots → All IsTall (preorder f) → All HasSizes (preorder (with_slots slots f))
slots_small slots Empty small all = All-nil HasSizes
slots_small [] (Tree tall cs rest) small all =
    let is = all_top IsTall tall cs rest all in
    all_tree HasSizes (record { tall = tall; slot = nowhere; reach = no_span }) (with_slots [] cs) (with_slots [] rest)
    (record { width = is.width; natural_height = is.natural; height = omega arith })
    (slots_small [] cs small (all_below IsTall tall cs rest all)) (slots_small [] rest small (all_beside IsTall tall cs rest all))
slots_small (slot ∷ slots) (Tree tall cs rest) small all =
    let is = all_top IsTall tall cs rest all in
    let below = all_below IsTall tall cs rest all in
    let kids = kid_slots tall slot (roots cs) in
    let here = All-head HasHeight slot slots small in
    all_tree HasSizes (record { tall = tall; slot = slot; reach = kid_reach tall slot (roots cs) }) (with_slots kids cs) (with_slots slots rest)
    (record { width = is.width; natural_height = is.natural; height = here })
    (slots_small kids cs (kid_slots_small tall slot (roots cs) here (all_roots IsTall cs below)) below)
    (slots_small slots rest (All-tail HasHeight slot slots small) (all_beside IsTall tall cs rest all))

pub talls_small : (width height : ℕ) (f : Forest Box) → width ≤ 8191 → All IsTall (preorder (talls width height f))
talls_small width height f small =
    let wide = with_natural_widths f in
    let ws = map (λ _. width) (roots wide) in
    heights_small (with_widths ws wide) (widths_small ws wide (All-each Any IsSmall (λ (w : Wide). width) (λ _ _. small) (roots wide) (all_any (roots wide))))

pub solved_small : SolvedAreSizes
solved_small width height f across down =
    let tall = talls width height f in
    slots_small (map (λ _. record { x = pos 0; y = pos 0; height = height }) (roots tall)) tall
    (All-each Any HasHeight (λ (t : Tall). record { x = pos 0; y = pos 0; height = height }) (λ _ _. down) (roots tall) (all_any (roots tall)))
    (talls_small width height f across)
