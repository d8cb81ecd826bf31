-- Children that are scrolled.
use Rattle.std.proofs.Common.{◌≡◌, ◌∙◌, refl, sym, ap, ℕ, ◌-◌, false, List, [], ◌∷◌, map, ℤ, pos, ◌+ℤ◌, ◌-ℤ◌, inl, inr, arith}
use Rattle.std.proofs.lemmas.Bool.{cases_Bool}
use Rattle.std.proofs.lemmas.Int.{ints}
use Rattle.std.proofs.lemmas.Simd.{map-map as list-map-map}
use Rattle.gui_base.specs.Forest.{Forest, Empty, Tree, roots, map_forest}
use Rattle.layout_defs.specs.declared.Course.{Course}
use Rattle.layout_defs.specs.declared.Course.TheVariants.{Free, Across, Down}
use Rattle.layout_defs.specs.Flex.{TrackItem, Spot, shared, spots}
use Rattle.layout_defs.specs.Boxes.{Box, course_of, is_reversed, wraps, inner}
use Rattle.layout_defs.specs.Solving.{Wide, wide_box, Widened, Tall, tall_box, Slot, Room, Span, room_of, own_slot, dealt, taking_part, in_order, flow_slots, ordered_slots, flat_slots, far_end, end_across, end_down, kid_reach, offset_of, moved, paired, row_slot, column_slot, row_item, column_item}
use Rattle.layout_defs.specs.Solving.{kid_slots, solved, with_slots}
use Rattle.layout_defs.specs.Solving.{natural_width, natural_height, kids_width, kids_height, kid_widths, kid_widths_by, row_widths, width_in, width_item, with_natural_widths, with_widths, with_natural_heights}
use Rattle.layout_defs.specs.Scrolling.{StillStandsFlat, slots_in, moved_room, MovedAsTheirRoom, ReachesAnywhere, but_scroll, but_scroll_wide, but_scroll_widened, but_scroll_tall, slot_height, SizesAskNoScroll}
use Rattle.layout_defs.proofs.OwnHeights.{roots-map, in_order-map, taking_part-map, dealt-map}

abbrev slot_with : ℤ → ℤ → ℕ → Slot
slot_with x y height = record { x = x; y = y; height = height }

-- Nothing to scroll.
less-none : (x : ℤ) → (x -ℤ pos 0) ≡ x
less-none x = omega (arith, ints)

pub still-moves : (box : Box) (reach : Span) (slot : Slot) → box.scrollable ≡ false → moved (offset_of box reach) slot ≡ slot
still-moves box reach slot still =
    rw still (ap (λ x. slot_with x (slot.y -ℤ pos 0) slot.height) (less-none slot.x) ∙ ap (λ y. slot_with slot.x y slot.height) (less-none slot.y))

pub map-none : {A : Type 0} (f : A → A) → ((a : A) → f a ≡ a) → (xs : List A) → map f xs ≡ xs
map-none f same [] = refl
map-none f same (x ∷ xs) = rw (same x, map-none f same xs) refl

pub still_stands_flat : StillStandsFlat
still_stands_flat tall slot kids still =
    map-none (moved (offset_of tall.box (kid_reach tall slot kids))) (λ s. still-moves tall.box (kid_reach tall slot kids) s still) (flat_slots tall slot kids)

-- A room that is moved.
less-more : (x a : ℤ) (n : ℕ) → ((x -ℤ pos n) +ℤ a) ≡ ((x +ℤ a) -ℤ pos n)
less-more x a n = omega (arith, ints)

module _ (offset : Span) (room : Room) where
  abbrev later : Room
  later = moved_room offset room

  pub slot-moved : (a b : ℤ) (height : ℕ) → slot_with (later.x +ℤ a) (later.y +ℤ b) height ≡ moved offset (slot_with (room.x +ℤ a) (room.y +ℤ b) height)
  slot-moved a b height =
      ap (λ x. slot_with x (later.y +ℤ b) height) (less-more room.x a offset.across) ∙ ap (λ y. slot_with ((room.x +ℤ a) -ℤ pos offset.across) y height) (less-more room.y b offset.down)

  pub own-moved : (kid : Tall) → own_slot later kid ≡ moved offset (own_slot room kid)
  own-moved kid = slot-moved _ _ _

  rows-moved : (items : List TrackItem) (at : List Spot) → paired (row_slot later) items at ≡ map (moved offset) (paired (row_slot room) items at)
  rows-moved [] at = refl
  rows-moved (item ∷ items) [] = refl
  rows-moved (item ∷ items) (s ∷ at) = rw (slot-moved s.main_at s.cross_at item.cross, rows-moved items at) refl

  columns-moved : (items : List TrackItem) (at : List Spot) → paired (column_slot later) items at ≡ map (moved offset) (paired (column_slot room) items at)
  columns-moved [] at = refl
  columns-moved (item ∷ items) [] = refl
  columns-moved (item ∷ items) (s ∷ at) = rw (slot-moved s.cross_at s.main_at item.main, columns-moved items at) refl

  ordered-moved : (course : Course) (box : Box) (kids : List Tall) → ordered_slots course box later kids ≡ map (moved offset) (ordered_slots course box room kids)
  ordered-moved Free box kids = refl
  ordered-moved Across box kids =
      let items = map (row_item room.height) kids in
      rows-moved items (spots box.places (wraps box.flow) room.width room.height box.across.gap box.down.gap items)
  ordered-moved Down box kids =
      let items = shared (wraps box.flow) room.height box.down.gap (map (column_item room.height) kids) in
      columns-moved items (spots box.places (wraps box.flow) room.height room.width box.down.gap box.across.gap items)

  flow-moved : (box : Box) (kids : List Tall) → flow_slots box later kids ≡ map (moved offset) (flow_slots box room kids)
  flow-moved box kids =
      let back = is_reversed box.flow in
      let course = course_of box.flow in
      ap (in_order back) (ordered-moved course box (in_order back kids)) ∙ in_order-map (moved offset) back (ordered_slots course box room (in_order back kids))

  pub dealt-moved : (kids : List Tall) (ys : List Slot) → dealt tall_box (own_slot later) kids (map (moved offset) ys) ≡ map (moved offset) (dealt tall_box (own_slot room) kids ys)
  dealt-moved [] ys = refl
  dealt-moved (kid ∷ kids) [] = rw (own-moved kid, dealt-moved kids []) refl
  dealt-moved (kid ∷ kids) (y ∷ ys) = elim (cases_Bool kid.box.hidden) [
    | inl is ↦ rw (is, own-moved kid, dealt-moved kids (y ∷ ys)) refl
    | inr isnt ↦ rw (isnt, dealt-moved kids ys) refl
  ]

  pub slots-moved : (box : Box) (kids : List Tall) → slots_in later box kids ≡ map (moved offset) (slots_in room box kids)
  slots-moved box kids =
      ap (dealt tall_box (own_slot later) kids) (flow-moved box (taking_part tall_box kids)) ∙ dealt-moved kids (flow_slots box room (taking_part tall_box kids))

pub moved_as_their_room : MovedAsTheirRoom
moved_as_their_room tall slot kids = sym (slots-moved (offset_of tall.box (kid_reach tall slot kids)) (room_of tall slot) tall.box kids)

-- Reaches.
same-way : (x a w : ℤ) (n : ℕ) → (((x -ℤ pos n) +ℤ a) -ℤ (w -ℤ pos n)) ≡ ((x +ℤ a) -ℤ w)
same-way x a w n = omega (arith, ints)

module _ (offset : Span) (room : Room) where
  far-across : (kids : List Tall) (slots : List Slot) → far_end (end_across (moved_room offset room)) kids (map (moved offset) slots) ≡ far_end (end_across room) kids slots
  far-across [] slots = refl
  far-across (kid ∷ kids) [] = refl
  far-across (kid ∷ kids) (s ∷ slots) = rw (same-way s.x (pos kid.width) room.x offset.across, far-across kids slots) refl

  far-down : (kids : List Tall) (slots : List Slot) → far_end (end_down (moved_room offset room)) kids (map (moved offset) slots) ≡ far_end (end_down room) kids slots
  far-down [] slots = refl
  far-down (kid ∷ kids) [] = refl
  far-down (kid ∷ kids) (s ∷ slots) = rw (same-way s.y (pos s.height) room.y offset.down, far-down kids slots) refl

abbrev room_with : ℤ → ℤ → ℕ → ℕ → Room
room_with x y width height = record { x = x; y = y; width = width; height = height }

room-moved : (tall : Tall) (slot : Slot) (offset : Span) → room_of tall (moved offset slot) ≡ moved_room offset (room_of tall slot)
room-moved tall slot offset =
    let room = room_of tall slot in
    ap (λ x. room_with x ((slot.y -ℤ pos offset.down) +ℤ pos tall.box.down.before) room.width room.height) (less-more slot.x (pos tall.box.across.before) offset.across)
    ∙ ap (λ y. room_with (room.x -ℤ pos offset.across) y room.width room.height) (less-more slot.y (pos tall.box.down.before) offset.down)

abbrev reach_at : Room → Box → List Tall → Span
reach_at room box kids = record {
  across = far_end (end_across room) kids (slots_in room box kids) - room.width;
  down = far_end (end_down room) kids (slots_in room box kids) - room.height;
}

abbrev span_with : ℕ → ℕ → Span
span_with across down = record { across = across; down = down }

reach-moved : (offset : Span) (room : Room) (box : Box) (kids : List Tall) → reach_at (moved_room offset room) box kids ≡ reach_at room box kids
reach-moved offset room box kids =
    let later = moved_room offset room in
    let slots = slots_in room box kids in
    ap (λ ss. span_with (far_end (end_across later) kids ss - room.width) (far_end (end_down later) kids ss - room.height)) (slots-moved offset room box kids)
    ∙ (ap (λ n. span_with (n - room.width) (far_end (end_down later) kids (map (moved offset) slots) - room.height)) (far-across offset room kids slots)
    ∙ ap (λ n. span_with (far_end (end_across room) kids slots - room.width) (n - room.height)) (far-down offset room kids slots))

pub reaches_anywhere : ReachesAnywhere
reaches_anywhere tall slot kids offset = ap (λ room. reach_at room tall.box kids) (room-moved tall slot offset) ∙ reach-moved offset (room_of tall slot) tall.box kids

-- Sizes.
kids_width-but : (course : Course) (box : Box) (kids : List Wide) → kids_width course (but_scroll box) (map but_scroll_wide kids) ≡ kids_width course box kids
kids_width-but Free box kids = rw list-map-map refl
kids_width-but Across box kids = rw list-map-map refl
kids_width-but Down box kids = rw list-map-map refl

natural_width-but : (box : Box) (kids : List Wide) → natural_width (but_scroll box) (map but_scroll_wide kids) ≡ natural_width box kids
natural_width-but box kids = rw (taking_part-map wide_box but_scroll_wide (λ k. refl) kids, kids_width-but (course_of box.flow) box (taking_part wide_box kids)) refl

natural_widths-but : (f : Forest Box) → with_natural_widths (map_forest but_scroll f) ≡ map_forest but_scroll_wide (with_natural_widths f)
natural_widths-but Empty = refl
natural_widths-but (Tree box cs rest) =
    rw (natural_widths-but cs, natural_widths-but rest, roots-map but_scroll_wide (with_natural_widths cs), natural_width-but box (roots (with_natural_widths cs))) refl

row_widths-but : (box : Box) (room : ℕ) (kids : List Wide) → row_widths (but_scroll box) room (map but_scroll_wide kids) ≡ row_widths box room kids
row_widths-but box room kids =
    rw (taking_part-map wide_box but_scroll_wide (λ k. refl) kids, list-map-map (width_item room) but_scroll_wide (taking_part wide_box kids)) refl

kid_widths_by-but : (course : Course) (box : Box) (room : ℕ) (kids : List Wide) → kid_widths_by course (but_scroll box) room (map but_scroll_wide kids) ≡ kid_widths_by course box room kids
kid_widths_by-but Free box room kids = list-map-map (width_in room) but_scroll_wide kids
kid_widths_by-but Down box room kids = list-map-map (width_in room) but_scroll_wide kids
kid_widths_by-but Across box room kids =
    rw (row_widths-but box room kids) (dealt-map wide_box but_scroll_wide (λ k. refl) (width_in room) (λ k. refl) kids (row_widths box room kids))

kid_widths-but : (box : Box) (width : ℕ) (kids : List Wide) → kid_widths (but_scroll box) width (map but_scroll_wide kids) ≡ kid_widths box width kids
kid_widths-but box width kids = kid_widths_by-but (course_of box.flow) box (inner box.across width) kids

widths-but : (ws : List ℕ) (f : Forest Wide) → with_widths ws (map_forest but_scroll_wide f) ≡ map_forest but_scroll_widened (with_widths ws f)
widths-but ws Empty = refl
widths-but [] (Tree wide cs rest) = rw (widths-but [] cs, widths-but [] rest) refl
widths-but (w ∷ ws) (Tree wide cs rest) =
    rw (roots-map but_scroll_wide cs, kid_widths-but wide.box w (roots cs), widths-but (kid_widths wide.box w (roots cs)) cs, widths-but ws rest) refl

kids_height-but : (course : Course) (box : Box) (room : ℕ) (kids : List Tall) → kids_height course (but_scroll box) room (map but_scroll_tall kids) ≡ kids_height course box room kids
kids_height-but Free box room kids = rw list-map-map refl
kids_height-but Across box room kids = rw list-map-map refl
kids_height-but Down box room kids = rw list-map-map refl

natural_height-but : (box : Box) (width : ℕ) (kids : List Tall) → natural_height (but_scroll box) width (map but_scroll_tall kids) ≡ natural_height box width kids
natural_height-but box width kids =
    rw (taking_part-map tall_box but_scroll_tall (λ k. refl) kids, kids_height-but (course_of box.flow) box (inner box.across width) (taking_part tall_box kids)) refl

natural_heights-but : (f : Forest Widened) → with_natural_heights (map_forest but_scroll_widened f) ≡ map_forest but_scroll_tall (with_natural_heights f)
natural_heights-but Empty = refl
natural_heights-but (Tree w cs rest) =
    rw (natural_heights-but cs, natural_heights-but rest, roots-map but_scroll_tall (with_natural_heights cs), natural_height-but w.box w.width (roots (with_natural_heights cs))) refl

-- Heights.
abbrev heights : List Slot → List ℕ
heights slots = map (λ (s : Slot). s.height) slots

moved-heights : (offset : Span) (slots : List Slot) → heights (map (moved offset) slots) ≡ heights slots
moved-heights offset [] = refl
moved-heights offset (s ∷ slots) = rw (moved-heights offset slots) refl

-- in content areas that are as large as each other, wherever they lie
module _ (x y u v : ℤ) (width height : ℕ) where
  abbrev here : Room
  here = room_with x y width height

  abbrev there : Room
  there = room_with u v width height

  rows-high : (items : List TrackItem) (at : List Spot) → heights (paired (row_slot here) items at) ≡ heights (paired (row_slot there) items at)
  rows-high [] at = refl
  rows-high (item ∷ items) [] = refl
  rows-high (item ∷ items) (s ∷ at) = rw (rows-high items at) refl

  columns-high : (items : List TrackItem) (at : List Spot) → heights (paired (column_slot here) items at) ≡ heights (paired (column_slot there) items at)
  columns-high [] at = refl
  columns-high (item ∷ items) [] = refl
  columns-high (item ∷ items) (s ∷ at) = rw (columns-high items at) refl

  ordered-high : (course : Course) (box : Box) (kids : List Tall) → heights (ordered_slots course box here kids) ≡ heights (ordered_slots course box there kids)
  ordered-high Free box kids = refl
  ordered-high Across box kids =
      let items = map (row_item height) kids in
      rows-high items (spots box.places (wraps box.flow) width height box.across.gap box.down.gap items)
  ordered-high Down box kids =
      let items = shared (wraps box.flow) height box.down.gap (map (column_item height) kids) in
      columns-high items (spots box.places (wraps box.flow) height width box.down.gap box.across.gap items)

  flow-high : (box : Box) (kids : List Tall) → heights (flow_slots box here kids) ≡ heights (flow_slots box there kids)
  flow-high box kids =
      let back = is_reversed box.flow in
      let course = course_of box.flow in
      sym (in_order-map (λ (s : Slot). s.height) back (ordered_slots course box here (in_order back kids)))
      ∙ (ap (in_order back) (ordered-high course box (in_order back kids))
      ∙ in_order-map (λ (s : Slot). s.height) back (ordered_slots course box there (in_order back kids)))

  dealt-high : (kids : List Tall) (ys zs : List Slot) → heights ys ≡ heights zs → heights (dealt tall_box (own_slot here) kids ys) ≡ heights (dealt tall_box (own_slot there) kids zs)
  dealt-high [] ys zs same = refl
  dealt-high (kid ∷ kids) [] [] same = rw (dealt-high kids [] [] refl) refl
  dealt-high (kid ∷ kids) [] (z ∷ zs) same = cc
  dealt-high (kid ∷ kids) (y ∷ ys) [] same = cc
  dealt-high (kid ∷ kids) (y ∷ ys) (z ∷ zs) same = elim (cases_Bool kid.box.hidden) [
    | inl is ↦ rw (is, dealt-high kids (y ∷ ys) (z ∷ zs) same) refl
    | inr isnt ↦
        let first : y.height ≡ z.height = cc in
        let later : heights ys ≡ heights zs = cc in
        rw (isnt, first, dealt-high kids ys zs later) refl
  ]

  slots-high : (box : Box) (kids : List Tall) → heights (slots_in here box kids) ≡ heights (slots_in there box kids)
  slots-high box kids = dealt-high kids (flow_slots box here (taking_part tall_box kids)) (flow_slots box there (taking_part tall_box kids)) (flow-high box (taking_part tall_box kids))

-- and so it is with children that are not scrolled
module _ (room : Room) where
  ordered-but : (course : Course) (box : Box) (kids : List Tall) → ordered_slots course (but_scroll box) room (map but_scroll_tall kids) ≡ ordered_slots course box room kids
  ordered-but Free box kids = refl
  ordered-but Across box kids = rw (list-map-map (row_item room.height) but_scroll_tall kids) refl
  ordered-but Down box kids = rw (list-map-map (column_item room.height) but_scroll_tall kids) refl

  flow-but : (box : Box) (kids : List Tall) → flow_slots (but_scroll box) room (map but_scroll_tall kids) ≡ flow_slots box room kids
  flow-but box kids =
      let back = is_reversed box.flow in
      ap (λ (ks : List Tall). in_order back (ordered_slots (course_of box.flow) (but_scroll box) room ks)) (in_order-map but_scroll_tall back kids)
      ∙ ap (in_order back) (ordered-but (course_of box.flow) box (in_order back kids))

  slots-but : (box : Box) (kids : List Tall) → slots_in room (but_scroll box) (map but_scroll_tall kids) ≡ slots_in room box kids
  slots-but box kids =
      rw (taking_part-map tall_box but_scroll_tall (λ k. refl) kids, flow-but box (taking_part tall_box kids))
      (dealt-map tall_box but_scroll_tall (λ k. refl) (own_slot room) (λ k. refl) kids (flow_slots box room (taking_part tall_box kids)))

-- of the children of an object in a slot that is as high
kids-high : (tall : Tall) (s t : Slot) (kids : List Tall) → s.height ≡ t.height →
    heights (kid_slots (but_scroll_tall tall) s (map but_scroll_tall kids)) ≡ heights (kid_slots tall t kids)
kids-high tall s t kids same =
    let box = tall.box in
    let less = but_scroll_tall tall in
    let none = map but_scroll_tall kids in
    let room = room_of tall s in
    let other = room_of tall t in
    moved-heights (offset_of less.box (kid_reach less s none)) (flat_slots less s none)
    ∙ (ap heights (slots-but room box kids)
    ∙ (slots-high room.x room.y other.x other.y room.width room.height box kids
    ∙ (ap (λ n. heights (slots_in (room_with other.x other.y room.width (inner box.down n)) box kids)) same
    ∙ sym (moved-heights (offset_of box (kid_reach tall t kids)) (flat_slots tall t kids)))))

heights-but : (ss ts : List Slot) (f : Forest Tall) → heights ss ≡ heights ts →
    map_forest slot_height (with_slots ss (map_forest but_scroll_tall f)) ≡ map_forest slot_height (with_slots ts f)
heights-but ss ts Empty same = refl
heights-but [] [] (Tree tall cs rest) same = rw (heights-but [] [] cs refl, heights-but [] [] rest refl) refl
heights-but [] (t ∷ ts) (Tree tall cs rest) same = cc
heights-but (s ∷ ss) [] (Tree tall cs rest) same = cc
heights-but (s ∷ ss) (t ∷ ts) (Tree tall cs rest) same =
    let first : s.height ≡ t.height = cc in
    let later : heights ss ≡ heights ts = cc in
    let kids : heights (kid_slots (but_scroll_tall tall) s (roots (map_forest but_scroll_tall cs))) ≡ heights (kid_slots tall t (roots cs)) =
    ap (λ (ks : List Tall). heights (kid_slots (but_scroll_tall tall) s ks)) (roots-map but_scroll_tall cs) ∙ kids-high tall s t (roots cs) first in
    let below = heights-but (kid_slots (but_scroll_tall tall) s (roots (map_forest but_scroll_tall cs))) (kid_slots tall t (roots cs)) cs kids in
    let beside = heights-but ss ts rest later in
    λ i. Tree (first i) (below i) (beside i)

-- as many slots of one height
evenly : {A B : Type 0} (g : A → B) (slot : Slot) (xs : List A) → map (λ _. slot) (map g xs) ≡ map (λ _. slot) xs
evenly g slot [] = refl
evenly g slot (x ∷ xs) = rw (evenly g slot xs) refl

even : {A B : Type 0} (g : A → B) (n : ℕ) (xs : List A) → map (λ _. n) (map g xs) ≡ map (λ _. n) xs
even g n [] = refl
even g n (x ∷ xs) = rw (even g n xs) refl

solved_heights-but : (width height : ℕ) (f : Forest Box) → map_forest slot_height (solved width height (map_forest but_scroll f)) ≡ map_forest slot_height (solved width height f)
solved_heights-but width height f =
    let top = slot_with (pos 0) (pos 0) height in
    let wide = with_natural_widths f in
    let ws = map (λ _. width) (roots wide) in
    let tall = with_natural_heights (with_widths ws wide) in
    let widths : map (λ _. width) (roots (map_forest but_scroll_wide wide)) ≡ ws = ap (map (λ _. width)) (roots-map but_scroll_wide wide) ∙ even but_scroll_wide width (roots wide) in
    let slots : map (λ _. top) (roots (map_forest but_scroll_tall tall)) ≡ map (λ _. top) (roots tall) = ap (map (λ _. top)) (roots-map but_scroll_tall tall) ∙ evenly but_scroll_tall top (roots tall) in
    rw (natural_widths-but f, widths, widths-but ws wide, natural_heights-but (with_widths ws wide), slots)
    (heights-but (map (λ _. top) (roots tall)) (map (λ _. top) (roots tall)) tall refl)

pub sizes_ask_no_scroll : SizesAskNoScroll
sizes_ask_no_scroll = record { natural_widths = natural_widths-but; widths = widths-but; natural_heights = natural_heights-but; heights = solved_heights-but }
