-- Solving asks for own heights at solved widths.
use Rattle.std.proofs.Common.{◌≡◌, ◌∙◌, refl, sym, ap, ℕ, Bool, true, false, List, [], ◌∷◌, ◌++◌, map, reverse, inl, inr, pos}
use Rattle.std.proofs.lemmas.Bool.{cases_Bool}
use Rattle.std.proofs.lemmas.List.{map-append}
use Rattle.std.proofs.lemmas.Simd.{map-map as list-map-map}
use Rattle.std.proofs.lemmas.Grind.{reverse_onto}
use Rattle.gui_base.specs.Forest.{Forest, Empty, Tree, roots, map_forest}
use Rattle.layout_defs.specs.declared.Course.{Course}
use Rattle.layout_defs.specs.declared.Course.TheVariants.{Free, Across, Down}
use Rattle.layout_defs.specs.Boxes.{Box, course_of, is_reversed, inner}
use Rattle.layout_defs.specs.Solving.{Wide, wide_box, Widened, Tall, tall_box, Slot, Placed, with_natural_widths, with_widths, with_natural_heights, with_slots, natural_width, natural_height, kids_width, kids_height, taking_part, in_order, dealt, width_in, width_item, row_widths, kid_widths, kid_widths_by, own_slot, ordered_slots, flow_slots, flat_slots, far_end, end_across, end_down, kid_reach, offset_of, moved, room_of, Room, kid_slots, row_item, column_item, stand_of, widened_box}
use Rattle.layout_defs.proofs.Boxes.{map-map, boxes_wide, boxes_widened}
use Rattle.layout_defs.specs.OwnHeights.{but_height, but_height_wide, but_height_widened, but_height_tall, but_height_placed, fixed_at, fixed_widened, fixed_tall, NaturalWidthsAskNone, WidthsAskNone, SlotsAskNone, NaturalHeightsAskAtWidths, fixed_in, PlacesAskAtWidths}

pub roots-map : {A B : Type 0} (g : A → B) (f : Forest A) → roots (map_forest g f) ≡ map g (roots f)
roots-map g Empty = refl
roots-map g (Tree row cs rest) = rw (roots-map g rest) refl

map-reverse : {A B : Type 0} (g : A → B) (xs : List A) → map g (reverse xs) ≡ reverse (map g xs)
map-reverse g [] = refl
map-reverse g (x ∷ xs) =
    ap (map g) (reverse_onto xs x []) ∙ (map-append g (reverse xs) (x ∷ []) ∙ (ap (λ ys. ys ++ g x ∷ []) (map-reverse g xs) ∙ sym (reverse_onto (map g xs) (g x) [])))

pub in_order-map : {A B : Type 0} (g : A → B) (back : Bool) (xs : List A) → in_order back (map g xs) ≡ map g (in_order back xs)
in_order-map g true xs = sym (map-reverse g xs)
in_order-map g false xs = refl

-- rows that are as hidden as before
module _ {A : Type 0} (box : A → Box) (g : A → A) (same : (a : A) → (box (g a)).hidden ≡ (box a).hidden) where
  pub taking_part-map : (kids : List A) → taking_part box (map g kids) ≡ map g (taking_part box kids)
  taking_part-map [] = refl
  taking_part-map (kid ∷ kids) = elim (cases_Bool (box kid).hidden) [
    | inl is ↦ rw (same kid, is) (taking_part-map kids)
    | inr isnt ↦ rw (same kid, isnt, taking_part-map kids) refl
  ]

  pub dealt-map : {B : Type 0} (own : A → B) → ((a : A) → own (g a) ≡ own a) → (kids : List A) (ys : List B) → dealt box own (map g kids) ys ≡ dealt box own kids ys
  dealt-map own alike [] ys = refl
  dealt-map own alike (kid ∷ kids) [] = rw (alike kid, dealt-map own alike kids []) refl
  dealt-map own alike (kid ∷ kids) (y ∷ ys) = elim (cases_Bool (box kid).hidden) [
    | inl is ↦ rw (same kid, is, alike kid, dealt-map own alike kids (y ∷ ys)) refl
    | inr isnt ↦ rw (same kid, isnt, dealt-map own alike kids ys) refl
  ]

-- natural widths
kids_width-but : (course : Course) (box : Box) (kids : List Wide) → kids_width course (but_height box) (map but_height_wide kids) ≡ kids_width course box kids
kids_width-but Free box kids = rw list-map-map refl
kids_width-but Across box kids = rw list-map-map refl
kids_width-but Down box kids = rw list-map-map refl

pub natural_width-but : (box : Box) (kids : List Wide) → natural_width (but_height box) (map but_height_wide kids) ≡ natural_width box kids
natural_width-but box kids = rw (taking_part-map wide_box but_height_wide (λ k. refl) kids, kids_width-but (course_of box.flow) box (taking_part wide_box kids)) refl

pub natural_widths_ask_none : NaturalWidthsAskNone
natural_widths_ask_none Empty = refl
natural_widths_ask_none (Tree box cs rest) =
    rw (natural_widths_ask_none cs, natural_widths_ask_none rest, roots-map but_height_wide (with_natural_widths cs), natural_width-but box (roots (with_natural_widths cs))) refl

-- widths
row_widths-but : (box : Box) (room : ℕ) (kids : List Wide) → row_widths (but_height box) room (map but_height_wide kids) ≡ row_widths box room kids
row_widths-but box room kids =
    rw (taking_part-map wide_box but_height_wide (λ k. refl) kids, list-map-map (width_item room) but_height_wide (taking_part wide_box kids)) refl

kid_widths_by-but : (course : Course) (box : Box) (room : ℕ) (kids : List Wide) → kid_widths_by course (but_height box) room (map but_height_wide kids) ≡ kid_widths_by course box room kids
kid_widths_by-but Free box room kids = list-map-map (width_in room) but_height_wide kids
kid_widths_by-but Down box room kids = list-map-map (width_in room) but_height_wide kids
kid_widths_by-but Across box room kids =
    rw (row_widths-but box room kids) (dealt-map wide_box but_height_wide (λ k. refl) (width_in room) (λ k. refl) kids (row_widths box room kids))

pub kid_widths-but : (box : Box) (width : ℕ) (kids : List Wide) → kid_widths (but_height box) width (map but_height_wide kids) ≡ kid_widths box width kids
kid_widths-but box width kids = kid_widths_by-but (course_of box.flow) box (inner box.across width) kids

pub widths_ask_none : WidthsAskNone
widths_ask_none ws Empty = refl
widths_ask_none [] (Tree wide cs rest) = rw (widths_ask_none [] cs, widths_ask_none [] rest) refl
widths_ask_none (w ∷ ws) (Tree wide cs rest) =
    rw (roots-map but_height_wide cs, kid_widths-but wide.box w (roots cs), widths_ask_none (kid_widths wide.box w (roots cs)) cs, widths_ask_none ws rest) refl

-- natural heights
kids_height-fixed : (course : Course) (box : Box) (width room : ℕ) (kids : List Tall) → kids_height course (fixed_at width box) room (map fixed_tall kids) ≡ kids_height course box room kids
kids_height-fixed Free box width room kids = rw list-map-map refl
kids_height-fixed Across box width room kids = rw list-map-map refl
kids_height-fixed Down box width room kids = rw list-map-map refl

pub natural_height-fixed : (box : Box) (width : ℕ) (kids : List Tall) → natural_height (fixed_at width box) width (map fixed_tall kids) ≡ natural_height box width kids
natural_height-fixed box width kids =
    rw (taking_part-map tall_box fixed_tall (λ k. refl) kids, kids_height-fixed (course_of box.flow) box width (inner box.across width) (taking_part tall_box kids)) refl

pub natural_heights_ask_at_widths : NaturalHeightsAskAtWidths
natural_heights_ask_at_widths Empty = refl
natural_heights_ask_at_widths (Tree w cs rest) =
    rw (natural_heights_ask_at_widths cs, natural_heights_ask_at_widths rest, roots-map fixed_tall (with_natural_heights cs), natural_height-fixed w.box w.width (roots (with_natural_heights cs))) refl

-- slots
ordered_slots-but : (course : Course) (box : Box) (room : Room) (kids : List Tall) → ordered_slots course (but_height box) room (map but_height_tall kids) ≡ ordered_slots course box room kids
ordered_slots-but Free box room kids = refl
ordered_slots-but Across box room kids = rw (list-map-map (row_item room.height) but_height_tall kids) refl
ordered_slots-but Down box room kids = rw (list-map-map (column_item room.height) but_height_tall kids) refl

flow_slots-but : (box : Box) (room : Room) (kids : List Tall) → flow_slots (but_height box) room (map but_height_tall kids) ≡ flow_slots box room kids
flow_slots-but box room kids =
    let back = is_reversed box.flow in
    rw (in_order-map but_height_tall back kids, ordered_slots-but (course_of box.flow) box room (in_order back kids)) refl

flat_slots-but : (tall : Tall) (slot : Slot) (kids : List Tall) → flat_slots (but_height_tall tall) slot (map but_height_tall kids) ≡ flat_slots tall slot kids
flat_slots-but tall slot kids =
    let room = room_of tall slot in
    rw (taking_part-map tall_box but_height_tall (λ k. refl) kids, flow_slots-but tall.box room (taking_part tall_box kids))
    (dealt-map tall_box but_height_tall (λ k. refl) (own_slot room) (λ k. refl) kids (flow_slots tall.box room (taking_part tall_box kids)))

pub far_end-but : (end : Tall → Slot → ℕ) → ((kid : Tall) (slot : Slot) → end (but_height_tall kid) slot ≡ end kid slot) → (kids : List Tall) (slots : List Slot) → far_end end (map but_height_tall kids) slots ≡ far_end end kids slots
far_end-but end alike [] slots = refl
far_end-but end alike (kid ∷ kids) [] = refl
far_end-but end alike (kid ∷ kids) (slot ∷ slots) = rw (far_end-but end alike kids slots, alike kid slot) refl

pub kid_reach-but : (tall : Tall) (slot : Slot) (kids : List Tall) → kid_reach (but_height_tall tall) slot (map but_height_tall kids) ≡ kid_reach tall slot kids
kid_reach-but tall slot kids =
    let room = room_of tall slot in
    let flat = flat_slots tall slot kids in
    rw (flat_slots-but tall slot kids, far_end-but (end_across room) (λ kid s. refl) kids flat, far_end-but (end_down room) (λ kid s. refl) kids flat) refl

pub kid_slots-but : (tall : Tall) (slot : Slot) (kids : List Tall) → kid_slots (but_height_tall tall) slot (map but_height_tall kids) ≡ kid_slots tall slot kids
kid_slots-but tall slot kids =
    ap (λ reach. map (moved (offset_of tall.box reach)) (flat_slots (but_height_tall tall) slot (map but_height_tall kids))) (kid_reach-but tall slot kids)
    ∙ ap (map (moved (offset_of tall.box (kid_reach tall slot kids)))) (flat_slots-but tall slot kids)

pub slots_ask_none : SlotsAskNone
slots_ask_none slots Empty = refl
slots_ask_none [] (Tree tall cs rest) = rw (slots_ask_none [] cs, slots_ask_none [] rest) refl
slots_ask_none (slot ∷ slots) (Tree tall cs rest) =
    rw (roots-map but_height_tall cs, kid_reach-but tall slot (roots cs), kid_slots-but tall slot (roots cs), slots_ask_none (kid_slots tall slot (roots cs)) cs, slots_ask_none slots rest) refl

-- All four.
-- rows with the same boxes that are the same but for their own heights
same_widened : (f g : Forest Widened) → map_forest widened_box f ≡ map_forest widened_box g → map_forest but_height_widened f ≡ map_forest but_height_widened g → f ≡ g
same_widened Empty Empty boxes rows = refl
same_widened Empty (Tree w cs rest) boxes rows = cc
same_widened (Tree w cs rest) Empty boxes rows = cc
same_widened (Tree v ds later) (Tree w cs rest) boxes rows =
    let box : v.box ≡ w.box = cc in
    let row : but_height_widened v ≡ but_height_widened w = cc in
    let width : v.width ≡ w.width = ap (λ (u : Widened). u.width) row in
    let boxes_below : map_forest widened_box ds ≡ map_forest widened_box cs = cc in
    let rows_below : map_forest but_height_widened ds ≡ map_forest but_height_widened cs = cc in
    let boxes_beside : map_forest widened_box later ≡ map_forest widened_box rest = cc in
    let rows_beside : map_forest but_height_widened later ≡ map_forest but_height_widened rest = cc in
    let below = same_widened ds cs boxes_below rows_below in
    let beside = same_widened later rest boxes_beside rows_beside in
    let top : v ≡ w = ap (λ (b : Box). record { box = b; width = v.width }) box ∙ ap (λ n. record { box = w.box; width = n }) width in
    rw (top, below, beside) refl

module _ (width : ℕ) where
  abbrev widened : Forest Wide → Forest Widened
  widened wide = with_widths (map (λ _. width) (roots wide)) wide

  abbrev widened_of : Forest Box → Forest Widened
  widened_of f = widened (with_natural_widths f)

  abbrev so_wide : Wide → ℕ
  so_wide w = width

  widened-but : (wide : Forest Wide) → map_forest but_height_widened (widened wide) ≡ widened (map_forest but_height_wide wide)
  widened-but wide =
      sym (widths_ask_none (map so_wide (roots wide)) wide)
      ∙ ap (λ ws. with_widths ws (map_forest but_height_wide wide)) (sym (ap (map so_wide) (roots-map but_height_wide wide) ∙ list-map-map so_wide but_height_wide (roots wide)))

  -- the widths of boxes that are the same but for their own heights
  same_widths : (f g : Forest Box) → map_forest but_height f ≡ map_forest but_height g → map_forest but_height_widened (widened_of f) ≡ map_forest but_height_widened (widened_of g)
  same_widths f g same =
      widened-but (with_natural_widths f)
      ∙ (ap widened (sym (natural_widths_ask_none f) ∙ (ap with_natural_widths same ∙ natural_widths_ask_none g)) ∙ sym (widened-but (with_natural_widths g)))

  boxes_of : (f : Forest Box) → map_forest widened_box (widened_of f) ≡ f
  boxes_of f = boxes_widened (map so_wide (roots (with_natural_widths f))) (with_natural_widths f) ∙ boxes_wide f

  fixed_but : (f : Forest Box) → map_forest but_height (fixed_in width f) ≡ map_forest but_height f
  fixed_but f =
      sym (map-map but_height (λ (w : Widened). fixed_at w.width w.box) (widened_of f))
      ∙ (map-map but_height widened_box (widened_of f) ∙ ap (map_forest but_height) (boxes_of f))

  fixed_are : (f : Forest Box) → widened_of (fixed_in width f) ≡ map_forest fixed_widened (widened_of f)
  fixed_are f =
      same_widened (widened_of (fixed_in width f)) (map_forest fixed_widened (widened_of f))
      (boxes_of (fixed_in width f) ∙ map-map widened_box fixed_widened (widened_of f))
      (same_widths (fixed_in width f) f (fixed_but f) ∙ map-map but_height_widened fixed_widened (widened_of f))

module _ (height : ℕ) where
  abbrev corner : Tall → Slot
  corner tall = record { x = pos 0; y = pos 0; height = height }

  abbrev placed : Forest Tall → Forest Placed
  placed tall = with_slots (map corner (roots tall)) tall

  placed-but : (tall : Forest Tall) → map_forest stand_of (placed tall) ≡ map_forest stand_of (placed (map_forest but_height_tall tall))
  placed-but tall =
      map-map stand_of but_height_placed (placed tall)
      ∙ ap (map_forest stand_of)
      (sym (slots_ask_none (map corner (roots tall)) tall)
      ∙ ap (λ slots. with_slots slots (map_forest but_height_tall tall)) (sym (ap (map corner) (roots-map but_height_tall tall) ∙ list-map-map corner but_height_tall (roots tall))))

  same_places : (f g : Forest Tall) → map_forest but_height_tall f ≡ map_forest but_height_tall g → map_forest stand_of (placed f) ≡ map_forest stand_of (placed g)
  same_places f g same = placed-but f ∙ (ap (λ tall. map_forest stand_of (placed tall)) same ∙ sym (placed-but g))

pub places_ask_at_widths : PlacesAskAtWidths
places_ask_at_widths width height f =
    let tall = with_natural_heights (widened_of width f) in
    let fixed : with_natural_heights (widened_of width (fixed_in width f)) ≡ map_forest fixed_tall tall = ap with_natural_heights (fixed_are width f) ∙ natural_heights_ask_at_widths (widened_of width f) in
    ap (λ t. map_forest stand_of (placed height t)) fixed ∙ same_places height (map_forest fixed_tall tall) tall (sym (map-map but_height_tall fixed_tall tall))
