-- No object stands far from the panel's corner.
use Rattle.std.proofs.Common.{◌≡◌, ◌∙◌, refl, sym, ap, ℕ, ◌+◌, ◌-◌, ◌*◌, ◌<◌, ◌≤◌, max, Bool, true, false, List, [], ◌∷◌, length, map, fold, ℤ, pos, negsuc, ◌≤ℤ◌, ◌+ℤ◌, ◌-ℤ◌, inl, inr, arith}
use Rattle.std.specs.Prelude.{◌==◌}
use Rattle.std.specs.List.{All, flat_map}
use Rattle.std.proofs.lemmas.Bool.{cases_Bool}
use Rattle.std.proofs.lemmas.Int.{ints}
use Rattle.std.proofs.lemmas.List.{length-map, length-append, length-reverse}
use Rattle.std.proofs.lemmas.List.Elements.{All-nil, All-cons, All-head, All-tail}
use Rattle.std.proofs.lemmas.List.Sums.{sum_by-le, sum_by-take-le}
use Rattle.std.proofs.Math.Nat.{mul-le-mul_right, div-le_self}
use Rattle.gui_base.specs.Forest.{Forest, Empty, Tree, preorder, roots, size, height}
use Rattle.gui_base.specs.declared.words.Placing.{Placing}
use Rattle.layout_defs.specs.declared.Course.{Course}
use Rattle.layout_defs.specs.declared.Course.TheVariants.{Free, Across, Down}
use Rattle.layout_defs.specs.declared.Side.{Side}
use Rattle.layout_defs.specs.declared.Side.TheVariants.{Near as NearSide, Middle, Far}
use Rattle.layout_defs.specs.Flex.{TrackItem, Spot, Placings, main_of, cross_of, numbered, tracks, free_of, weight_of, shared_item, shared_track, shared, stand, spanned, left_over, thickness, across, item_spot, track_spots, track_at, spots}
use Rattle.layout_defs.specs.Boxes.{course_of, wraps, is_reversed}
use Rattle.layout_defs.specs.Solving.{Tall, tall_box, Slot, Placed, Room, taking_part, in_order, half, side_at, room_of, height_in, own_slot, row_item, column_item, row_slot, column_slot, ordered_slots, flow_slots, flat_slots, kid_slots, Span, kid_reach, offset_of, moved, nowhere, no_span, with_slots, place_of, solved}
use Rattle.layout_defs.specs.Reach.{HasSizes, IsBox, IsNear, PlacesAreNear}
use Rattle.gui_base.proofs.Forests.{map-size, map-height}
use Rattle.layout_defs.proofs.Boxes.{talls, boxes_of_talls}
use Rattle.layout_defs.proofs.Everywhere.{all_tree, all_top, all_below, all_beside, all_roots, all_seen, All-in_order, All-taking_part, All-each, All-flat_map, All-numbered, All-dealt, All-paired}
use Rattle.layout_defs.proofs.Shares.{IsItem, All-tracks, All-shared, length-numbered}
use Rattle.layout_defs.proofs.Small.{HasHeight, IsSmall, IsTall, Any, all_any, size_in_small, row_items, column_items, kid_slots_small, talls_small, solved_small}
use Rattle.layout_defs.proofs.Stands.{spread_within, across_within}
use Rattle.layout_defs.proofs.Tracks.{items_keep_order, tracks_hold_items}

-- Lines of at most 4,000 things.
stand_small : (placing : Placing) (free gap : ℕ) (sizes : List ℕ) (i : ℕ) → free ≤ 8191 → gap ≤ 1000 → length sizes ≤ 4000 → All IsSmall sizes → i < length sizes →
    stand placing free gap sizes i ≤ 40000000
stand_small placing free gap sizes i some small few all h =
    let far = spread_within placing free i (length sizes) h in
    let upto = sum_by-take-le (λ (n : ℕ). n) sizes i in
    let sum_small = sum_by-le (λ (n : ℕ). n) 8191 sizes all in
    let gaps : gap * i ≤ 1000 * i = mul-le-mul_right i small in
    omega (arith, far, upto, sum_small, gaps, some)

fold_max_small : (a : ℕ) (xs : List ℕ) → a ≤ 8191 → All IsSmall xs → fold max a xs ≤ 8191
fold_max_small a [] h all = h
fold_max_small a (x ∷ xs) h all = let first = All-head IsSmall x xs all in fold_max_small (max a x) xs (omega arith) (All-tail IsSmall x xs all)

thickness_small : (track : List TrackItem) → All IsItem track → thickness track ≤ 8191
thickness_small track all = fold_max_small 0 (map cross_of track) (omega arith) (All-each IsItem IsSmall cross_of (λ item is. is.cross) track all)

left_over_small : (extent gap : ℕ) (track : List TrackItem) → left_over extent gap track ≤ extent
left_over_small extent gap track = elim (cases_Bool (weight_of track == 0)) [
  | inl none ↦ rw none (omega arith)
  | inr grows ↦ rw grows (omega arith)
]

-- Spots of items.
record IsSpot (s : Spot) : Type 0 where
  main_least : pos 0 ≤ℤ s.main_at
  main_most : s.main_at ≤ℤ pos 45000000
  cross_least : pos 0 ≤ℤ s.cross_at
  cross_most : s.cross_at ≤ℤ pos 45000000

record IsTrack (track : List TrackItem) : Type 0 where
  items : All IsItem track
  few : length track ≤ 4000

spot_near : (main at room : ℕ) → main ≤ 40000000 → at ≤ 40000000 → room ≤ 8191 → IsSpot (record { main_at = pos main; cross_at = pos (at + room) })
spot_near main at room m a r = record { main_least = omega (arith, ints); main_most = omega (arith, ints); cross_least = omega (arith, ints); cross_most = omega (arith, ints) }

module _ (placings : Placings) (extent gap : ℕ) (small : extent ≤ 8191) (narrow : gap ≤ 1000) where
  track_spots_near : (at : ℕ) (track : List TrackItem) → at ≤ 40000000 → IsTrack track → All IsSpot (track_spots placings extent gap at track)
  track_spots_near at track near is =
      All-numbered IsItem IsSpot (item_spot placings extent gap at track) (length track)
      (λ i item h _.
      let sizes = map main_of track in
      let long : length sizes ≡ length track = length-map track main_of in
      let few = is.few in
      let over = left_over_small extent gap track in
      let main = stand_small placings.main (left_over extent gap track) gap sizes i (omega arith) narrow (omega arith) (All-each IsItem IsSmall main_of (λ it its. its.main) track is.items) (omega arith) in
      let room = across_within placings.cross (thickness track - item.cross) in
      let thick = thickness_small track is.items in
      spot_near (stand placings.main (left_over extent gap track) gap sizes i) at (across placings.cross (thickness track - item.cross)) main near (omega arith))
      0 track (omega arith) is.items

-- How many there are.
parts_few : {A : Type 0} (n : ℕ) (ts : List (List A)) → length (flat_map (λ t. t) ts) ≤ n → All (λ t. length t ≤ n) ts
parts_few n [] h = All-nil (λ t. length t ≤ n)
parts_few n (t ∷ ts) h =
    let long = length-append t (flat_map (λ u. u) ts) in
    All-cons (λ u. length u ≤ n) t ts (omega (arith, long, h)) (parts_few n ts (omega (arith, long, h)))

parts_count : {A : Type 0} (ts : List (List A)) → All (λ t. 0 < length t) ts → length ts ≤ length (flat_map (λ t. t) ts)
parts_count [] all = omega arith
parts_count (t ∷ ts) all =
    let long = length-append t (flat_map (λ u. u) ts) in
    let some = All-head (λ u. 0 < length u) t ts all in
    let rest = parts_count ts (All-tail (λ u. 0 < length u) t ts all) in
    omega (arith, long, some, rest)

shared_parts : (extent gap : ℕ) (ts : List (List TrackItem)) → length (flat_map (shared_track extent gap) ts) ≡ length (flat_map (λ t. t) ts)
shared_parts extent gap [] = refl
shared_parts extent gap (t ∷ ts) =
    let here = length-numbered (shared_item (free_of extent gap t) t) 0 t in
    omega (arith, length-append (shared_track extent gap t) (flat_map (shared_track extent gap) ts), length-append t (flat_map (λ u. u) ts), here, shared_parts extent gap ts)

length-shared : (wrap : Bool) (extent gap : ℕ) (items : List TrackItem) → length (shared wrap extent gap items) ≡ length items
length-shared wrap extent gap items = shared_parts extent gap (tracks wrap extent gap items) ∙ ap length (items_keep_order wrap extent gap items)

length-in_order : {A : Type 0} (back : Bool) (xs : List A) → length (in_order back xs) ≡ length xs
length-in_order true xs = length-reverse xs
length-in_order false xs = refl

taking_part_few : (kids : List Tall) → length (taking_part tall_box kids) ≤ length kids
taking_part_few [] = omega arith
taking_part_few (kid ∷ kids) =
    let rest = taking_part_few kids in
    elim (cases_Bool kid.box.hidden) [ inl is ↦ rw is (omega arith) | inr isnt ↦ rw isnt (omega arith) ]

roots_few : {A : Type 0} (f : Forest A) → length (roots f) ≤ size f
roots_few Empty = omega arith
roots_few (Tree row cs rest) = let l = roots_few rest in omega arith

spots_near : (placings : Placings) (wrap : Bool) (extent cross_extent gap track_gap : ℕ) (items : List TrackItem) → extent ≤ 8191 → cross_extent ≤ 8191 → gap ≤ 1000 → track_gap ≤ 1000 → length items ≤ 4000 → All IsItem items →
    All IsSpot (spots placings wrap extent cross_extent gap track_gap items)
spots_near placings wrap extent cross_extent gap track_gap items small cross_small narrow track_narrow few all =
    let ts = tracks wrap extent gap items in
    let whole = items_keep_order wrap extent gap items in
    let upto : length (flat_map (λ t. t) ts) ≤ 4000 = omega (arith, ap length whole) in
    let each = All-tracks wrap extent gap items all in
    let each_few = parts_few 4000 ts upto in
    let are : All IsTrack ts = λ k d h. record { items = each k d h; few = each_few k d h } in
    let count = parts_count ts (tracks_hold_items wrap extent gap items) in
    let thick : All IsSmall (map thickness ts) = All-each IsTrack IsSmall thickness (λ track is. thickness_small track is.items) ts are in
    let long : length (map thickness ts) ≡ length ts = length-map ts thickness in
    let at = track_at placings.track cross_extent track_gap ts in
    let free = cross_extent - spanned track_gap (map thickness ts) in
    All-flat_map (All IsSpot) IsSpot (λ s. s) (λ s in_s. in_s) (numbered (λ t track. track_spots placings extent gap (at t) track) 0 ts)
    (All-numbered IsTrack (All IsSpot) (λ t track. track_spots placings extent gap (at t) track) (length ts)
    (λ t track h is. track_spots_near placings extent gap small narrow (at t) track (stand_small placings.track free track_gap (map thickness ts) t (omega arith) track_narrow (omega arith) thick (omega arith)) is)
    0 ts (omega arith) are)

-- Slots so far from the panel's corner at most, in x and in y.
pub record IsWithin (n : ℕ) (s : Slot) : Type 0 where
  left : pos 0 ≤ℤ (s.x +ℤ pos n)
  right : s.x ≤ℤ pos n
  top : pos 0 ≤ℤ (s.y +ℤ pos n)
  bottom : s.y ≤ℤ pos n

pub further : (m n : ℕ) (s : Slot) → m ≤ n → IsWithin m s → IsWithin n s
further m n s h is =
    let l = is.left in let r = is.right in let t = is.top in let b = is.bottom in
    record { left = omega (arith, ints); right = omega (arith, ints); top = omega (arith, ints); bottom = omega (arith, ints) }

-- Slots of children.
record IsKid (t : Tall) : Type 0 where
  tall : IsTall t
  box : IsBox t.box

-- a number that is as far as a child's own side and its wanted place
half_near : (z : ℤ) → negsuc 8190 ≤ℤ z → z ≤ℤ pos 8191 → (negsuc 8190 ≤ℤ half z) × (half z ≤ℤ pos 8191)
half_near (pos n) l h = let d = div-le_self n 2 in (omega (arith, ints), omega (arith, ints, d, h))
half_near (negsuc n) l h = let d = div-le_self n 2 in (omega (arith, ints, d, l), omega (arith, ints))

side_near : (side : Side) (room size : ℕ) → room ≤ 8191 → size ≤ 8191 → (negsuc 8190 ≤ℤ side_at side room size) × (side_at side room size ≤ℤ pos 8191)
side_near NearSide room size r s = (omega (arith, ints), omega (arith, ints))
side_near Middle room size r s = half_near (pos room -ℤ pos size) (omega (arith, ints)) (omega (arith, ints))
side_near Far room size r s = (omega (arith, ints), omega (arith, ints))

module _ (n : ℕ) (tall : Tall) (slot : Slot) (near : IsWithin n slot) (is : IsKid tall) (high : slot.height ≤ 8191) where
  abbrev room : Room
  room = room_of tall slot

  own_near : (kid : Tall) → IsKid kid → IsWithin (n + 49000000) (own_slot room kid)
  own_near kid kid_is =
      let h = height_in room.height kid in
      let tall_h = size_in_small kid.box.down.size room.height kid.natural_height in
      let x = side_near kid.box.across.side room.width kid.width (let w = is.tall.width in omega arith) kid_is.tall.width in
      let y = side_near kid.box.down.side room.height h (omega arith) tall_h in
      let across_is = kid_is.box.across in
      let down_is = kid_is.box.down in
      let before = is.box.across.before in
      let above = is.box.down.before in
      record { left = omega (arith, ints); right = omega (arith, ints); top = omega (arith, ints); bottom = omega (arith, ints) }

  spot_within : (item : TrackItem) (spot : Spot) → IsSpot spot → IsWithin (n + 49000000) (row_slot room item spot) × IsWithin (n + 49000000) (column_slot room item spot)
  spot_within item spot at =
      let before = is.box.across.before in
      let above = is.box.down.before in (
        record { left = omega (arith, ints); right = omega (arith, ints); top = omega (arith, ints); bottom = omega (arith, ints) },
        record { left = omega (arith, ints); right = omega (arith, ints); top = omega (arith, ints); bottom = omega (arith, ints) },
      )

  ordered_near : (course : Course) (kids : List Tall) → All IsTall kids → length kids ≤ 4000 → All (IsWithin (n + 49000000)) (ordered_slots course tall.box room kids)
  ordered_near Free kids all few = All-nil (IsWithin (n + 49000000))
  ordered_near Across kids all few =
      let items = map (row_item room.height) kids in
      let long : length items ≡ length kids = length-map kids (row_item room.height) in
      let at = spots_near tall.box.places (wraps tall.box.flow) room.width room.height tall.box.across.gap tall.box.down.gap items (let w = is.tall.width in omega arith) (omega arith) is.box.across.gap is.box.down.gap (omega arith) (row_items room.height kids all) in
      All-paired Any IsSpot (IsWithin (n + 49000000)) (row_slot room) (λ item spot _ s. (spot_within item spot s).0) items (spots tall.box.places (wraps tall.box.flow) room.width room.height tall.box.across.gap tall.box.down.gap items) (all_any items) at
  ordered_near Down kids all few =
      let own = map (column_item room.height) kids in
      let items = shared (wraps tall.box.flow) room.height tall.box.down.gap own in
      let long : length items ≡ length kids = length-shared (wraps tall.box.flow) room.height tall.box.down.gap own ∙ length-map kids (column_item room.height) in
      let fit = All-shared (wraps tall.box.flow) room.height tall.box.down.gap own (column_items room.height kids all) (omega arith) in
      let at = spots_near tall.box.places (wraps tall.box.flow) room.height room.width tall.box.down.gap tall.box.across.gap items (omega arith) (let w = is.tall.width in omega arith) is.box.down.gap is.box.across.gap (omega arith) fit in
      All-paired Any IsSpot (IsWithin (n + 49000000)) (column_slot room) (λ item spot _ s. (spot_within item spot s).1) items (spots tall.box.places (wraps tall.box.flow) room.height room.width tall.box.down.gap tall.box.across.gap items) (all_any items) at

  flat_slots_near : (kids : List Tall) → All IsKid kids → length kids ≤ 4000 → All (IsWithin (n + 49000000)) (flat_slots tall slot kids)
  flat_slots_near kids all few =
      let back = is_reversed tall.box.flow in
      let part = taking_part tall_box kids in
      let part_few = taking_part_few kids in
      let long : length (in_order back part) ≡ length part = length-in_order back part in
      let talls_in : All IsTall kids = λ k d h. (all k d h).tall in
      let ordered = ordered_near (course_of tall.box.flow) (in_order back part) (All-in_order IsTall back part (All-taking_part IsTall tall_box kids talls_in)) (omega arith) in
      All-dealt IsKid (IsWithin (n + 49000000)) tall_box (own_slot room) own_near kids (flow_slots tall.box room part) all
      (All-in_order (IsWithin (n + 49000000)) back (ordered_slots (course_of tall.box.flow) tall.box room (in_order back part)) ordered)

  offset_small : (reach : Span) → ((offset_of tall.box reach).across ≤ 8191) × ((offset_of tall.box reach).down ≤ 8191)
  offset_small reach =
      let across = is.box.across.scroll in
      let down = is.box.down.scroll in
      elim (cases_Bool tall.box.scrollable) [
        | inl can ↦ rw can (omega arith, omega arith)
        | inr cannot ↦ rw cannot (omega arith, omega arith)
      ]

  moved_near : (offset : Span) → offset.across ≤ 8191 → offset.down ≤ 8191 → (s : Slot) → IsWithin (n + 49000000) s → IsWithin (n + 50000000) (moved offset s)
  moved_near offset x y s near_s =
      let l = near_s.left in let r = near_s.right in let t = near_s.top in let b = near_s.bottom in
      record { left = omega (arith, ints); right = omega (arith, ints); top = omega (arith, ints); bottom = omega (arith, ints) }

  kid_slots_near : (kids : List Tall) → All IsKid kids → length kids ≤ 4000 → All (IsWithin (n + 50000000)) (kid_slots tall slot kids)
  kid_slots_near kids all few =
      let offset = offset_of tall.box (kid_reach tall slot kids) in
      let small = offset_small (kid_reach tall slot kids) in
      All-each (IsWithin (n + 49000000)) (IsWithin (n + 50000000)) (moved offset) (moved_near offset small.0 small.1) (flat_slots tall slot kids) (flat_slots_near kids all few)

-- Trees.
abbrev PlacedWithin : ℕ → Placed → Type 0
PlacedWithin n p = IsWithin n p.slot

all_further : (m n : ℕ) (f : Forest Placed) → m ≤ n → All (PlacedWithin m) (preorder f) → All (PlacedWithin n) (preorder f)
all_further m n f h all k d here = further m n _ h (all k d here)

nowhere_within : (n : ℕ) → IsWithin n nowhere
nowhere_within n = record { left = omega (arith, ints); right = omega (arith, ints); top = omega (arith, ints); bottom = omega (arith, ints) }

slots_near : (n : ℕ) (slots : List Slot) (f : Forest Tall) → All (IsWithin n) slots → All HasHeight slots → All IsKid (preorder f) → size f ≤ 4000 →
    All (PlacedWithin (n + 50000000 * height f)) (preorder (with_slots slots f))
slots_near n slots Empty near high all few = All-nil (PlacedWithin (n + 50000000 * height {A = Tall} Empty))
slots_near n [] (Tree tall cs rest) near high all few =
    let m = n + 50000000 * height (Tree tall cs rest) in
    let below = slots_near n [] cs near high (all_below IsKid tall cs rest all) (omega arith) in
    let beside = slots_near n [] rest near high (all_beside IsKid tall cs rest all) (omega arith) in
    all_tree (PlacedWithin m) (record { tall = tall; slot = nowhere; reach = no_span }) (with_slots [] cs) (with_slots [] rest) (nowhere_within m)
    (all_further (n + 50000000 * height cs) m (with_slots [] cs) (omega arith) below)
    (all_further (n + 50000000 * height rest) m (with_slots [] rest) (omega arith) beside)
slots_near n (slot ∷ slots) (Tree tall cs rest) near high all few =
    let m = n + 50000000 * height (Tree tall cs rest) in
    let is = all_top IsKid tall cs rest all in
    let in_cs = all_below IsKid tall cs rest all in
    let here = All-head (IsWithin n) slot slots near in
    let here_high = All-head HasHeight slot slots high in
    let kids = kid_slots tall slot (roots cs) in
    let kids_all = all_roots IsKid cs in_cs in
    let roots_in = roots_few cs in
    let kids_near = kid_slots_near n tall slot here is here_high (roots cs) kids_all (omega arith) in
    let kids_high = kid_slots_small tall slot (roots cs) here_high (λ k d h. (kids_all k d h).tall) in
    let below = slots_near (n + 50000000) kids cs kids_near kids_high in_cs (omega arith) in
    let beside = slots_near n slots rest (All-tail (IsWithin n) slot slots near) (All-tail HasHeight slot slots high) (all_beside IsKid tall cs rest all) (omega arith) in
    all_tree (PlacedWithin m) (record { tall = tall; slot = slot; reach = kid_reach tall slot (roots cs) }) (with_slots kids cs) (with_slots slots rest) (further n m slot (omega arith) here)
    (all_further (n + 50000000 + 50000000 * height cs) m (with_slots kids cs) (omega arith) below)
    (all_further (n + 50000000 * height rest) m (with_slots slots rest) (omega arith) beside)

place_near : (p : Placed) → IsWithin 800000000 p.slot → HasSizes p → IsNear (place_of p)
place_near p near sizes =
    let w = sizes.width in
    let h = sizes.height in
    let l = near.left in let r = near.right in let t = near.top in let b = near.bottom in
    record {
      x1 = (omega (arith, ints), omega (arith, ints));
      y1 = (omega (arith, ints), omega (arith, ints));
      x2 = (omega (arith, ints), omega (arith, ints));
      y2 = (omega (arith, ints), omega (arith, ints));
    }

pub places_near : PlacesAreNear
places_near across down f small short boxes few low =
    let tall = talls across down f in
    let corner : Slot = record { x = pos 0; y = pos 0; height = down } in
    let slots = map (λ (t : Tall). corner) (roots tall) in
    let is_tall = talls_small across down f small in
    let is_box = all_seen IsBox tall_box tall f (boxes_of_talls across down f) boxes in
    let kids : All IsKid (preorder tall) = λ k d h. record { tall = is_tall k d h; box = is_box k d h } in
    let at : IsWithin 0 corner = record { left = omega (arith, ints); right = omega (arith, ints); top = omega (arith, ints); bottom = omega (arith, ints) } in
    let size_is : size tall ≡ size f = sym (map-size tall_box tall) ∙ ap size (boxes_of_talls across down f) in
    let height_is : height tall ≡ height f = sym (map-height tall_box tall) ∙ ap height (boxes_of_talls across down f) in
    let near = slots_near 0 slots tall (All-each Any (IsWithin 0) (λ (t : Tall). corner) (λ _ _. at) (roots tall) (all_any (roots tall))) (All-each Any HasHeight (λ (t : Tall). corner) (λ _ _. short) (roots tall) (all_any (roots tall))) kids (omega arith) in
    let all = all_further (0 + 50000000 * height tall) 800000000 (solved across down f) (omega arith) near in
    let sizes = solved_small across down f small short in
    λ k d h. place_near _ (all k d h) (sizes k d h)
