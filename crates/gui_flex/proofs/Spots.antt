-- Items that get their places.
use Rattle.std.proofs.Common.{◌≡◌, ◌∙◌, refl, ap, ℤ, pos, ℕ, ◌+◌, ◌*◌, ◌-◌, ◌<◌, ◌≤◌, List, length, get_or, take, map, sum, arith}
use Rattle.std.proofs.lemmas.List.{get_or-map, length-map}
use Rattle.std.proofs.lemmas.List.Sums.{sum_by_more}
use Rattle.layout_defs.specs.Flex.{TrackItem, Spot, Placings, main_of, cross_of, thickness, left_over, spread, across, item_spot, track_spots, track_at}
use Rattle.layout_defs.proofs.Stands.{cross_within as track_holds}
use Rattle.gui_flex.specs.declared.item.FlexItem.{FlexItem}
use Rattle.gui_flex.specs.Items.{item_of, items_of}

-- no item reaches further across than its track
pub cross_within : (xs : List FlexItem) (i : ℕ) (d : FlexItem) → i < length xs → (item_of (get_or xs i d)).cross ≤ thickness (items_of xs)
cross_within xs i d h =
    let short : i < length (items_of xs) = omega (arith, length-map xs item_of) in
    let there = ap cross_of (get_or-map item_of xs i d (item_of d) h) in
    omega (arith, there, track_holds (items_of xs) i (item_of d) short)

-- the sizes of one item more
pub sum_next : (xs : List FlexItem) (items : List TrackItem) (i : ℕ) (d : FlexItem) → items_of xs ≡ items → i < length xs →
    sum (take (i + 1) (map main_of items)) ≡ sum (take i (map main_of items)) + (item_of (get_or xs i d)).main
sum_next xs items i d same h =
    let short : i < length (items_of xs) = omega (arith, length-map xs item_of) in
    let shorter : i < length (map main_of (items_of xs)) = omega (arith, length-map xs item_of, length-map (items_of xs) main_of) in
    let there : get_or (map main_of (items_of xs)) i 0 ≡ (item_of (get_or xs i d)).main = get_or-map main_of (items_of xs) i (item_of d) 0 short ∙ ap main_of (get_or-map item_of xs i d (item_of d) h) in
    rw (← same) (sum_by_more (λ (n : ℕ). n) (map main_of (items_of xs)) i 0 shorter ∙ ap (λ n. sum (take i (map main_of (items_of xs))) + n) there)

-- what is written is the item's place
pub spot_written : (places : Placings) (extent gap at : ℕ) (track : List TrackItem) (i before free n far thick room : ℕ) (x : TrackItem) (p q : ℤ) →
    before ≡ sum (take i (map main_of track)) → free ≡ left_over extent gap track → n ≡ length track → far ≡ spread places.main free i n →
    thick ≡ thickness track → room ≡ across places.cross (thick - x.cross) → p ≡ pos (before + gap * i + far) → q ≡ pos (at + room) →
    record { main_at = p; cross_at = q } ≡ item_spot places extent gap at track i x
spot_written places extent gap at track i before free n far thick room x p q is_before is_free is_n is_far is_thick is_room is_p is_q =
    let long = length-map track main_of in
    rw (is_p, is_q, is_far, is_room, is_before, is_free, is_n, is_thick, long) refl

-- where the items of a track stand, by its number
abbrev pub spots_in : Placings → ℕ → ℕ → ℕ → ℕ → List (List TrackItem) → ℕ → List TrackItem → List Spot
spots_in placings extent cross_extent gap track_gap all t track = track_spots placings extent gap (track_at placings.track cross_extent track_gap all t) track
