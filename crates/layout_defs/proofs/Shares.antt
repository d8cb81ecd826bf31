-- Shares of a track.
use Rattle.std.proofs.Common.{Bool, suc, ◌≡◌, ◌∙◌, refl, sym, ap, ℕ, ◌+◌, ◌-◌, ◌*◌, ◌/◌, ◌<◌, ◌≤◌, List, [], ◌∷◌, ◌++◌, length, map, inl, inr, arith, append_assoc}
use Rattle.std.specs.Prelude.{◌==◌}
use Rattle.std.specs.List.{All, flat_map, sum_by}
use Rattle.std.proofs.lemmas.List.Elements.{All-nil, All-cons, All-same}
use Rattle.std.proofs.lemmas.Bool.{cases_Bool}
use Rattle.std.proofs.lemmas.Bool.Decides.{nat_tests}
use Rattle.std.proofs.lemmas.List.{length-map, length-append, append-nil}
use Rattle.std.proofs.lemmas.List.Sums.{sum_by-cons, sum_by-append, sum_by-take-le, sum-map}
use Rattle.std.proofs.lemmas.Nat.{le-div}
use Rattle.std.proofs.Math.Nat.{div-le_self, div-le_of_le-mul, mul-div_cancel, div-mul-le_self, mul-le-mul_left}
use Rattle.std.proofs.Math.Seq.{take-append_seam}
use Rattle.layout_defs.specs.Flex.{TrackItem, main_of, grow_of, counted, numbered, free_of, weight_to, weight_of, shared_item, shared_track, shared, tracks}
use Rattle.layout_defs.proofs.Everywhere.{All-front, All-back, All-flat_map, All-numbered}
use Rattle.layout_defs.proofs.Tracks.{items_keep_order}
use Rattle.layout_defs.specs.FlexLaws.{SharesFillTracks, NothingShared}

pub div_mono : (m n k : ℕ) → 0 < k → m ≤ n → m / k ≤ n / k
div_mono m n k some h = le-div (m / k) n k some (omega (arith, div-mul-le_self m k))

-- so much of the free space is for weights up to the second, beyond those up to the first
pub part_mono : (free a b weight : ℕ) → 0 < weight → a ≤ b → free * a / weight ≤ free * b / weight
part_mono free a b weight some h = div_mono (free * a) (free * b) weight some (mul-le-mul_left free h)

pub part_within : (free a weight : ℕ) → a ≤ weight → free * a / weight ≤ free
part_within free a weight h = div-le_of_le-mul weight (omega (arith, mul-le-mul_left free h))

weight-push : (pre : List TrackItem) (item : TrackItem) → weight_of (pre ++ item ∷ []) ≡ weight_of pre + item.grow
weight-push pre item = sum_by-append grow_of pre (item ∷ []) ∙ ap (λ n. weight_of pre + n) (omega (arith, sum_by-cons grow_of item []))

-- an item takes what comes between the parts of the items before it and with it
item_fills : (free : ℕ) (track : List TrackItem) (item : TrackItem) (n a b : ℕ) → 0 < weight_of track → b ≡ a + item.grow → weight_to track n ≡ a → weight_to track (n + 1) ≡ b →
    main_of (shared_item free track n item) + free * a / weight_of track ≡ counted item + free * b / weight_of track
item_fills free track item n a b some is before with = elim (cases_Bool (item.grow == 0)) [
  | inl none ↦
      let same : b ≡ a = grind (arith, nat_tests, none, is) in
      rw (none, same) refl
  | inr grows ↦
      let more = part_mono free a b (weight_of track) some (omega arith) in
      rw (grows, before, with) (omega (arith, more))
]

module _ (free : ℕ) (track : List TrackItem) (some : 0 < weight_of track) where
  -- the weight of the items before one of the track, and with it
  weight_before : (pre xs : List TrackItem) → track ≡ pre ++ xs → weight_to track (length pre) ≡ weight_of pre
  weight_before pre xs is = ap (λ ys. weight_to ys (length pre)) is ∙ ap weight_of (take-append_seam pre xs)

  fills : (pre xs : List TrackItem) → track ≡ pre ++ xs →
      sum_by main_of (numbered (shared_item free track) (length pre) xs) + free * weight_of pre / weight_of track ≡ sum_by counted xs + free
  fills pre [] is =
      let all : weight_of pre ≡ weight_of track = ap weight_of (sym (is ∙ append-nil pre)) in
      let full : free * weight_of pre / weight_of track ≡ free = ap (λ n. free * n / weight_of track) all ∙ mul-div_cancel free some in
      omega (arith, full)
  fills pre (item ∷ xs) is =
      let next : track ≡ (pre ++ item ∷ []) ++ xs = is ∙ sym (append_assoc pre (item ∷ []) xs) in
      let long : length (pre ++ item ∷ []) ≡ length pre + 1 = length-append pre (item ∷ []) in
      let after = fills (pre ++ item ∷ []) xs next in
      let before : weight_to track (length pre) ≡ weight_of pre = weight_before pre (item ∷ xs) is in
      let with : weight_to track (length pre + 1) ≡ weight_of (pre ++ item ∷ []) = ap (weight_to track) (sym long) ∙ weight_before (pre ++ item ∷ []) xs next in
      let here = item_fills free track item (length pre) (weight_of pre) (weight_of (pre ++ item ∷ [])) some (weight-push pre item) before with in
      let rest = ap (λ n. sum_by main_of (numbered (shared_item free track) n xs)) long in
      let sizes = sum_by-cons main_of (shared_item free track (length pre) item) (numbered (shared_item free track) (length pre + 1) xs) in
      let counts = sum_by-cons counted item xs in
      omega (arith, here, after, rest, sizes, counts)

pub length-numbered : {A B : Type 0} (f : ℕ → A → B) (n : ℕ) (xs : List A) → length (numbered f n xs) ≡ length xs
length-numbered f n [] = refl
length-numbered f n (x ∷ xs) = ap (λ k. suc k) (length-numbered f (n + 1) xs)

pub shares_fill_tracks : SharesFillTracks
shares_fill_tracks extent gap track some fit =
    let free = free_of extent gap track in
    let all = fills free track some [] track refl in
    let main = sum-map main_of (shared_track extent gap track) in
    let counts = sum-map counted track in
    let long : length (map main_of (shared_track extent gap track)) ≡ length track = length-map (shared_track extent gap track) main_of ∙ length-numbered (shared_item free track) 0 track in
    let count_long : length (map counted track) ≡ length track = length-map track counted in
    let gaps : gap * (length (map main_of (shared_track extent gap track)) - 1) ≡ gap * (length (map counted track) - 1) = ap (λ n. gap * (n - 1)) (long ∙ sym count_long) in
    let nothing = div-le_self (free * 0) (weight_of track) in
    omega (arith, all, main, counts, gaps, nothing, fit)

none_shared : (free : ℕ) (track xs : List TrackItem) (i : ℕ) → weight_of xs ≡ 0 → numbered (shared_item free track) i xs ≡ xs
none_shared free track [] i none = refl
none_shared free track (item ∷ xs) i none =
    let sums = sum_by-cons grow_of item xs in
    let zero_here : item.grow ≡ 0 = omega (arith, sums, none) in
    let zero_there : weight_of xs ≡ 0 = omega (arith, sums, none) in
    rw (zero_here, none_shared free track xs (i + 1) zero_there) refl

pub nothing_shared : NothingShared
nothing_shared extent gap track none = none_shared (free_of extent gap track) track track 0 none

-- Sizes of items.
pub record IsItem (item : TrackItem) : Type 0 where
  pub main : item.main ≤ 8191
  pub cross : item.cross ≤ 8191

module _ (free : ℕ) (track : List TrackItem) (small : free ≤ 8191) where
  shared_small : (i : ℕ) (item : TrackItem) → IsItem item → IsItem (shared_item free track i item)
  shared_small i item is = elim (cases_Bool (item.grow == 0)) [
    | inl none ↦ rw none is
    | inr grows ↦
        let within = part_within free (weight_to track (i + 1)) (weight_of track) (sum_by-take-le grow_of track (i + 1)) in
        rw grows (record { main = omega (arith, within, small); cross = is.cross })
  ]

pub All-parts : {A : Type 0} (P : A → Type 0) (ts : List (List A)) → All P (flat_map (λ t. t) ts) → All (All P) ts
All-parts P [] all = All-nil (All P)
All-parts P (t ∷ ts) all = All-cons (All P) t ts (All-front P t (flat_map (λ u. u) ts) all) (All-parts P ts (All-back P t (flat_map (λ u. u) ts) all))

module _ (wrap : Bool) (extent gap : ℕ) (items : List TrackItem) (all : All IsItem items) where
  pub All-tracks : All (All IsItem) (tracks wrap extent gap items)
  All-tracks = All-parts IsItem (tracks wrap extent gap items) (All-same IsItem (flat_map (λ t. t) (tracks wrap extent gap items)) items (items_keep_order wrap extent gap items) all)

  pub All-shared : extent ≤ 8191 → All IsItem (shared wrap extent gap items)
  All-shared small =
      All-flat_map (All IsItem) IsItem (shared_track extent gap)
      (λ track (each : All IsItem track). All-numbered IsItem IsItem (shared_item (free_of extent gap track) track) (length track) (λ i item h is. shared_small (free_of extent gap track) track (omega arith) i item is) 0 track (omega arith) each)
      (tracks wrap extent gap items) All-tracks
