-- Loops over the items of a container, step by step.
use Rattle.std.proofs.Common.{ℤ, pos, ◌/◌, ◌≡◌, ◌∙◌, refl, sym, ap, ℕ, ◌+◌, ◌*◌, ◌-◌, ◌<◌, ◌≤◌, Bool, true, false, List, [], ◌∷◌, ◌++◌, length, get_or, set, take, drop, map, append_assoc, inl, inr, arith}
use Rattle.std.specs.Prelude.{◌==◌, if◌then◌else◌}
use Rattle.gui_base.specs.Area.{nat_of}
use Rattle.std.specs.List.{sum_by}
use Rattle.std.proofs.lemmas.List.{append-nil, take_more, drop_all, take_more_set, drop_more, drop-set-lt, map_push, take-map, drop-map, drop-drop, get_or-drop, get_or-map, length-map, map-append, map-set, set-get_or, take-append-drop}
use Rattle.std.proofs.lemmas.List.Sums.{sum_by-cons, sum_by_more, sum_by-take-le}
use Rattle.std.proofs.lemmas.Bool.{cases_Bool}
use Rattle.std.proofs.lemmas.Slice.{take-put_mid, drop-put_mid}
use borrow.Rule.Slice.PartMut.{put_mid}
use Rattle.layout_defs.specs.Flex.{TrackItem, numbered, before_all, is_fit, tracks, tracks_from, counted, grow_of, weight_to, weight_of, shared_item, shared_track, shared}
use Rattle.gui_flex.specs.declared.item.FlexItem.{FlexItem}
use Rattle.gui_flex.specs.Items.{item_of, items_of}

-- the item with a number is done, and written
pub numbered_step : {X A B : Type 0} (view : X → B) (read : X → A) (f : ℕ → A → B) (xs : List X) (i : ℕ) (d v : X) → i < length xs → view v ≡ f i (read (get_or xs i d)) →
    map view (take (i + 1) (set xs i v)) ++ numbered f (i + 1) (map read (drop (i + 1) (set xs i v))) ≡ map view (take i xs) ++ numbered f i (map read (drop i xs))
numbered_step view read f xs i d v h is =
    let past : i < i + 1 = omega arith in
    rw (take_more_set xs i v h, drop-set-lt (i + 1) xs i v past, map_push view (take i xs) v, append_assoc, drop_more xs i d h, is) refl

-- the sum over items, seen through `read`
pub sum-read : {X A : Type 0} (read : X → A) (f : A → ℕ) (xs : List X) → sum_by f (map read xs) ≡ sum_by (λ x. f (read x)) xs
sum-read read f [] = refl
sum-read read f (x ∷ xs) = sum_by-cons f (read x) (map read xs) ∙ (ap (λ n. f (read x) + n) (sum-read read f xs) ∙ sym (sum_by-cons (λ y. f (read y)) x xs))

-- these items stand before those of the first track
abbrev pub ahead : List TrackItem → List (List TrackItem) → List (List TrackItem)
ahead items [] = items ∷ []
ahead items (track ∷ tracks) = (items ++ track) ∷ tracks

ahead-one : (items : List TrackItem) (item : TrackItem) (ts : List (List TrackItem)) → ahead items (before_all item ts) ≡ ahead (items ++ item ∷ []) ts
ahead-one items item [] = refl
ahead-one items item (t ∷ ts) = ap (λ us. us ∷ ts) (sym (append_assoc items (item ∷ []) t))

module _ (wrap : Bool) (extent gap : ℕ) where
  -- the next item goes on the track
  pub track_goes_on : (xs : List TrackItem) (long n : ℕ) (d : TrackItem) → n < length xs → is_fit wrap extent (long + gap + counted (get_or xs n d)) ≡ true →
      ahead (take n xs) (tracks_from wrap extent gap long (drop n xs)) ≡ ahead (take (n + 1) xs) (tracks_from wrap extent gap (long + gap + counted (get_or xs n d)) (drop (n + 1) xs))
  track_goes_on xs long n d h fit =
      rw (drop_more xs n d h, fit) (ahead-one (take n xs) (get_or xs n d) _ ∙ ap (λ us. ahead us (tracks_from wrap extent gap (long + gap + counted (get_or xs n d)) (drop (n + 1) xs))) (sym (take_more xs n d h)))

  -- the next item begins a track
  pub track_ends : (xs : List TrackItem) (long n : ℕ) (d : TrackItem) → n < length xs → is_fit wrap extent (long + gap + counted (get_or xs n d)) ≡ false →
      ahead (take n xs) (tracks_from wrap extent gap long (drop n xs)) ≡ take n xs ∷ tracks wrap extent gap (drop n xs)
  track_ends xs long n d h over = rw (drop_more xs n d h, over) (ap (λ us. us ∷ before_all (get_or xs n d) (tracks_from wrap extent gap (counted (get_or xs n d)) (drop (n + 1) xs))) (append-nil (take n xs)))

  -- no item is left
  pub track_is_last : (xs : List TrackItem) (long n : ℕ) → length xs ≤ n → ahead (take n xs) (tracks_from wrap extent gap long (drop n xs)) ≡ take n xs ∷ tracks wrap extent gap (drop n xs)
  track_is_last xs long n h = rw (drop_all n xs h) (ap (λ us. us ∷ []) (append-nil (take n xs)))

  -- the first item begins the first track
  pub track_begins : (xs : List TrackItem) (d : TrackItem) → 0 < length xs → tracks wrap extent gap xs ≡ ahead (take 1 xs) (tracks_from wrap extent gap (counted (get_or xs 0 d)) (drop 1 xs))
  track_begins [] d h = absurd (omega arith)
  track_begins (x ∷ xs) d h = begins (tracks_from wrap extent gap (counted x) xs)
    where
      begins : (ts : List (List TrackItem)) → before_all x ts ≡ ahead (x ∷ []) ts
      begins [] = refl
      begins (t ∷ ts) = refl

-- the weight of one item more
pub weight_more : (xs : List FlexItem) (i : ℕ) (d : FlexItem) → i < length xs → weight_to (items_of xs) (i + 1) ≡ weight_to (items_of xs) i + (get_or xs i d).grow
weight_more xs i d h =
    let short : i < length (items_of xs) = omega (arith, length-map xs item_of) in
    sum_by_more grow_of (items_of xs) i (item_of d) short ∙ ap (λ n. weight_to (items_of xs) i + n) (ap grow_of (get_or-map item_of xs i d (item_of d) h))

-- two lists that go on in the same way
pub same_at : {X : Type 0} (xs ys : List X) (i : ℕ) (d : X) → drop i xs ≡ drop i ys → get_or xs i d ≡ get_or ys i d
same_at xs ys i d same =
    let zero_more : i + 0 ≡ i = omega arith in
    ap (λ n. get_or xs n d) (sym zero_more) ∙ (sym (get_or-drop i xs 0 d) ∙ (ap (λ zs. get_or zs 0 d) same ∙ (get_or-drop i ys 0 d ∙ ap (λ n. get_or ys n d) zero_more)))

pub same_after : {X : Type 0} (xs ys : List X) (i : ℕ) (v : X) → drop i xs ≡ drop i ys → drop (i + 1) (set xs i v) ≡ drop (i + 1) ys
same_after xs ys i v same =
    let past : i < i + 1 = omega arith in
    drop-set-lt (i + 1) xs i v past ∙ (sym (drop-drop 1 i xs) ∙ (ap (drop 1) same ∙ drop-drop 1 i ys))

-- an item with its share
pub share_written : (free before weight i : ℕ) (track : List TrackItem) (x : FlexItem) (r : ℤ) →
    before ≡ weight_to track i → weight ≡ weight_of track → weight_to track (i + 1) ≡ before + x.grow →
    r ≡ pos (if x.grow == 0 then nat_of x.main else free * (before + x.grow) / weight - free * before / weight) →
    record { main = nat_of r; cross = nat_of x.cross; grow = x.grow } ≡ shared_item free track i (item_of x)
share_written free before weight i track x r is_before is_weight more is = elim (cases_Bool (x.grow == 0)) [
  | inl none ↦ let r_is : r ≡ pos (nat_of x.main) = rw none at is in rw (none, r_is) refl
  | inr some ↦ let r_is : r ≡ pos (free * (before + x.grow) / weight - free * before / weight) = rw some at is in rw (some, r_is, more, ← is_before, ← is_weight) refl
]

pub weight_within : (xs : List TrackItem) (n : ℕ) → weight_to xs n ≤ weight_of xs
weight_within xs n = sum_by-take-le grow_of xs n

-- a track is done, and written over a part of the items
pub tracks_step : (wrap : Bool) (extent gap : ℕ) (xs ys zs : List FlexItem) (a n k : ℕ) → k ≡ n → a + n ≤ length xs → length ys ≡ n → zs ≡ put_mid a k xs ys →
    tracks wrap extent gap (items_of (drop a xs)) ≡ take n (items_of (drop a xs)) ∷ tracks wrap extent gap (drop n (items_of (drop a xs))) →
    items_of ys ≡ shared_track extent gap (items_of (take k (drop a xs))) →
    items_of (take (a + n) zs) ++ shared wrap extent gap (items_of (drop (a + n) zs)) ≡ items_of (take a xs) ++ shared wrap extent gap (items_of (drop a xs))
tracks_step wrap extent gap xs ys zs a n k same within long is_k track done_k =
    let is : zs ≡ put_mid a n xs ys = is_k ∙ ap (λ m. put_mid a m xs ys) same in
    let done : items_of ys ≡ shared_track extent gap (items_of (take n (drop a xs))) = done_k ∙ ap (λ m. shared_track extent gap (items_of (take m (drop a xs)))) same in
    let start : a ≤ length xs = omega arith in
    let end : a + n ≡ a + length ys = omega arith in
    let most : a + n ≤ a + n = omega arith in
    let front : take (a + n) zs ≡ take a xs ++ ys = rw is (take-put_mid a n xs ys (a + n) end start) in
    let back : drop (a + n) zs ≡ drop (a + n) xs = rw is (drop-put_mid a n xs ys (a + n) most start long) in
    rw (front, back, map-append item_of (take a xs) ys, append_assoc, track, done, take-map item_of n (drop a xs), drop-map item_of n (drop a xs), drop-drop n a xs) refl

-- what is written is seen as before
pub seen_as_before : {X A : Type 0} (view : X → A) (xs : List X) (i : ℕ) (d v : X) → i < length xs → view v ≡ view (get_or xs i d) → map view (set xs i v) ≡ map view xs
seen_as_before view xs i d v h same =
    map-set view xs i v ∙ (ap (set (map view xs) i) (same ∙ sym (get_or-map view xs i d (view d) h)) ∙ set-get_or (map view xs) i (view d))

-- a part is written that is seen as before
pub put_as_before : {X A : Type 0} (view : X → A) (xs ys : List X) (a k : ℕ) → map view ys ≡ map view (take k (drop a xs)) → map view (put_mid a k xs ys) ≡ map view xs
put_as_before view xs ys a k same =
    let rest = drop k (drop a xs) in
    map-append view (take a xs) (ys ++ rest)
    ∙ (ap (λ l. map view (take a xs) ++ l) (map-append view ys rest ∙ (ap (λ l. l ++ map view rest) same ∙ (sym (map-append view (take k (drop a xs)) rest) ∙ ap (map view) (take-append-drop k (drop a xs)))))
    ∙ (sym (map-append view (take a xs) (drop a xs)) ∙ ap (map view) (take-append-drop a xs)))
