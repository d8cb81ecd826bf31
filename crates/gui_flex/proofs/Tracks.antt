-- Loops over tracks, track by track.
use Rattle.std.proofs.Common.{◌*◌, ◌≡◌, ◌∙◌, refl, ap, ℕ, get_or, inl, inr, ◌+◌, ◌-◌, ◌<◌, ◌≤◌, Bool, List, [], ◌∷◌, ◌++◌, length, take, drop, append_assoc, arith}
use Rattle.std.specs.List.{flat_map, sum_by}
use Rattle.std.proofs.lemmas.List.{take-map, drop-map, drop-drop, map-append, length-map, take_more, drop_more, drop_all}
use Rattle.std.proofs.lemmas.List.Sums.{sum-map}
use Rattle.std.proofs.lemmas.Bool.{cases_lt}
use Rattle.std.proofs.lemmas.Slice.{take-put_mid, drop-put_mid}
use borrow.Rule.Slice.PartMut.{put_mid}
use Rattle.gui_base.specs.declared.words.Placing.{Placing}
use Rattle.layout_defs.specs.Flex.{TrackItem, Spot, numbered, tracks, thickness, spread, track_at}
use Rattle.gui_flex.specs.declared.item.FlexItem.{FlexItem}
use Rattle.gui_flex.specs.Items.{item_of, items_of, spot_of, spots_of}

-- a list that has y at a number, and ys after it
pub record GoesOn {X : Type 0} (xs : List X) (t : ℕ) (y : X) (ys : List X) : Type 0 where
  pub there : t < length xs
  pub before : take (t + 1) xs ≡ take t xs ++ y ∷ []
  pub after : drop (t + 1) xs ≡ ys

pub one_more : {X : Type 0} (xs : List X) (t : ℕ) (y : X) (ys : List X) → drop t xs ≡ y ∷ ys → GoesOn xs t y ys
one_more {X} xs t y ys is = elim (cases_lt t (length xs)) [
  | inl h ↦
      let more = drop_more xs t y h in
      let at : get_or xs t y ≡ y = cc in
      record { there = h; before = take_more xs t y h ∙ ap (λ (z : X). take t xs ++ z ∷ []) at; after = cc }
  | inr past ↦ let none = drop_all t xs past in cc
]

module _ (wrap : Bool) (extent gap : ℕ) where
  -- the first track and the others, where the first takes n items
  pub next_tracks : (xs : List FlexItem) (a n : ℕ) →
      tracks wrap extent gap (items_of (drop a xs)) ≡ take n (items_of (drop a xs)) ∷ tracks wrap extent gap (drop n (items_of (drop a xs))) →
      tracks wrap extent gap (items_of (drop a xs)) ≡ items_of (take n (drop a xs)) ∷ tracks wrap extent gap (items_of (drop (a + n) xs))
  next_tracks xs a n is = is ∙ rw (take-map item_of n (drop a xs), drop-map item_of n (drop a xs), drop-drop n a xs) refl

-- a track has its places, and is written over a part of the items
pub spots_step : (wrap : Bool) (extent gap : ℕ) (f : ℕ → List TrackItem → List Spot) (xs ys zs : List FlexItem) (a n k t : ℕ) → k ≡ n → a + n ≤ length xs → length ys ≡ n → zs ≡ put_mid a k xs ys →
    tracks wrap extent gap (items_of (drop a xs)) ≡ items_of (take n (drop a xs)) ∷ tracks wrap extent gap (items_of (drop (a + n) xs)) →
    spots_of ys ≡ f t (items_of (take k (drop a xs))) →
    spots_of (take (a + n) zs) ++ flat_map (λ s. s) (numbered f (t + 1) (tracks wrap extent gap (items_of (drop (a + n) zs)))) ≡ spots_of (take a xs) ++ flat_map (λ s. s) (numbered f t (tracks wrap extent gap (items_of (drop a xs))))
spots_step wrap extent gap f xs ys zs a n k t same within long is_k track done_k =
    let is : zs ≡ put_mid a n xs ys = is_k ∙ ap (λ m. put_mid a m xs ys) same in
    let done : spots_of ys ≡ f t (items_of (take n (drop a xs))) = done_k ∙ ap (λ m. f t (items_of (take m (drop a xs)))) same in
    let start : a ≤ length xs = omega arith in
    let end : a + n ≡ a + length ys = omega arith in
    let most : a + n ≤ a + n = omega arith in
    let front : take (a + n) zs ≡ take a xs ++ ys = rw is (take-put_mid a n xs ys (a + n) end start) in
    let back : drop (a + n) zs ≡ drop (a + n) xs = rw is (drop-put_mid a n xs ys (a + n) most start long) in
    rw (front, back, map-append spot_of (take a xs) ys, append_assoc, track, done) refl

-- where a track stands
pub track_at_is : (placing : Placing) (extent gap : ℕ) (all : List (List TrackItem)) (t before count sizes free far : ℕ) →
    before ≡ sum_by thickness (take t all) → count ≡ length all → sizes ≡ sum_by thickness all → free ≡ extent - (sizes + gap * (count - 1)) → far ≡ spread placing free t count →
    before + gap * t + far ≡ track_at placing extent gap all t
track_at_is placing extent gap all t before count sizes free far is_before is_count is_sizes is_free is_far =
    rw (take-map thickness t all, sum-map thickness all, sum-map thickness (take t all), length-map all thickness, is_far, is_free, is_sizes, is_count, is_before) refl
