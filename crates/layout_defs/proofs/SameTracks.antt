-- Items that are shared stand in the tracks that they stood in before.
use Rattle.std.proofs.Common.{◌≡◌, ◌∙◌, refl, sym, ap, ℕ, ◌+◌, Bool, if◌then◌else◌, List, [], ◌∷◌, ◌++◌, length, map, take, drop, inl, inr}
use Rattle.std.specs.Prelude.{◌==◌}
use Rattle.std.specs.List.{flat_map}
use Rattle.std.proofs.lemmas.Bool.{cases_Bool}
use Rattle.std.proofs.lemmas.List.{map-append}
use Rattle.std.proofs.Math.Seq.{take-append_seam, drop-append_seam}
use Rattle.layout_defs.specs.Flex.{TrackItem, counted, before_all, is_fit, tracks_from, tracks, numbered, free_of, shared_item, shared_track, shared}
use Rattle.layout_defs.specs.FlexLaws.{SharesKeepTracks}
use Rattle.layout_defs.proofs.Shares.{length-numbered}
use Rattle.layout_defs.proofs.Tracks.{items_keep_order}

-- a list in parts that are as long as those
abbrev split_like : List (List TrackItem) → List TrackItem → List (List TrackItem)
split_like [] ys = []
split_like (t ∷ ts) ys = take (length t) ys ∷ split_like ts (drop (length t) ys)

split-before_all : (x y : TrackItem) (ts : List (List TrackItem)) (ys : List TrackItem) → split_like (before_all x ts) (y ∷ ys) ≡ before_all y (split_like ts ys)
split-before_all x y [] ys = refl
split-before_all x y (t ∷ ts) ys = refl

module _ (wrap : Bool) (extent gap : ℕ) where
  -- the tracks from an item on that counts for so much
  from_item : (long c : ℕ) (y : TrackItem) (ys : List TrackItem) → counted y ≡ c →
      tracks_from wrap extent gap long (y ∷ ys)
      ≡ (if is_fit wrap extent (long + gap + c) then before_all y (tracks_from wrap extent gap (long + gap + c) ys) else [] ∷ before_all y (tracks_from wrap extent gap c ys))
  from_item long c y ys is =
      ap (λ n. if is_fit wrap extent (long + gap + n) then before_all y (tracks_from wrap extent gap (long + gap + n) ys) else [] ∷ before_all y (tracks_from wrap extent gap n ys)) is

  -- items that count for the same stand in tracks of the same lengths
  same_from : (long : ℕ) (xs ys : List TrackItem) → map counted xs ≡ map counted ys → tracks_from wrap extent gap long ys ≡ split_like (tracks_from wrap extent gap long xs) ys
  same_from long [] [] is = refl
  same_from long [] (y ∷ ys) is = cc
  same_from long (x ∷ xs) [] is = cc
  same_from long (x ∷ xs) (y ∷ ys) is =
      let first : counted y ≡ counted x = cc in
      let rest : map counted xs ≡ map counted ys = cc in
      elim (cases_Bool (is_fit wrap extent (long + gap + counted x))) [
        | inl fits ↦
            let next = long + gap + counted x in
            from_item long (counted x) y ys first
            ∙ rw fits (ap (before_all y) (same_from next xs ys rest) ∙ sym (split-before_all x y (tracks_from wrap extent gap next xs) ys))
        | inr over ↦
            from_item long (counted x) y ys first
            ∙ rw over (ap (λ ts. [] ∷ before_all y ts) (same_from (counted x) xs ys rest) ∙ ap (λ (ts : List (List TrackItem)). [] ∷ ts) (sym (split-before_all x y (tracks_from wrap extent gap (counted x) xs) ys)))
      ]

  same_tracks : (xs ys : List TrackItem) → map counted xs ≡ map counted ys → tracks wrap extent gap ys ≡ split_like (tracks wrap extent gap xs) ys
  same_tracks [] [] is = refl
  same_tracks [] (y ∷ ys) is = cc
  same_tracks (x ∷ xs) [] is = cc
  same_tracks (x ∷ xs) (y ∷ ys) is =
      let first : counted y ≡ counted x = cc in
      let rest : map counted xs ≡ map counted ys = cc in
      ap (λ n. before_all y (tracks_from wrap extent gap n ys)) first
      ∙ (ap (before_all y) (same_from (counted x) xs ys rest) ∙ sym (split-before_all x y (tracks_from wrap extent gap (counted x) xs) ys))

-- what is shared counts as before
counted-shared : (free : ℕ) (track : List TrackItem) (i : ℕ) (item : TrackItem) → counted (shared_item free track i item) ≡ counted item
counted-shared free track i item = elim (cases_Bool (item.grow == 0)) [ inl none ↦ rw (none, none) refl | inr grows ↦ rw (grows, grows) refl ]

counted-numbered : (free : ℕ) (track : List TrackItem) (i : ℕ) (xs : List TrackItem) → map counted (numbered (shared_item free track) i xs) ≡ map counted xs
counted-numbered free track i [] = refl
counted-numbered free track i (x ∷ xs) = rw (counted-shared free track i x, counted-numbered free track (i + 1) xs) refl

module _ (extent gap : ℕ) where
  counted-parts : (ts : List (List TrackItem)) → map counted (flat_map (λ t. t) ts) ≡ map counted (flat_map (shared_track extent gap) ts)
  counted-parts [] = refl
  counted-parts (t ∷ ts) =
      map-append counted t (flat_map (λ u. u) ts)
      ∙ (ap (λ ns. map counted t ++ ns) (counted-parts ts)
      ∙ (ap (λ ns. ns ++ map counted (flat_map (shared_track extent gap) ts)) (sym (counted-numbered (free_of extent gap t) t 0 t))
      ∙ sym (map-append counted (shared_track extent gap t) (flat_map (shared_track extent gap) ts))))

  parts : (ts : List (List TrackItem)) → split_like ts (flat_map (shared_track extent gap) ts) ≡ map (shared_track extent gap) ts
  parts [] = refl
  parts (t ∷ ts) =
      let long : length (shared_track extent gap t) ≡ length t = length-numbered (shared_item (free_of extent gap t) t) 0 t in
      let rest = flat_map (shared_track extent gap) ts in
      let front : take (length t) (shared_track extent gap t ++ rest) ≡ shared_track extent gap t = ap (λ n. take n (shared_track extent gap t ++ rest)) (sym long) ∙ take-append_seam (shared_track extent gap t) rest in
      let back : drop (length t) (shared_track extent gap t ++ rest) ≡ rest = ap (λ n. drop n (shared_track extent gap t ++ rest)) (sym long) ∙ drop-append_seam (shared_track extent gap t) rest in
      ap (λ us. us ∷ split_like ts (drop (length t) (shared_track extent gap t ++ rest))) front
      ∙ ap (λ us. shared_track extent gap t ∷ us) (ap (split_like ts) back ∙ parts ts)

pub shares_keep_tracks : SharesKeepTracks
shares_keep_tracks wrap extent gap items =
    let ts = tracks wrap extent gap items in
    let same : map counted items ≡ map counted (shared wrap extent gap items) = ap (map counted) (sym (items_keep_order wrap extent gap items)) ∙ counted-parts extent gap ts in
    same_tracks wrap extent gap items (shared wrap extent gap items) same ∙ parts extent gap ts
