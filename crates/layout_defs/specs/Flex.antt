-- One container's flex: how the items of a track share its free space, and where they stand.
use Rattle.std.specs.Prelude.{ℕ, ◌+◌, ◌-◌, ◌*◌, ◌/◌, max, Bool, ◌||◌, not, ◌==◌, nat_le, if◌then◌else◌}
use Rattle.std.specs.Prelude.{List, [], ◌∷◌, length, map, take, sum, fold, ℤ, pos}
use Rattle.std.specs.List.{flat_map, sum_by}
use Rattle.gui_base.specs.declared.words.Placing.{Placing}
use Rattle.gui_base.specs.declared.words.Placing.TheVariants.{Start, End, Center, SpaceEvenly, SpaceAround}
use Rattle.gui_base.specs.declared.words.Placing.TheVariants.{SpaceBetween}

-- an item's size along the flow and across it, and its weight in sharing what is free; it grows where the
-- weight is not 0
pub record TrackItem : Type 0 where
  pub main : ℕ
  pub cross : ℕ
  pub grow : ℕ

-- where an item stands along the flow and across it
pub record Spot : Type 0 where
  pub main_at : ℤ
  pub cross_at : ℤ

-- the size of an item along the flow
abbrev pub main_of : TrackItem → ℕ
main_of item = item.main

-- the size of an item across the flow
abbrev pub cross_of : TrackItem → ℕ
cross_of item = item.cross

-- the weight of an item in sharing what is free
abbrev pub grow_of : TrackItem → ℕ
grow_of item = item.grow

-- the size along the flow that counts before the free space is shared out: none of an item that grows
abbrev pub counted : TrackItem → ℕ
counted item = if item.grow == 0 then item.main else 0

-- f of each with its number, where the first has the number n
abbrev pub numbered : {A B : Type 0} → (ℕ → A → B) → ℕ → List A → List B
numbered f n [] = []
numbered f n (x ∷ xs) = f n x ∷ numbered f (n + 1) xs

-- the greatest, or 0 of none
abbrev pub greatest : List ℕ → ℕ
greatest sizes = fold max 0 sizes

-- how long these sizes are together with a gap between each two
abbrev pub spanned : ℕ → List ℕ → ℕ
spanned gap sizes = sum sizes + gap * (length sizes - 1)

-- Tracks.
-- an item before those of the first track
abbrev pub before_all : TrackItem → List (List TrackItem) → List (List TrackItem)
before_all item [] = (item ∷ []) ∷ []
before_all item (track ∷ tracks) = (item ∷ track) ∷ tracks

-- whether a track may be so long; any length will do where the flow does not wrap
abbrev pub is_fit : Bool → ℕ → ℕ → Bool
is_fit wrap extent long = not wrap || nat_le long extent

module _ (wrap : Bool) (extent gap : ℕ) where
  -- the items in tracks, where the first of them go on a track that is so long already
  abbrev pub tracks_from : ℕ → List TrackItem → List (List TrackItem)
  tracks_from long [] = [] ∷ []
  tracks_from long (item ∷ items) =
      if is_fit wrap extent (long + gap + counted item) then
      before_all item (tracks_from (long + gap + counted item) items)
      else [] ∷ before_all item (tracks_from (counted item) items)

  -- the items in tracks: a track takes its first item, and each next while it fits
  abbrev pub tracks : List TrackItem → List (List TrackItem)
  tracks [] = []
  tracks (item ∷ items) = before_all item (tracks_from (counted item) items)

-- Sharing.
-- what is free before it is shared out
abbrev pub free_of : ℕ → ℕ → List TrackItem → ℕ
free_of extent gap track = extent - spanned gap (map counted track)

-- the weight of the first so many items
abbrev pub weight_to : List TrackItem → ℕ → ℕ
weight_to track n = sum_by grow_of (take n track)

-- the weight of all items of a track
abbrev pub weight_of : List TrackItem → ℕ
weight_of track = sum_by grow_of track

-- the part of the free space that item i gets, which grows
abbrev pub share_of : ℕ → List TrackItem → ℕ → ℕ
share_of free track i =
    free * weight_to track (i + 1) / weight_of track - free * weight_to track i / weight_of track

-- an item with its share of the free space as its size along the flow, if it grows
abbrev pub shared_item : ℕ → List TrackItem → ℕ → TrackItem → TrackItem
shared_item free track i item =
    if item.grow == 0 then item else record item { main = share_of free track i }

-- the items of a track with the shares of those that grow
abbrev pub shared_track : ℕ → ℕ → List TrackItem → List TrackItem
shared_track extent gap track = numbered (shared_item (free_of extent gap track) track) 0 track

-- the items with the shares of those that grow
abbrev pub shared : Bool → ℕ → ℕ → List TrackItem → List TrackItem
shared wrap extent gap items = flat_map (shared_track extent gap) (tracks wrap extent gap items)

-- Placing.
-- how far thing i of n stands from where it would without free space
abbrev pub spread : Placing → ℕ → ℕ → ℕ → ℕ
spread Start free i n = 0
spread End free i n = free
spread Center free i n = free / 2
spread SpaceEvenly free i n = free * (i + 1) / (n + 1)
spread SpaceAround free i n = free * (2 * i + 1) / (2 * n)
spread SpaceBetween free i n = if n == 1 then 0 else free * i / (n - 1)

-- where thing i of these sizes stands
abbrev pub stand : Placing → ℕ → ℕ → List ℕ → ℕ → ℕ
stand placing free gap sizes i = (sum (take i sizes) + gap * i) + spread placing free i (length sizes)

-- what is free once it is shared out: nothing where an item grows
abbrev pub left_over : ℕ → ℕ → List TrackItem → ℕ
left_over extent gap track = if weight_of track == 0 then free_of extent gap track else 0

-- how far a track reaches across the flow
abbrev pub thickness : List TrackItem → ℕ
thickness track = greatest (map cross_of track)

-- where an item stands in its track, across the flow
abbrev pub across : Placing → ℕ → ℕ
across End room = room
across Center room = room / 2
across placing room = 0

-- the placings along the flow, across it in a track, and of the tracks
pub record Placings : Type 0 where
  pub main : Placing
  pub cross : Placing
  pub track : Placing

-- where item i of a track stands that stands there across the flow
abbrev pub item_spot : Placings → ℕ → ℕ → ℕ → List TrackItem → ℕ → TrackItem → Spot
item_spot placings extent gap at track i item = record {
  main_at = pos (stand placings.main (left_over extent gap track) gap (map main_of track) i);
  cross_at = pos (at + across placings.cross (thickness track - item.cross));
}

-- where the items of a track stand that stands there across the flow
abbrev pub track_spots : Placings → ℕ → ℕ → ℕ → List TrackItem → List Spot
track_spots placings extent gap at track = numbered (item_spot placings extent gap at track) 0 track

-- where track t stands
abbrev pub track_at : Placing → ℕ → ℕ → List (List TrackItem) → ℕ → ℕ
track_at placing extent gap all t =
    let sizes = map thickness all in stand placing (extent - spanned gap sizes) gap sizes t

-- where the items stand whose shares are given
abbrev pub spots : Placings → Bool → ℕ → ℕ → ℕ → ℕ → List TrackItem → List Spot
spots placings wrap extent cross_extent gap track_gap items =
    let all = tracks wrap extent gap items in
    let at = track_at placings.track cross_extent track_gap all in
    flat_map (λ s. s) (numbered (λ t track. track_spots placings extent gap (at t) track) 0 all)
