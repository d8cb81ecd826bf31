-- Laws of one container's flex.
use Rattle.std.specs.Prelude.{◌≡◌, ◌≤◌, ◌<◌, ℕ, ◌+◌, ◌-◌, Bool, true, false, List, [], ◌∷◌, ◌++◌, length, map}
use Rattle.std.specs.Prelude.{take, slice_index, slice_index_or, pos, ◌+ℤ◌, ◌≤ℤ◌}
use Rattle.std.specs.List.{All, flat_map}
use Rattle.gui_base.specs.declared.words.Placing.{Placing}
use Rattle.layout_defs.specs.Flex.{TrackItem, Spot, Placings, main_of, counted, spanned, tracks, weight_of}
use Rattle.layout_defs.specs.Flex.{shared_track, stand, shared, thickness, across, track_spots, track_at}

-- each item stands in one track, and all keep their order
abbrev pub ItemsKeepOrder : Type 0
ItemsKeepOrder =
    (wrap : Bool) (extent gap : ℕ) (items : List TrackItem) →
    flat_map (λ track. track) (tracks wrap extent gap items) ≡ items

-- no track is empty
abbrev pub TracksHoldItems : Type 0
TracksHoldItems =
    (wrap : Bool) (extent gap : ℕ) (items : List TrackItem) →
    All (λ track. 0 < length track) (tracks wrap extent gap items)

-- without wrap all items stand in one track
abbrev pub OneTrack : Type 0
OneTrack =
    (extent gap : ℕ) (item : TrackItem) (items : List TrackItem) →
    tracks false extent gap (item ∷ items) ≡ (item ∷ items) ∷ []

-- how long a track is before its free space is shared out
abbrev pub counted_length : ℕ → List TrackItem → ℕ
counted_length gap track = spanned gap (map counted track)

-- with wrap a track of more than one item fits the extent
abbrev pub TracksFit : Type 0
TracksFit =
    (extent gap : ℕ) (items : List TrackItem) →
    All (λ track. 1 < length track → counted_length gap track ≤ extent) (tracks true extent gap items)

-- the first item of each next track does not fit in the track before it
abbrev pub AreFull : ℕ → ℕ → List (List TrackItem) → Type 0
AreFull extent gap [] = Unit {0}
AreFull extent gap (track ∷ []) = Unit {0}
AreFull extent gap (track ∷ next ∷ tracks) =
    (extent < counted_length gap (track ++ take 1 next)) × AreFull extent gap (next ∷ tracks)

abbrev pub TracksAreFull : Type 0
TracksAreFull = (extent gap : ℕ) (items : List TrackItem) → AreFull extent gap (tracks true extent gap items)

-- where an item grows and the other sizes fit, a track fills its extent
abbrev pub SharesFillTracks : Type 0
SharesFillTracks =
    (extent gap : ℕ) (track : List TrackItem) → 0 < weight_of track → counted_length gap track ≤ extent →
    spanned gap (map main_of (shared_track extent gap track)) ≡ extent

-- where none grows, all keep their sizes
abbrev pub NothingShared : Type 0
NothingShared =
    (extent gap : ℕ) (track : List TrackItem) → weight_of track ≡ 0 → shared_track extent gap track ≡ track

-- items that are shared stand in the same tracks as before
abbrev pub SharesKeepTracks : Type 0
SharesKeepTracks =
    (wrap : Bool) (extent gap : ℕ) (items : List TrackItem) →
    tracks wrap extent gap (shared wrap extent gap items)
    ≡ map (shared_track extent gap) (tracks wrap extent gap items)

-- of what stands in a line, each next thing begins a gap behind the end of the one before it, or later
abbrev pub NeighboursApart : Type 0
NeighboursApart =
    (placing : Placing) (free gap : ℕ) (sizes : List ℕ) (i : ℕ) → i + 1 < length sizes →
    stand placing free gap sizes i + slice_index sizes i + gap ≤ stand placing free gap sizes (i + 1)

-- so the items of one track do not overlap
abbrev pub ItemsApart : Type 0
ItemsApart =
    (placings : Placings) (extent gap at : ℕ) (track : List TrackItem) (i : ℕ) (item : TrackItem) (spot : Spot) →
    i + 1 < length track →
    let main_at = λ (n : ℕ). (slice_index_or (track_spots placings extent gap at track) n spot).main_at in
    (main_at i +ℤ pos ((slice_index_or track i item).main + gap)) ≤ℤ main_at (i + 1)

-- nor do the tracks
abbrev pub TracksApart : Type 0
TracksApart =
    (placing : Placing) (extent gap : ℕ) (all : List (List TrackItem)) (t : ℕ) → t + 1 < length all →
    track_at placing extent gap all t + thickness (slice_index_or all t []) + gap
    ≤ track_at placing extent gap all (t + 1)

-- where all of it fits, all of it stands within the extent
abbrev pub LinesFit : Type 0
LinesFit =
    (placing : Placing) (extent gap : ℕ) (sizes : List ℕ) (i : ℕ) → spanned gap sizes ≤ extent →
    i < length sizes →
    stand placing (extent - spanned gap sizes) gap sizes i + slice_index sizes i ≤ extent

-- across the flow an item stands within its track
abbrev pub ItemsInTracks : Type 0
ItemsInTracks =
    (placing : Placing) (track : List TrackItem) →
    All (λ (item : TrackItem). across placing (thickness track - item.cross) + item.cross ≤ thickness track) track
