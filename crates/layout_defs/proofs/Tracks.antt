-- Items in tracks.
use Rattle.std.proofs.Common.{◌≡◌, ◌∙◌, refl, ap, ℕ, ◌+◌, ◌-◌, ◌*◌, ◌<◌, ◌≤◌, Bool, true, false, List, [], ◌∷◌, ◌++◌, length, map, take, sum, inl, inr, arith}
use Rattle.std.specs.List.{All, flat_map, sum_by}
use Rattle.std.proofs.lemmas.List.{length-map}
use Rattle.std.proofs.lemmas.List.Sums.{sum_by-cons, sum-map}
use Rattle.std.proofs.lemmas.Bool.{cases_Bool}
use Rattle.std.proofs.lemmas.Bool.Decides.{nat_tests}
use Rattle.std.proofs.lemmas.List.Elements.{All-nil, All-cons}
use Rattle.layout_defs.specs.Flex.{TrackItem, counted, before_all, is_fit, tracks_from, tracks}
use Rattle.layout_defs.specs.FlexLaws.{ItemsKeepOrder, TracksHoldItems, OneTrack, TracksFit, AreFull, TracksAreFull, counted_length}

-- all items, one after another
all-before_all : (item : TrackItem) (ts : List (List TrackItem)) → flat_map (λ track. track) (before_all item ts) ≡ item ∷ flat_map (λ track. track) ts
all-before_all item [] = refl
all-before_all item (t ∷ ts) = refl

module _ (wrap : Bool) (extent gap : ℕ) where
  all_from : (long : ℕ) (items : List TrackItem) → flat_map (λ track. track) (tracks_from wrap extent gap long items) ≡ items
  all_from long [] = refl
  all_from long (item ∷ items) = elim (cases_Bool (is_fit wrap extent (long + gap + counted item))) [
    | inl fits ↦ rw fits (all-before_all item (tracks_from wrap extent gap (long + gap + counted item) items) ∙ ap (λ xs. item ∷ xs) (all_from (long + gap + counted item) items))
    | inr over ↦ rw over (all-before_all item (tracks_from wrap extent gap (counted item) items) ∙ ap (λ xs. item ∷ xs) (all_from (counted item) items))
  ]

  all_in_tracks : (items : List TrackItem) → flat_map (λ track. track) (tracks wrap extent gap items) ≡ items
  all_in_tracks [] = refl
  all_in_tracks (item ∷ items) = all-before_all item (tracks_from wrap extent gap (counted item) items) ∙ ap (λ xs. item ∷ xs) (all_from (counted item) items)

pub items_keep_order : ItemsKeepOrder
items_keep_order wrap extent gap items = all_in_tracks wrap extent gap items

-- whether no track is empty but the first, and none
abbrev HoldsItems : List TrackItem → Type 0
HoldsItems track = 0 < length track

abbrev LaterHold : List (List TrackItem) → Type 0
LaterHold [] = Unit {0}
LaterHold (t ∷ ts) = All HoldsItems ts

hold-before_all : (item : TrackItem) (ts : List (List TrackItem)) → LaterHold ts → All HoldsItems (before_all item ts)
hold-before_all item [] later = All-cons HoldsItems (item ∷ []) [] (omega arith) (All-nil HoldsItems)
hold-before_all item (t ∷ ts) later = All-cons HoldsItems (item ∷ t) ts (omega arith) later

later-before_all : (item : TrackItem) (ts : List (List TrackItem)) → LaterHold ts → LaterHold (before_all item ts)
later-before_all item [] later = All-nil HoldsItems
later-before_all item (t ∷ ts) later = later

module _ (wrap : Bool) (extent gap : ℕ) where
  later_hold : (long : ℕ) (items : List TrackItem) → LaterHold (tracks_from wrap extent gap long items)
  later_hold long [] = All-nil HoldsItems
  later_hold long (item ∷ items) = elim (cases_Bool (is_fit wrap extent (long + gap + counted item))) [
    | inl fits ↦ rw fits (later-before_all item (tracks_from wrap extent gap (long + gap + counted item) items) (later_hold (long + gap + counted item) items))
    | inr over ↦ rw over (hold-before_all item (tracks_from wrap extent gap (counted item) items) (later_hold (counted item) items))
  ]

  all_hold : (items : List TrackItem) → All HoldsItems (tracks wrap extent gap items)
  all_hold [] = All-nil HoldsItems
  all_hold (item ∷ items) = hold-before_all item (tracks_from wrap extent gap (counted item) items) (later_hold (counted item) items)

pub tracks_hold_items : TracksHoldItems
tracks_hold_items wrap extent gap items = all_hold wrap extent gap items

one_from : (extent gap long : ℕ) (items : List TrackItem) → tracks_from false extent gap long items ≡ items ∷ []
one_from extent gap long [] = refl
one_from extent gap long (item ∷ items) = ap (before_all item) (one_from extent gap (long + gap + counted item) items)

pub one_track : OneTrack
one_track extent gap item items = ap (before_all item) (one_from extent gap (counted item) items)

-- How long a track is that is so long already and goes on with these items.
abbrev longer : ℕ → ℕ → List TrackItem → ℕ
longer gap long track = long + (sum_by counted track + gap * length track)

length-cons : (gap : ℕ) (item : TrackItem) (track : List TrackItem) → counted_length gap (item ∷ track) ≡ longer gap (counted item) track
length-cons gap item track =
    let all : sum (map counted (item ∷ track)) ≡ counted item + sum_by counted track = sum-map counted (item ∷ track) ∙ sum_by-cons counted item track in
    let long : length (map counted (item ∷ track)) - 1 ≡ length track = omega (arith, length-map (item ∷ track) counted) in
    rw (all, long) (omega arith)

longer-cons : (gap long : ℕ) (item : TrackItem) (track : List TrackItem) → longer gap long (item ∷ track) ≡ longer gap (long + gap + counted item) track
longer-cons gap long item track = omega (arith, sum_by-cons counted item track)

module _ (extent gap : ℕ) where
  abbrev Fits : List TrackItem → Type 0
  Fits track = 1 < length track → counted_length gap track ≤ extent

  -- the first of these tracks goes on one that is so long already
  abbrev FitFrom : ℕ → List (List TrackItem) → Type 0
  FitFrom long [] = Unit {0}
  FitFrom long (t ∷ ts) = (0 < length t → longer gap long t ≤ extent) × All Fits ts

  fit_more : (long : ℕ) (item : TrackItem) (ts : List (List TrackItem)) → long + gap + counted item ≤ extent → FitFrom (long + gap + counted item) ts → FitFrom long (before_all item ts)
  fit_more long item [] h from = ((λ _. rw longer-cons (omega arith)), All-nil Fits)
  fit_more long item ([] ∷ ts) h from = ((λ _. rw longer-cons (omega arith)), from.1)
  fit_more long item ((x ∷ t) ∷ ts) h from = ((λ _. rw longer-cons (from.0 (omega arith))), from.1)

  fit_first : (item : TrackItem) (ts : List (List TrackItem)) → FitFrom (counted item) ts → All Fits (before_all item ts)
  fit_first item [] from = All-cons Fits (item ∷ []) [] (λ h. absurd (omega arith)) (All-nil Fits)
  fit_first item ([] ∷ ts) from = All-cons Fits (item ∷ []) ts (λ h. absurd (omega arith)) from.1
  fit_first item ((x ∷ t) ∷ ts) from = All-cons Fits (item ∷ x ∷ t) ts (λ _. rw length-cons (from.0 (omega arith))) from.1

  fit_from : (long : ℕ) (items : List TrackItem) → FitFrom long (tracks_from true extent gap long items)
  fit_from long [] = ((λ h. absurd (omega arith)), All-nil Fits)
  fit_from long (item ∷ items) = elim (cases_Bool (is_fit true extent (long + gap + counted item))) [
    | inl fits ↦ rw fits (fit_more long item (tracks_from true extent gap (long + gap + counted item) items) (grind (arith, nat_tests, fits)) (fit_from (long + gap + counted item) items))
    | inr over ↦ rw over ((λ h. absurd (omega arith)), fit_first item (tracks_from true extent gap (counted item) items) (fit_from (counted item) items))
  ]

  fit_all : (items : List TrackItem) → All Fits (tracks true extent gap items)
  fit_all [] = All-nil Fits
  fit_all (item ∷ items) = fit_first item (tracks_from true extent gap (counted item) items) (fit_from (counted item) items)

  -- and the first item of the next does not fit on it
  abbrev FullFrom : ℕ → List (List TrackItem) → Type 0
  FullFrom long [] = Unit {0}
  FullFrom long (t ∷ []) = Unit {0}
  FullFrom long (t ∷ u ∷ ts) = (extent < longer gap long (t ++ take 1 u)) × AreFull extent gap (u ∷ ts)

  full_more : (long : ℕ) (item : TrackItem) (ts : List (List TrackItem)) → FullFrom (long + gap + counted item) ts → FullFrom long (before_all item ts)
  full_more long item [] from = tt
  full_more long item (t ∷ []) from = tt
  full_more long item (t ∷ u ∷ ts) from = (rw longer-cons from.0, from.1)

  full_first : (item : TrackItem) (ts : List (List TrackItem)) → FullFrom (counted item) ts → AreFull extent gap (before_all item ts)
  full_first item [] from = tt
  full_first item (t ∷ []) from = tt
  full_first item (t ∷ u ∷ ts) from = (rw length-cons from.0, from.1)

  full_next : (long : ℕ) (item : TrackItem) (ts : List (List TrackItem)) → extent < long + gap + counted item → AreFull extent gap (before_all item ts) → FullFrom long ([] ∷ before_all item ts)
  full_next long item [] over rest = (rw longer-cons (omega arith), rest)
  full_next long item (t ∷ ts) over rest = (rw longer-cons (omega arith), rest)

  full_from : (long : ℕ) (items : List TrackItem) → FullFrom long (tracks_from true extent gap long items)
  full_from long [] = tt
  full_from long (item ∷ items) = elim (cases_Bool (is_fit true extent (long + gap + counted item))) [
    | inl fits ↦ rw fits (full_more long item (tracks_from true extent gap (long + gap + counted item) items) (full_from (long + gap + counted item) items))
    | inr over ↦
        let rest = full_first item (tracks_from true extent gap (counted item) items) (full_from (counted item) items) in
        rw over (full_next long item (tracks_from true extent gap (counted item) items) (grind (arith, nat_tests, over)) rest)
  ]

  full_all : (items : List TrackItem) → AreFull extent gap (tracks true extent gap items)
  full_all [] = tt
  full_all (item ∷ items) = full_first item (tracks_from true extent gap (counted item) items) (full_from (counted item) items)

pub tracks_fit : TracksFit
tracks_fit extent gap items = fit_all extent gap items

pub tracks_are_full : TracksAreFull
tracks_are_full extent gap items = full_all extent gap items
