-- Where things stand in a line, and across it.
use Rattle.std.proofs.Common.{ap, ◌≡◌, ◌∙◌, ℕ, ◌+◌, ◌-◌, ◌*◌, ◌<◌, ◌≤◌, zero, suc, max, List, [], ◌∷◌, length, get_or, map, fold, inl, inr, arith}
use Rattle.std.specs.Prelude.{◌==◌}
use Rattle.std.proofs.lemmas.Bool.{cases_Bool}
use Rattle.std.proofs.lemmas.Int.{ints}
use Rattle.std.proofs.lemmas.List.{get_or-map, length-map}
use Rattle.std.proofs.lemmas.List.Sums.{sum_by_more, sum_by_more_le}
use Rattle.std.proofs.Math.Nat.{mul-le-mul_left, div-le_self}
use Rattle.gui_base.specs.declared.words.Placing.{Placing}
use Rattle.gui_base.specs.declared.words.Placing.TheVariants.{Start, End, Center, SpaceEvenly, SpaceAround, SpaceBetween}
use Rattle.layout_defs.specs.Flex.{TrackItem, Spot, main_of, cross_of, numbered, spread, spanned, left_over, thickness, across, item_spot}
use Rattle.layout_defs.specs.FlexLaws.{NeighboursApart, ItemsApart, TracksApart, LinesFit, ItemsInTracks}
use Rattle.layout_defs.proofs.Shares.{part_mono, part_within}

-- no thing is spread less than the one before it
pub spread_mono : (placing : Placing) (free i n : ℕ) → i + 1 < n → spread placing free i n ≤ spread placing free (i + 1) n
spread_mono Start free i n h = omega arith
spread_mono End free i n h = omega arith
spread_mono Center free i n h = omega arith
spread_mono SpaceEvenly free i n h = part_mono free (i + 1) (i + 1 + 1) (n + 1) (omega arith) (omega arith)
spread_mono SpaceAround free i n h = part_mono free (2 * i + 1) (2 * (i + 1) + 1) (2 * n) (omega arith) (omega arith)
spread_mono SpaceBetween free i n h = elim (cases_Bool (n == 1)) [
  | inl one ↦ rw one (omega arith)
  | inr more ↦ rw more (part_mono free i (i + 1) (n - 1) (omega arith) (omega arith))
]

-- nor more than all that is free
pub spread_within : (placing : Placing) (free i n : ℕ) → i < n → spread placing free i n ≤ free
spread_within Start free i n h = omega arith
spread_within End free i n h = omega arith
spread_within Center free i n h = div-le_self free 2
spread_within SpaceEvenly free i n h = part_within free (i + 1) (n + 1) (omega arith)
spread_within SpaceAround free i n h = part_within free (2 * i + 1) (2 * n) (omega arith)
spread_within SpaceBetween free i n h = elim (cases_Bool (n == 1)) [
  | inl one ↦ rw one (omega arith)
  | inr more ↦ rw more (part_within free i (n - 1) (omega arith))
]

pub neighbours_apart : NeighboursApart
neighbours_apart placing free gap sizes i h =
    let far = spread_mono placing free i (length sizes) h in
    let here : i < length sizes = omega arith in
    let next = sum_by_more (λ (n : ℕ). n) sizes i 0 here in
    omega (arith, far, next)

get_or-numbered : {A B : Type 0} (f : ℕ → A → B) (n : ℕ) (xs : List A) (i : ℕ) (d : B) (e : A) → i < length xs → get_or (numbered f n xs) i d ≡ f (n + i) (get_or xs i e)
get_or-numbered f n [] i d e h = absurd (omega arith)
get_or-numbered f n (x ∷ xs) zero d e h = ap (λ k. f k x) (omega arith)
get_or-numbered f n (x ∷ xs) (suc i) d e h = get_or-numbered f (n + 1) xs i d e (omega arith) ∙ ap (λ k. f k (get_or xs i e)) (omega arith)

pub items_apart : ItemsApart
items_apart placings extent gap at track i item spot h =
    let f = item_spot placings extent gap at track in
    let sizes = map main_of track in
    let long : length sizes ≡ length track = length-map track main_of in
    let apart = neighbours_apart placings.main (left_over extent gap track) gap sizes i (omega arith) in
    let size : get_or sizes i 0 ≡ (get_or track i item).main = get_or-map main_of track i item 0 (omega arith) in
    let first : 0 + i ≡ i = omega arith in
    let second : 0 + (i + 1) ≡ i + 1 = omega arith in
    let here = ap (λ (s : Spot). s.main_at) (get_or-numbered f 0 track i spot item (omega arith) ∙ ap (λ k. f k (get_or track i item)) first) in
    let next = ap (λ (s : Spot). s.main_at) (get_or-numbered f 0 track (i + 1) spot item h ∙ ap (λ k. f k (get_or track (i + 1) item)) second) in
    rw (here, next) (omega (arith, ints, apart, size))

pub tracks_apart : TracksApart
tracks_apart placing extent gap all t h =
    let sizes = map thickness all in
    let long : length sizes ≡ length all = length-map all thickness in
    let apart = neighbours_apart placing (extent - spanned gap sizes) gap sizes t (omega arith) in
    let size : get_or sizes t 0 ≡ thickness (get_or all t []) = get_or-map thickness all t [] 0 (omega arith) in
    omega (arith, apart, size)

pub lines_fit : LinesFit
lines_fit placing extent gap sizes i fit h =
    let far = spread_within placing (extent - spanned gap sizes) i (length sizes) h in
    let upto = sum_by_more_le (λ (n : ℕ). n) sizes i 0 h in
    let last : i ≤ length sizes - 1 = omega arith in
    let gaps : gap * i ≤ gap * (length sizes - 1) = mul-le-mul_left gap last in
    omega (arith, far, upto, gaps, fit)

-- Across the flow.
start-le-fold : (a : ℕ) (xs : List ℕ) → a ≤ fold max a xs
start-le-fold a [] = omega arith
start-le-fold a (x ∷ xs) = let l = start-le-fold (max a x) xs in omega arith

pub get_or-le-fold : (a : ℕ) (xs : List ℕ) (i d : ℕ) → i < length xs → get_or xs i d ≤ fold max a xs
get_or-le-fold a [] i d h = absurd (omega arith)
get_or-le-fold a (x ∷ xs) zero d h = let l = start-le-fold (max a x) xs in omega arith
get_or-le-fold a (x ∷ xs) (suc i) d h = get_or-le-fold (max a x) xs i d (omega arith)

pub cross_within : (track : List TrackItem) (i : ℕ) (d : TrackItem) → i < length track → (get_or track i d).cross ≤ thickness track
cross_within track i d h =
    let short : i < length (map cross_of track) = omega (arith, length-map track cross_of) in
    let most = get_or-le-fold 0 (map cross_of track) i 0 short in
    let there : get_or (map cross_of track) i 0 ≡ (get_or track i d).cross = get_or-map cross_of track i d 0 h in
    omega arith

pub across_within : (placing : Placing) (room : ℕ) → across placing room ≤ room
across_within Start room = omega arith
across_within End room = omega arith
across_within Center room = div-le_self room 2
across_within SpaceEvenly room = omega arith
across_within SpaceAround room = omega arith
across_within SpaceBetween room = omega arith

pub items_in_tracks : ItemsInTracks
items_in_tracks placing track i d h =
    let within = across_within placing (thickness track - (get_or track i d).cross) in
    let most = cross_within track i d h in
    omega (arith, within, most)
