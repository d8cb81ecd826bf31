-- What a loop over a row leaves.
use Rattle.std.proofs.Common.{◌≡◌, List, [], ◌∷◌, map, refl, ap, ◌∙◌, sym, ℕ, ◌<◌, ◌≤◌, ◌+◌, ◌-◌, ◌*◌, ◌/◌, length, take, drop, ◌++◌, slice_index_or, arith, inl, inr}
use Rattle.std.proofs.lemmas.Bool.{cases_lt}
use Rattle.std.proofs.lemmas.List.{ext_get_or, get_or-append_right, get_or-drop, get_or-map, get_or-take, get_or_append_left, length-map, length-take-le}
use Rattle.gui_base.specs.Color.{black}
use Rattle.gui_base.specs.declared.color.Rgb565.{Rgb565}
use Rattle.gui_color.specs.Ends.{HasEnds}

-- maps that agree on each colour
pub same_map : (f g : Rgb565 → Rgb565) → ((c : Rgb565) → f c ≡ g c) → (xs : List Rgb565) → map f xs ≡ map g xs
same_map f g h [] = refl
same_map f g h (x ∷ xs) = ap (λ y. y ∷ map f xs) (h x) ∙ ap (λ ys. g x ∷ ys) (same_map f g h xs)

pub map_self : (f : Rgb565 → Rgb565) → ((c : Rgb565) → f c ≡ c) → (xs : List Rgb565) → map f xs ≡ xs
map_self f h [] = refl
map_self f h (x ∷ xs) = ap (λ y. y ∷ map f xs) (h x) ∙ ap (λ ys. x ∷ ys) (map_self f h xs)

-- what becomes of each pixel of a row whose last group is mixed from what the row was, and written over what whole groups have become
pub last_mixed : (change : ℕ → Rgb565 → Rgb565) (old mid group : List Rgb565) → 8 ≤ length old → length mid ≡ length old → length group ≡ 8
    → ((k : ℕ) → k < length old / 8 * 8 → slice_index_or mid k black ≡ change k (slice_index_or old k black))
    → ((k : ℕ) → k < 8 → slice_index_or group k black ≡ change (length old - 8 + k) (slice_index_or (drop (length old - 8) old) k black))
    → (k : ℕ) → k < length old → slice_index_or (take (length mid - 8) mid ++ group) k black ≡ change k (slice_index_or old k black)
last_mixed change old mid group some same eight groups last k h =
    let cut : ℕ = length mid - 8 in
    let short : length (take cut mid) ≡ cut = length-take-le cut mid (omega arith) in
    elim (cases_lt k cut) [
      | inl below ↦
          get_or_append_left (take cut mid) group black k (omega (arith, short))
          ∙ (get_or-take cut mid k black below ∙ groups k (omega arith))
      | inr above ↦
          let at : cut + (k - cut) ≡ k = omega arith in
          let from : cut ≡ length old - 8 = omega (arith, same) in
          get_or-append_right (take cut mid) group cut k black short above
          ∙ (last (k - cut) (omega arith)
          ∙ (ap (change (length old - 8 + (k - cut))) (get_or-drop (length old - 8) old (k - cut) black)
          ∙ rw (← from, at) refl))
    ]

-- and of each pixel of a row of four to eight, whose ends are changed as one group
pub ends_mixed : (change : ℕ → Rgb565 → Rgb565) (old was group new : List Rgb565) → length old ≤ 8 → HasEnds old was
    → ((k : ℕ) → k < 4 → slice_index_or group k black ≡ change k (slice_index_or was k black))
    → ((k : ℕ) → k < 4 → slice_index_or group (4 + k) black ≡ change (length old - 4 + k) (slice_index_or was (4 + k) black))
    → ((k : ℕ) → k < 4 → k + 4 < length old → slice_index_or new k black ≡ slice_index_or group k black)
    → ((k : ℕ) → k < 4 → slice_index_or new (length old - 4 + k) black ≡ slice_index_or group (4 + k) black)
    → 4 ≤ length old → (k : ℕ) → k < length old → slice_index_or new k black ≡ change k (slice_index_or old k black)
ends_mixed change old was group new short ends first last front back some k h = elim (cases_lt (k + 4) (length old)) [
  | inl below ↦
      let near : k < 4 = omega arith in
      front k near below ∙ (first k near ∙ ap (change k) (ends k near).0)
  | inr above ↦
      let j : ℕ = k - (length old - 4) in
      let near : j < 4 = omega arith in
      let at : length old - 4 + j ≡ k = omega arith in
      ap (λ (i : ℕ). slice_index_or new i black) (sym at)
      ∙ (back j near ∙ (last j near ∙ (ap (change (length old - 4 + j)) (ends j near).1 ∙ rw at refl)))
]

-- a row whose pixels are those of another, each mapped
pub mapped : (f : Rgb565 → Rgb565) (old new : List Rgb565) → length new ≡ length old
    → ((k : ℕ) → k < length old → slice_index_or new k black ≡ f (slice_index_or old k black)) → new ≡ map f old
mapped f old new same each =
    ext_get_or black new (map f old) (same ∙ sym (length-map old f))
    (λ k h. each k (omega (arith, same)) ∙ sym (get_or-map f old k black black (omega (arith, same))))
