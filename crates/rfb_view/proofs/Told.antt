-- What is known after the pixels of a block were sent.
use Rattle.std.proofs.Common.{◌≡◌, ◌⊎◌, ◌-◌, ◌∙◌, sym, ap, refl, inl, inr, ℕ, ◌+◌, ◌*◌, ◌/◌, ◌%◌, ◌<◌, ◌≤◌, Bool, true, false, ◌&&◌, nat_le, nat_lt, if◌then◌else◌, List, length, map, set, get_or, Option, option_map, Some, None, arith}
use Rattle.std.specs.List.{range_with_len}
use Rattle.std.proofs.lemmas.Bool.{cases_lt, cases_eq}
use Rattle.std.proofs.lemmas.Bool.Decides.{nat_tests}
use Rattle.std.proofs.lemmas.List.{same_lists, get_or_default, get_or-set_same, get_or-set_other, length-set, map-set}
use Rattle.std.proofs.lemmas.List.FromFn.{get_or-map-range_with_len, length-map-range_with_len}
use Rattle.std.proofs.lemmas.Nat.{div-add-mod'}
use Rattle.gui_base.specs.declared.color.Rgb565.{Rgb565}
use Rattle.gui_base.specs.Area.{Rect}
use Rattle.gui_base.specs.Color.{black}
use Rattle.session_defs.specs.Formats.{number}
use Rattle.session_defs.specs.declared.Format.{Format}
use Rattle.session_defs.specs.Updates.{Sight, has_pixel, known_at, number_at, with_area}
use Rattle.rfb_view.specs.Sights.{with_run}
use Rattle.rfb_view.proofs.Lines.{block, has_at, has_in, out_left, out_right, out_up, out_down}

-- a list of what is known, by its elements
same_known : (f : ℕ → Option ℕ) (xs : List (Option ℕ)) → ((i : ℕ) → i < length xs → f i ≡ known_at xs i) → map f (range_with_len 0 (length xs)) ≡ xs
same_known f xs h =
    same_lists _ _ (length-map-range_with_len f 0 (length xs)) (λ i d lt. at i d (sub lt))
  where
    sub : {i : ℕ} → i < length (map f (range_with_len 0 (length xs))) → i < length xs
    sub {i} lt = omega (arith, length-map-range_with_len f 0 (length xs))

    at : (i : ℕ) (d : Option ℕ) → i < length xs → get_or (map f (range_with_len 0 (length xs))) i d ≡ get_or xs i d
    at i d lt = get_or-map-range_with_len f 0 (length xs) i i d lt (omega arith) ∙ h i lt ∙ get_or_default xs i None d lt

-- nothing was sent yet
pub run_none : (from : ℕ) (numbers : ℕ → ℕ) (known : List (Option ℕ)) → with_run from 0 numbers known ≡ known
run_none from numbers known = same_known _ known (λ i lt. at i)
  where
    at : (i : ℕ) → (if nat_le from i && nat_lt i (from + 0) then Some (numbers i) else known_at known i) ≡ known_at known i
    at i = let no : (nat_le from i && nat_lt i (from + 0)) ≡ false = grind (arith, nat_tests) in rw no refl

-- what is known of a pixel where those of a test get numbers
abbrev told_in : (ℕ → Bool) → (ℕ → ℕ) → List (Option ℕ) → ℕ → Option ℕ
told_in test numbers known k = if test k then Some (numbers k) else known_at known k

abbrev in_run : ℕ → ℕ → ℕ → Bool
in_run from n k = nat_le from k && nat_lt k (from + n)

-- one pixel more
pub run_more : (from n i : ℕ) (numbers : ℕ → ℕ) (known : List (Option ℕ)) → i ≡ from + n → i < length known → set (with_run from n numbers known) i (Some (numbers i)) ≡ with_run from (n + 1) numbers known
run_more from n i numbers known e lt =
    same_lists _ _ (length-set _ _ _ ∙ length-map-range_with_len _ 0 (length known) ∙ sym (length-map-range_with_len _ 0 (length known)))
    (λ k d h. at k d (sub k h))
  where
    sub : (k : ℕ) → k < length (set (with_run from n numbers known) i (Some (numbers i))) → k < length known
    sub k h = omega (arith, length-set (with_run from n numbers known) i (Some (numbers i)), length-map-range_with_len (told_in (in_run from n) numbers known) 0 (length known))

    there : i < length (map (told_in (in_run from n) numbers known) (range_with_len 0 (length known)))
    there = omega (arith, length-map-range_with_len (told_in (in_run from n) numbers known) 0 (length known))

    at : (k : ℕ) (d : Option ℕ) → k < length known → get_or (set (with_run from n numbers known) i (Some (numbers i))) k d ≡ get_or (with_run from (n + 1) numbers known) k d
    at k d h = elim (cases_eq k i) [
      | inl is ↦
          let yes : (nat_le from k && nat_lt k (from + (n + 1))) ≡ true = grind (arith, nat_tests) in
          let value : told_in (in_run from (n + 1)) numbers known k ≡ Some (numbers i) = rw yes (ap (λ (j : ℕ). Some (numbers j)) is) in
          ap (λ (j : ℕ). get_or (set (with_run from n numbers known) i (Some (numbers i))) j d) is
          ∙ get_or-set_same (with_run from n numbers known) i (Some (numbers i)) d there
          ∙ sym value ∙ sym (get_or-map-range_with_len (told_in (in_run from (n + 1)) numbers known) 0 (length known) k k d h (omega arith))
      | inr isnt ↦
          let same : (nat_le from k && nat_lt k (from + n)) ≡ (nat_le from k && nat_lt k (from + (n + 1))) = grind (arith, nat_tests) in
          let value : told_in (in_run from n) numbers known k ≡ told_in (in_run from (n + 1)) numbers known k = ap (λ (b : Bool). if b then Some (numbers k) else known_at known k) same in
          get_or-set_other (with_run from n numbers known) i k (Some (numbers i)) d isnt
          ∙ get_or-map-range_with_len (told_in (in_run from n) numbers known) 0 (length known) k k d h (omega arith) ∙ value
          ∙ sym (get_or-map-range_with_len (told_in (in_run from (n + 1)) numbers known) 0 (length known) k k d h (omega arith))
    ]

module _ (width l t c : ℕ) (numbers : ℕ → ℕ) where
  -- a block without a line has no pixel
  pub area_none : (known : List (Option ℕ)) → with_area width (block l t c 0) numbers known ≡ known
  area_none known = same_known _ known (λ i lt. at i)
    where
      at : (i : ℕ) → (if has_pixel width (block l t c 0) i then Some (numbers i) else known_at known i) ≡ known_at known i
      at i = let none : has_pixel width (block l t c 0) i ≡ false = elim (cases_lt (i / width) t) [
        | inl up ↦ out_up l t c 0 (i % width) (i / width) up
        | inr down ↦ out_down l t c 0 (i % width) (i / width) (omega arith)
      ] in rw none refl

  abbrev first : ℕ → ℕ
  first y = (t + y) * width + l

  -- a pixel of a line of it
  inside : (y i : ℕ) → l + c ≤ width → first y ≤ i → i < first y + c → has_pixel width (block l t c (y + 1)) i ≡ true
  inside y i wide low high =
      let k : i ≡ (t + y) * width + (l + (i - first y)) = omega arith in
      has_at width (block l t c (y + 1)) (t + y) (l + (i - first y)) i (omega arith) k
      ∙ has_in l t c (y + 1) (l + (i - first y)) (t + y) (omega arith) (omega arith) (omega arith) (omega arith)

  -- other pixels are in it as they were
  elsewhere : (y i : ℕ) → ((i < first y) ⊎ (first y + c ≤ i)) → has_pixel width (block l t c (y + 1)) i ≡ has_pixel width (block l t c y) i
  elsewhere y i out = elim (cases_lt (i % width) l) [
    | inl left ↦ out_left l t c (y + 1) (i % width) (i / width) left ∙ sym (out_left l t c y (i % width) (i / width) left)
    | inr right ↦ elim (cases_lt (i % width) (l + c)) [
      | inr after ↦ out_right l t c (y + 1) (i % width) (i / width) after ∙ sym (out_right l t c y (i % width) (i / width) after)
      | inl within ↦ elim (cases_lt (i / width) t) [
        | inl up ↦ out_up l t c (y + 1) (i % width) (i / width) up ∙ sym (out_up l t c y (i % width) (i / width) up)
        | inr down ↦ elim (cases_lt (i / width) (t + y)) [
          | inl above ↦
              has_in l t c (y + 1) (i % width) (i / width) right within down (omega arith) ∙ sym (has_in l t c y (i % width) (i / width) right within down above)
          | inr below ↦
              let past : t + (y + 1) ≤ i / width = beyond y i out right within below in
              out_down l t c (y + 1) (i % width) (i / width) past ∙ sym (out_down l t c y (i % width) (i / width) below)
        ]
      ]
    ]
  ]
    where
      beyond : (y i : ℕ) → ((i < first y) ⊎ (first y + c ≤ i)) → l ≤ i % width → i % width < l + c → t + y ≤ i / width → t + (y + 1) ≤ i / width
      beyond y i out right within below = elim (cases_eq (i / width) (t + y)) [
        | inr isnt ↦ omega arith
        | inl is ↦
            let whole : i ≡ (t + y) * width + i % width = sym (div-add-mod' i width) ∙ ap (λ (k : ℕ). k * width + i % width) is in
            absurd (elim out [ inl before ↦ omega arith | inr after ↦ omega arith ])
      ]

  -- the pixels of a block with a line more are those of the block and those of the line
  has_more : (y i : ℕ) → l + c ≤ width → has_pixel width (block l t c (y + 1)) i ≡ (if nat_le (first y) i && nat_lt i (first y + c) then true else has_pixel width (block l t c y) i)
  has_more y i wide = elim (cases_lt i (first y)) [
    | inl before ↦
        let no : (nat_le (first y) i && nat_lt i (first y + c)) ≡ false = grind (arith, nat_tests) in
        rw no (elsewhere y i (inl before))
    | inr low ↦ elim (cases_lt i (first y + c)) [
      | inl high ↦
          let yes : (nat_le (first y) i && nat_lt i (first y + c)) ≡ true = grind (arith, nat_tests) in
          rw yes (inside y i wide low high)
      | inr after ↦
          let no : (nat_le (first y) i && nat_lt i (first y + c)) ≡ false = grind (arith, nat_tests) in
          rw no (elsewhere y i (inr after))
    ]
  ]

  -- a line more was sent
  pub area_more : (y : ℕ) (known : List (Option ℕ)) → l + c ≤ width → with_run (first y) c numbers (with_area width (block l t c y) numbers known) ≡ with_area width (block l t c (y + 1)) numbers known
  area_more y known wide =
      same_lists _ _ (length-map-range_with_len _ 0 _ ∙ length-map-range_with_len _ 0 (length known) ∙ sym (length-map-range_with_len _ 0 (length known)))
      (λ i d h. at i d (sub i h))
    where
      sub : (i : ℕ) → i < length (map (told_in (in_run (first y) c) numbers (map (told_in (has_pixel width (block l t c y)) numbers known) (range_with_len 0 (length known)))) (range_with_len 0 (length (map (told_in (has_pixel width (block l t c y)) numbers known) (range_with_len 0 (length known)))))) → i < length known
      sub i h = omega (arith, length-map-range_with_len (told_in (in_run (first y) c) numbers (map (told_in (has_pixel width (block l t c y)) numbers known) (range_with_len 0 (length known)))) 0 (length (map (told_in (has_pixel width (block l t c y)) numbers known) (range_with_len 0 (length known)))), length-map-range_with_len (told_in (has_pixel width (block l t c y)) numbers known) 0 (length known))

      pick : (b h : Bool) (x : ℕ) (o k : Option ℕ) → o ≡ (if h then Some x else k) → (if b then Some x else o) ≡ (if (if b then true else h) then Some x else k)
      pick true h x o k e = refl
      pick false h x o k e = e

      at : (i : ℕ) (d : Option ℕ) → i < length known → get_or (map (told_in (in_run (first y) c) numbers (map (told_in (has_pixel width (block l t c y)) numbers known) (range_with_len 0 (length known)))) (range_with_len 0 (length (map (told_in (has_pixel width (block l t c y)) numbers known) (range_with_len 0 (length known)))))) i d ≡ get_or (map (told_in (has_pixel width (block l t c (y + 1))) numbers known) (range_with_len 0 (length known))) i d
      at i d h =
          let long : i < length (map (told_in (has_pixel width (block l t c y)) numbers known) (range_with_len 0 (length known))) = omega (arith, length-map-range_with_len (told_in (has_pixel width (block l t c y)) numbers known) 0 (length known)) in
          get_or-map-range_with_len (told_in (in_run (first y) c) numbers (map (told_in (has_pixel width (block l t c y)) numbers known) (range_with_len 0 (length known)))) 0 _ i i d long (omega arith)
          ∙ pick (nat_le (first y) i && nat_lt i (first y + c)) (has_pixel width (block l t c y) i) (numbers i) _ (known_at known i) (get_or-map-range_with_len (told_in (has_pixel width (block l t c y)) numbers known) 0 (length known) i i None h (omega arith))
          ∙ ap (λ (b : Bool). if b then Some (numbers i) else known_at known i) (sym (has_more y i wide))
          ∙ sym (get_or-map-range_with_len (told_in (has_pixel width (block l t c (y + 1))) numbers known) 0 (length known) i i d h (omega arith))

-- the same sight where this is known
pub sent_as : (sight : Sight) (known : List (Option ℕ)) → sight.sent ≡ known → sight ≡ (let other : Sight = record sight { sent = known } in other)
sent_as sight known e = rw (← e) refl

-- A line of code by line.

pub run_init : (f : Format) (items : List (Option Rgb565)) (first : ℕ) (colors : List Rgb565) (sight : Sight) → f ≡ sight.format → map (option_map (number f)) items ≡ sight.sent →
    map (option_map (number sight.format)) items ≡ with_run first (first - first) (number_at sight.format colors) sight.sent
run_init f items first colors sight e h =
    let none : 0 ≡ first - first = omega arith in
    ap (λ (g : Format). map (option_map (number g)) items) (sym e) ∙ h
    ∙ sym (run_none first (number_at sight.format colors) sight.sent)
    ∙ ap (λ (n : ℕ). with_run first n (number_at sight.format colors) sight.sent) none

pub run_step : (f : Format) (items : List (Option Rgb565)) (first i : ℕ) (colors : List Rgb565) (known : List (Option ℕ)) → first ≤ i → i < length known →
    map (option_map (number f)) items ≡ with_run first (i - first) (number_at f colors) known →
    map (option_map (number f)) (set items i (Some (get_or colors i black))) ≡ with_run first ((i + 1) - first) (number_at f colors) known
run_step f items first i colors known low lt h =
    let on : i ≡ first + (i - first) = omega arith in
    let next : (i - first) + 1 ≡ (i + 1) - first = omega arith in
    map-set (option_map (number f)) items i (Some (get_or colors i black))
    ∙ ap (λ (l : List (Option ℕ)). set l i (Some (number_at f colors i))) h
    ∙ run_more first (i - first) i (number_at f colors) known on lt
    ∙ ap (λ (n : ℕ). with_run first n (number_at f colors) known) next

-- a sight by its parts
pub parts_are : (f g : Format) (a b : List (Option ℕ)) (r q : Option Rect) → f ≡ g → a ≡ b → r ≡ q → (let one : Sight = record { format = f; sent = a; request = r } in one) ≡ record { format = g; sent = b; request = q }
parts_are f g a b r q e h k = rw (e, h, k) refl
