-- The bytes of an update, line by line.
use Rattle.std.proofs.Common.{◌≡◌, ◌∙◌, sym, ap, refl, ℕ, zero, suc, ◌+◌, ◌*◌, ◌-◌, ◌<◌, ◌≤◌, pos, ◌+ℤ◌, ◌-ℤ◌, List, ◌++◌, length, take, drop, drop-cons, append_assoc, append-nil, get_or, flat_map, arith}
use Rattle.std.specs.List.{range_with_len}
use Rattle.std.proofs.lemmas.Grind.{flat_map-append}
use Rattle.std.proofs.lemmas.Int.{ints}
use Rattle.std.proofs.lemmas.Nat.{div-mul-add, mod-mul-add}
use Rattle.gui_base.specs.declared.color.Rgb565.{Rgb565}
use Rattle.gui_base.specs.Area.{nat_of, count_between, size_of}
use Rattle.gui_base.specs.Color.{black}
use Rattle.session_defs.specs.Formats.{number, number_bytes}
use Rattle.session_defs.specs.declared.Format.{Format}
use Rattle.session_defs.specs.Updates.{nth_pixel, number_at, update_head, update}
use Rattle.rfb_view.proofs.Lines.{block, range_split}

-- how many numbers there are from one on
pub many_is : (x n : ℕ) → count_between (pos x) ((pos x +ℤ pos n) -ℤ pos 1) ≡ n
many_is x n = let e : ((((pos x +ℤ pos n) -ℤ pos 1) -ℤ pos x) +ℤ pos 1) ≡ pos n = omega (arith, ints) in ap nat_of e

-- pieces of numbers in a row are those of elements of a list
pieces_are : (f : ℕ → List ℕ) (g : Rgb565 → List ℕ) (colors : List Rgb565) (a p k : ℕ) → ((i : ℕ) → i < k → f (a + i) ≡ g (get_or colors (p + i) black)) → p + k ≤ length colors → flat_map f (range_with_len a k) ≡ flat_map g (take k (drop p colors))
pieces_are f g colors a p zero h fits = refl
pieces_are f g colors a p (suc k) h fits =
    let here : a ≡ a + 0 = omega arith in
    let there : p + 0 ≡ p = omega arith in
    let first : f a ≡ g (get_or colors p black) = ap f here ∙ h 0 (omega arith) ∙ ap (λ (i : ℕ). g (get_or colors i black)) there in
    let rest : flat_map f (range_with_len (a + 1) k) ≡ flat_map g (take k (drop (suc p) colors)) =
    pieces_are f g colors (a + 1) (suc p) k (λ i low. next i low) (omega arith) in
    ap (λ (xs : List ℕ). xs ++ flat_map f (range_with_len (a + 1) k)) first
    ∙ ap (λ (xs : List ℕ). g (get_or colors p black) ++ xs) rest
    ∙ ap (λ (xs : List Rgb565). flat_map g (take (suc k) xs)) (sym (drop-cons colors p black (omega arith)))
  where
    next : (i : ℕ) → i < k → f ((a + 1) + i) ≡ g (get_or colors (suc p + i) black)
    next i low =
        let l : (a + 1) + i ≡ a + (i + 1) = omega arith in
        let r : p + (i + 1) ≡ suc p + i = omega arith in
        ap f l ∙ h (i + 1) (omega arith) ∙ ap (λ (j : ℕ). g (get_or colors j black)) r

module _ (width : ℕ) (format : Format) (colors : List Rgb565) (l t c n : ℕ) where
  -- the bytes of the pixel after so many others of the block
  abbrev pixel : ℕ → List ℕ
  pixel k = number_bytes format (number_at format colors (nth_pixel width (block l t c n) k))

  abbrev color : Rgb565 → List ℕ
  color c = number_bytes format (number format c)

  pixel_is : (y k : ℕ) → k < c → pixel (y * c + k) ≡ color (get_or colors (((t + y) * width + l) + k) black)
  pixel_is y k h =
      let place : (t + y) * width + (l + k) ≡ ((t + y) * width + l) + k = omega arith in
      rw (many_is l c, div-mul-add y c k h, mod-mul-add y c k h) (ap (λ (i : ℕ). color (get_or colors i black)) place)

  -- the update up to a line
  abbrev pub sent_to : ℕ → List ℕ
  sent_to y = update_head (block l t c n) ++ flat_map pixel (range_with_len 0 (y * c))

  pub sent_none : update_head (block l t c n) ≡ sent_to 0
  sent_none = let none : 0 * c ≡ 0 = omega arith in sym (append-nil (update_head (block l t c n))) ∙ ap (λ (k : ℕ). update_head (block l t c n) ++ flat_map pixel (range_with_len 0 k)) (sym none)

  more : (y : ℕ) → sent_to y ++ flat_map pixel (range_with_len (y * c) c) ≡ sent_to (y + 1)
  more y =
      let many : (y + 1) * c ≡ y * c + c = omega arith in
      let here : 0 + y * c ≡ y * c = omega arith in
      append_assoc (update_head (block l t c n)) (flat_map pixel (range_with_len 0 (y * c))) (flat_map pixel (range_with_len (y * c) c))
      ∙ ap (λ (xs : List ℕ). update_head (block l t c n) ++ xs)
      (sym (flat_map-append pixel (range_with_len 0 (y * c)) (range_with_len (y * c) c))
      ∙ ap (λ (k : ℕ). flat_map pixel (range_with_len 0 (y * c) ++ range_with_len k c)) (sym here)
      ∙ ap (flat_map pixel) (sym (range_split 0 (y * c) c)) ∙ ap (λ (k : ℕ). flat_map pixel (range_with_len 0 k)) (sym many))

  line_is : (y : ℕ) → y < n → l + c ≤ width → (t + n) * width ≤ length colors → flat_map pixel (range_with_len (y * c) c) ≡ flat_map color (take c (drop ((t + y) * width + l) colors))
  line_is y below wide high = pieces_are pixel color colors (y * c) ((t + y) * width + l) c (λ k h. pixel_is y k h) (fits y below wide high)
    where
      fits : (y : ℕ) → y < n → l + c ≤ width → (t + n) * width ≤ length colors → ((t + y) * width + l) + c ≤ length colors
      fits y below wide high =
          let rows : ((t + y) + 1) * width ≤ (t + n) * width = mul_le ((t + y) + 1) (t + n) width (omega arith) in
          let one : ((t + y) + 1) * width ≡ (t + y) * width + width = omega arith in
          omega arith
        where
          mul_le : (a b w : ℕ) → a ≤ b → a * w ≤ b * w
          mul_le a b w h = grind arith

  -- a line more
  pub sent_more : (y : ℕ) → y < n → l + c ≤ width → (t + n) * width ≤ length colors → sent_to y ++ flat_map color (take c (drop ((t + y) * width + l) colors)) ≡ sent_to (y + 1)
  sent_more y below wide high = ap (λ (xs : List ℕ). sent_to y ++ xs) (sym (line_is y below wide high)) ∙ more y

  -- and all lines
  pub sent_all : sent_to n ≡ update width format colors (block l t c n)
  sent_all =
      let many : n * c ≡ size_of (block l t c n) = rw (many_is l c, many_is t n) (omega arith) in
      ap (λ (k : ℕ). update_head (block l t c n) ++ flat_map pixel (range_with_len 0 k)) many

  -- what comes after a line
  abbrev pub sent_after : ℕ → List ℕ
  sent_after y = flat_map pixel (range_with_len (y * c) ((n - y) * c))

  pub sent_rest : (y : ℕ) → y ≤ n → sent_to y ++ sent_after y ≡ update width format colors (block l t c n)
  sent_rest y low =
      let here : 0 + y * c ≡ y * c = omega arith in
      let many : y * c + (n - y) * c ≡ n * c = all y n c low in
      append_assoc (update_head (block l t c n)) (flat_map pixel (range_with_len 0 (y * c))) (sent_after y)
      ∙ ap (λ (xs : List ℕ). update_head (block l t c n) ++ xs)
      (sym (flat_map-append pixel (range_with_len 0 (y * c)) (range_with_len (y * c) ((n - y) * c)))
      ∙ ap (λ (k : ℕ). flat_map pixel (range_with_len 0 (y * c) ++ range_with_len k ((n - y) * c))) (sym here)
      ∙ ap (flat_map pixel) (sym (range_split 0 (y * c) ((n - y) * c))) ∙ ap (λ (k : ℕ). flat_map pixel (range_with_len 0 k)) many)
      ∙ sent_all
    where
      all : (y n c : ℕ) → y ≤ n → y * c + (n - y) * c ≡ n * c
      all y n c h = let k : y + (n - y) ≡ n = omega arith in distribute y (n - y) c ∙ ap (λ (m : ℕ). m * c) k
        where
          distribute : (a b c : ℕ) → a * c + b * c ≡ (a + b) * c
          distribute a b c = omega arith
