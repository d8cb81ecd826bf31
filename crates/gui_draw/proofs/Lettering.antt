-- The glyphs of the built-in font.
use Rattle.gui_draw.proofs.Common.{pos, negsuc, ◌≡◌, ◌∙◌, refl, ap, ℕ, zero, suc, ◌+◌, ◌-◌, ◌*◌, ◌/◌, ◌%◌, ◌^◌, ◌<◌, eqb, ltb, Bool, true, false, ◌&&◌, if◌then◌else◌, List, [], ◌∷◌, length, get_or, slice_range, Some, None, arith, ℤ, ◌-ℤ◌, ints, nat_tests, Rgb565, Rect, has, Buffer, only, within, plain, Draws, cell_at, glyph_from, glyph_at}
use Rattle.gui_draw.proofs.Steps.{draws_none, draws_same}
use Rattle.std.proofs.lemmas.List.{drop_more}
use Rattle.text_defs.specs.declared.built_in.TheConstants.{HEIGHT}
use Rattle.text_defs.specs.Bits.{bit, bit_of}
use Rattle.text_defs.specs.BuiltIn.{built_in, has_built_in, dot_in, column_of}
use Rattle.text_defs.specs.Fonts.{dot_at, row_at}
use Rattle.text_defs.specs.Ink.{in_cell}
use Rattle.gui_draw.specs.Letters.{dot_of, row_of, letter_rows}
use Rattle.gui_draw.specs.declared.letters.TheConstants.{LETTER_BOX}
use Rattle.gui_draw.proofs.Running.{empty_coat}

module _ (a b c d e : ℕ) (ha : a < 2) (hb : b < 2) (hc : c < 2) (hd : d < 2) (he : e < 2) where
  at_0 : (a * 128 + b * 64 + c * 32 + d * 16 + e * 8) / 128 % 2 ≡ a
  at_0 = omega arith

  at_1 : (a * 128 + b * 64 + c * 32 + d * 16 + e * 8) / 64 % 2 ≡ b
  at_1 = omega arith

  at_2 : (a * 128 + b * 64 + c * 32 + d * 16 + e * 8) / 32 % 2 ≡ c
  at_2 = omega arith

  at_3 : (a * 128 + b * 64 + c * 32 + d * 16 + e * 8) / 16 % 2 ≡ d
  at_3 = omega arith

  at_4 : (a * 128 + b * 64 + c * 32 + d * 16 + e * 8) / 8 % 2 ≡ e
  at_4 = omega arith

small : (n : ℕ) → n % 2 < 2
small n = omega arith

module _ (code y : ℕ) where
  dot_small : (x : ℕ) → dot_of code x y < 2
  dot_small x = small (column_of code x / 2 ^ y)

  row_bit : (x : ℕ) → x < 5 → row_of code y / 2 ^ (7 - x) % 2 ≡ dot_of code x y
  unfolding row_of
  row_bit zero h = at_0 (dot_of code 0 y) (dot_of code 1 y) (dot_of code 2 y) (dot_of code 3 y) (dot_of code 4 y) (dot_small 0) (dot_small 1) (dot_small 2) (dot_small 3) (dot_small 4)
  row_bit (suc zero) h = at_1 (dot_of code 0 y) (dot_of code 1 y) (dot_of code 2 y) (dot_of code 3 y) (dot_of code 4 y) (dot_small 0) (dot_small 1) (dot_small 2) (dot_small 3) (dot_small 4)
  row_bit (suc (suc zero)) h = at_2 (dot_of code 0 y) (dot_of code 1 y) (dot_of code 2 y) (dot_of code 3 y) (dot_of code 4 y) (dot_small 0) (dot_small 1) (dot_small 2) (dot_small 3) (dot_small 4)
  row_bit (suc (suc (suc zero))) h = at_3 (dot_of code 0 y) (dot_of code 1 y) (dot_of code 2 y) (dot_of code 3 y) (dot_of code 4 y) (dot_small 0) (dot_small 1) (dot_small 2) (dot_small 3) (dot_small 4)
  row_bit (suc (suc (suc (suc zero)))) h = at_4 (dot_of code 0 y) (dot_of code 1 y) (dot_of code 2 y) (dot_of code 3 y) (dot_of code 4 y) (dot_small 0) (dot_small 1) (dot_small 2) (dot_small 3) (dot_small 4)
  row_bit (suc (suc (suc (suc (suc n))))) h = absurd (omega arith)

  bit_in_row : (x : ℕ) → x < 5 → bit_of (row_of code y ∷ []) x ≡ bit (column_of code x) y
  unfolding bit_of
  bit_in_row x h =
      let first : x / 8 ≡ 0 = omega arith in
      let place : x % 8 ≡ x = omega arith in
      rw (first, place) (ap (λ (n : ℕ). eqb n 1) (row_bit x h))

one_row : (rows : List ℕ) (y : ℕ) → y < length rows → slice_range rows (y * 1) (y * 1 + 1) ≡ get_or rows y 0 ∷ []
one_row rows y h =
    let a : y * 1 ≡ y = omega arith in
    let b : y + 1 - y ≡ 1 = omega arith in
    rw (a, b, drop_more rows y 0 h) refl

both_same : (a b p q : Bool) → (a ≡ true → b ≡ true → p ≡ q) → ((a && b) && p) ≡ ((a && b) && q)
both_same true true p q h = h refl refl
both_same true false p q h = refl
both_same false b p q h = refl

-- the glyph of a character of the built-in font has the rows of its bits
module _ (code : ℕ) (rows : List ℕ) (is : rows ≡ letter_rows code) (there : has_built_in code ≡ true) where
  long : length rows ≡ 7
  long = rw is refl

  each : (y : ℕ) → y < 7 → get_or rows y 0 ≡ row_of code y
  each y h = rw is (at y h) where
    at : (y : ℕ) → y < 7 → get_or (letter_rows code) y 0 ≡ row_of code y
    at zero h = refl
    at (suc zero) h = refl
    at (suc (suc zero)) h = refl
    at (suc (suc (suc zero))) h = refl
    at (suc (suc (suc (suc zero)))) h = refl
    at (suc (suc (suc (suc (suc zero))))) h = refl
    at (suc (suc (suc (suc (suc (suc zero)))))) h = refl
    at (suc (suc (suc (suc (suc (suc (suc n))))))) h = absurd (omega arith)

  dot_in_row : (x y : ℕ) → x < 5 → y < 7 → bit_of (row_at (glyph_from LETTER_BOX rows) y) x ≡ bit (column_of code x) y
  dot_in_row x y p q =
      ap (λ (row : List ℕ). bit_of row x) (one_row rows y (let l = long in omega (arith, l)) ∙ ap (λ (n : ℕ). n ∷ []) (each y q)) ∙ bit_in_row code y x p

  dot_is : (x y : ℤ) → dot_at (glyph_from LETTER_BOX rows) x y ≡ dot_in code x y
  dot_is (pos x) (pos y) =
      rw there (both_same (ltb x 5) (ltb y 7) _ _ (λ p q. dot_in_row x y (grind (arith, nat_tests)) (grind (arith, nat_tests))))
  dot_is (pos x) (negsuc y) = refl
  dot_is (negsuc x) y = refl

  letter_dot : (x y : ℤ) → dot_at (glyph_from LETTER_BOX rows) (x -ℤ pos 0) (y -ℤ pos 0) ≡ dot_in code x y
  letter_dot x y =
      let a : x -ℤ pos 0 ≡ x = omega (arith, ints) in
      let b : y -ℤ pos 0 ≡ y = omega (arith, ints) in
      rw (a, b) (dot_is x y)

  pub letter_drawn : (old new : Buffer) (part : Rect) (left top : ℤ) (color : Rgb565) (opa from to : ℕ) →
      Draws old new from to (within part (only (glyph_at HEIGHT LETTER_BOX rows left top) (plain color opa))) →
      Draws old new from to (within part (only (cell_at built_in code left top) (plain color opa)))
  letter_drawn old new part left top color opa from to h =
      draws_same old new from to _ _ (λ x y i.
      ap (λ (t : Bool). if has part x y then (if (in_cell HEIGHT (built_in.cell code) (x -ℤ left) (y -ℤ top) && t) then Some (record { color = color; opa = opa }) else None) else None)
      (letter_dot (x -ℤ left) (y -ℤ top))) h

no_dot : (code : ℕ) → has_built_in code ≡ false → (x y : ℤ) → dot_in code x y ≡ false
no_dot code none (pos x) (pos y) = rw none refl
no_dot code none (pos x) (negsuc y) = refl
no_dot code none (negsuc x) y = refl

pub letter_none : (buf : Buffer) (part : Rect) (code : ℕ) (left top : ℤ) (color : Rgb565) (opa steps : ℕ) → has_built_in code ≡ false →
    Draws buf buf steps steps (within part (only (cell_at built_in code left top) (plain color opa)))
letter_none buf part code left top color opa steps none =
    draws_none buf steps _ (λ x y i.
    empty_coat (has part x y) (in_cell HEIGHT (built_in.cell code) (x -ℤ left) (y -ℤ top)) (dot_in code (x -ℤ left) (y -ℤ top)) (record { color = color; opa = opa }) (no_dot code none (x -ℤ left) (y -ℤ top)))
