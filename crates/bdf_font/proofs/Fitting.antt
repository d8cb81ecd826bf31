-- The numbers of a glyph fit their types.
use Rattle.std.proofs.Common.{◌≡◌, refl, ℕ, ◌<◌, ◌≤◌, true, arith, FitsSigned, w8, w32, w64, to_z, of_z, ◌-ℤ◌}
use Rattle.std.specs.Prelude.{ℤ, pos, neg_ℤ, negsuc, ◌≤ℤ◌, unsigned_abs, Some}
use Rattle.std.proofs.lemmas.Int.{ints, to_z-of_z}
use Rattle.std.proofs.lemmas.Bool.Decides.{nat_tests}
use Rattle.gui_base.specs.Intervals.{is_within}
use Rattle.gui_base.specs.declared.intervals.TheConstants.{GLYPH_OFFSET}
use Rattle.bdf_font.specs.declared.characters.Character.{Character}
use Rattle.bdf_font.specs.Near.{IsNear}
use Rattle.bdf_font.specs.Bdf.{fits, top_of, is_code, glyph_of}

-- the numbers of a character that makes a glyph
pub record Fits (l : Character) : Type 0 where
  pub code : is_code l.code ≡ true
  pub advance_low : pos 0 ≤ℤ l.advance
  pub advance_high : l.advance ≤ℤ pos 64
  pub w_low : pos 0 ≤ℤ l.shape.w
  pub w_high : l.shape.w ≤ℤ pos 32
  pub h_low : pos 0 ≤ℤ l.shape.h
  pub h_high : l.shape.h ≤ℤ pos 64
  pub ox : is_within GLYPH_OFFSET l.shape.x ≡ true
  pub oy : is_within GLYPH_OFFSET (top_of l) ≡ true

pub fits_is : (l : Character) → fits l ≡ true → Fits l
unfolding fits
fits_is l h = record {
  code = grind (arith, ints, nat_tests, h);
  advance_low = grind (arith, ints, nat_tests, h);
  advance_high = grind (arith, ints, nat_tests, h);
  w_low = grind (arith, ints, nat_tests, h);
  w_high = grind (arith, ints, nat_tests, h);
  h_low = grind (arith, ints, nat_tests, h);
  h_high = grind (arith, ints, nat_tests, h);
  ox = grind (arith, ints, nat_tests, h);
  oy = grind (arith, ints, nat_tests, h);
}

pub near_fits : (n : ℤ) → IsNear n → FitsSigned w64 n
near_fits n h = let low = h.low in let high = h.high in grind (arith, ints, low, high)

pub near_apart : (a b : ℤ) → IsNear a → IsNear b → FitsSigned w64 (a -ℤ b)
near_apart a b h k = let low = h.low in let high = h.high in let low_b = k.low in let high_b = k.high in grind (arith, ints, low, high, low_b, high_b)

pub code_range : (n : ℤ) → is_code n ≡ true → (pos 32 ≤ℤ n) × (n ≤ℤ pos 1114111)
code_range n h = (grind (arith, ints, nat_tests, h), grind (arith, ints, nat_tests, h))

pub place_range : (n : ℤ) → is_within GLYPH_OFFSET n ≡ true → (neg_ℤ (pos 64) ≤ℤ n) × (n ≤ℤ pos 64)
place_range n h = (grind (arith, ints, nat_tests, h), grind (arith, ints, nat_tests, h))

wide : (n : ℤ) → neg_ℤ (pos 2000000) ≤ℤ n → n ≤ℤ pos 2000000 → FitsSigned w32 n
wide n low high = grind (arith, ints, low, high)

wider : (n : ℤ) → neg_ℤ (pos 64) ≤ℤ n → n ≤ℤ pos 64 → FitsSigned w64 n
wider n low high = grind (arith, ints, low, high)

narrow : (n : ℤ) → neg_ℤ (pos 64) ≤ℤ n → n ≤ℤ pos 64 → FitsSigned w8 n
narrow n low high = grind (arith, ints, low, high)

-- a number that was written and read back is the same
kept32 : (n : ℤ) → neg_ℤ (pos 2000000) ≤ℤ n → n ≤ℤ pos 2000000 → to_z w32 (of_z w32 n) ≡ n
kept32 n low high = to_z-of_z w32 n (wide n low high)

between : (n : ℤ) (k : ℕ) → k ≤ 2000000 → pos 0 ≤ℤ n → n ≤ℤ pos k → to_z w32 (of_z w32 n) ≡ n
between n k few low high = kept32 n (grind (arith, ints, low)) (grind (arith, ints, high, few))

pub made_glyph : (l : Character) (top : ℤ) → top ≡ top_of l → fits l ≡ true → Fits l → glyph_of l ≡ Some (
  unsigned_abs (to_z w32 (of_z w32 l.code)),
  record {
    advance = unsigned_abs (to_z w32 (of_z w32 l.advance));
    w = unsigned_abs (to_z w32 (of_z w32 l.shape.w));
    h = unsigned_abs (to_z w32 (of_z w32 l.shape.h));
    ox = to_z w8 (of_z w8 (to_z w32 (of_z w32 l.shape.x)));
    oy = to_z w8 (of_z w8 (to_z w64 (of_z w64 top)));
  },
)
made_glyph l top is e f =
    let codes = code_range l.code f.code in
    let x = place_range l.shape.x f.ox in
    let y = place_range (top_of l) f.oy in
    let x32 : to_z w32 (of_z w32 l.shape.x) ≡ l.shape.x = kept32 l.shape.x (let low = x.0 in grind (arith, ints, low)) (let high = x.1 in grind (arith, ints, high)) in
    let code32 : to_z w32 (of_z w32 l.code) ≡ l.code = kept32 l.code (let low = codes.0 in grind (arith, ints, low)) (let high = codes.1 in grind (arith, ints, high)) in
    rw (
      e,
      is,
      code32,
      between l.advance 64 (omega arith) f.advance_low f.advance_high,
      between l.shape.w 32 (omega arith) f.w_low f.w_high,
      between l.shape.h 64 (omega arith) f.h_low f.h_high,
      x32,
      to_z-of_z w8 l.shape.x (narrow l.shape.x x.0 x.1),
      to_z-of_z w64 (top_of l) (wider (top_of l) y.0 y.1),
      to_z-of_z w8 (top_of l) (narrow (top_of l) y.0 y.1),
    ) refl

below : (n : ℤ) → pos 32 ≤ℤ n → n ≤ℤ pos 1114111 → unsigned_abs n < 1114112
below (pos n) low high = grind (arith, ints, high)
below (negsuc n) low high = grind (arith, ints, low)

-- its code is one of a character
pub code_below : (l : Character) → Fits l → unsigned_abs (to_z w32 (of_z w32 l.code)) < 1114112
code_below l f =
    let codes = code_range l.code f.code in
    let same : to_z w32 (of_z w32 l.code) ≡ l.code = kept32 l.code (let low = codes.0 in grind (arith, ints, low)) (let high = codes.1 in grind (arith, ints, high)) in
    rw same (below l.code codes.0 codes.1)
