-- The lines of a font ask for it.
use Rattle.std.proofs.Common.{◌≡◌, ◌∙◌, refl, sym, ap, ℕ, ◌+◌, ◌^◌, ◌%◌, ◌≤◌, ◌<◌, true, false, ◌&&◌, List, [], ◌∷◌, length, length-append, arith}
use Rattle.std.specs.Prelude.{ℤ, pos, negsuc, nat_le, nat_lt, Ok, codes, decimal}
use Rattle.std.specs.Fmt.{signed_decimal}
use Rattle.std.specs.List.{list_all}
use Rattle.std.proofs.lemmas.Int.{ints}
use Rattle.std.proofs.lemmas.Bool.Decides.{nat_tests}
use Rattle.std.proofs.lemmas.List.Sums.{AllPass-from_list_all}
use lib.Signed.{mag}
use Rattle.hex.specs.Hex.{is_hex_digit}
use Rattle.hex.proofs.HexLemmas.{decode_of-digits}
use Rattle.gui_base.specs.Intervals.{is_within, is_counted}
use Rattle.gui_base.specs.declared.intervals.TheConstants.{CODE, ADVANCE, FONT, GLYPH_WIDTH, GLYPH_HEIGHT, GLYPH_OFFSET}
use Rattle.scene_defs.specs.RowBytes.{bytes_in_hex, most_digits}
use Rattle.run_defs.specs.Language.{Word}
use Rattle.run_defs.specs.Numbers.{code_said, is_surrogate}
use Rattle.run_defs.specs.Commands.{code, bytes}
use Rattle.run_defs.specs.Script.{parse, max_line}
use Rattle.line_texts.specs.LineTexts.{spaced, are_words, digits_word}
use Rattle.line_texts.specs.Commands.{Says}
use Rattle.line_texts.proofs.Commands.{font_lines_say}
use Rattle.line_texts.proofs.Digits.{digits_say}
use Rattle.line_texts.proofs.Numbers.{count_says, number_says}
use Rattle.line_texts.proofs.Plain.{prints_words, prints_short}
use Rattle.line_texts.proofs.Words.{words_say_so}
use Rattle.bdf_font.specs.Bdf.{Glyph}
use Rattle.bdf_font.specs.Texts.{glyph_words, glyph_text}
use Rattle.bdf_font.specs.Asked.{bytes_of, glyph_asked, is_kept}

pub more_spaced : (word : Word) (words : List Word) → length (spaced (word ∷ words)) ≡ 1 + length word + length (spaced words)
more_spaced word words = omega (arith, length-append word (spaced words))

near-small : (n : ℤ) → is_within GLYPH_OFFSET n ≡ true → mag n < 2 ^ 32
near-small (pos n) h = grind (arith, ints, nat_tests, h)
near-small (negsuc n) h = grind (arith, ints, nat_tests, h)

code_says : (n : ℕ) → n < 2 ^ 32 → is_within CODE (pos n) ≡ true → is_surrogate n ≡ false → Says code (decimal n) n
unfolding code_said
code_says n small h k =
    let inside : (nat_le 32 n && nat_le n 1114111) ≡ true = grind (arith, ints, nat_tests, h) in
    rw (count_says 32 1114111 n (omega arith) inside, k) refl

record IsKept (glyph : Glyph) : Type 0 where
  code : is_within CODE (pos glyph.code) ≡ true
  scalar : is_surrogate glyph.code ≡ false
  advance : is_counted ADVANCE glyph.shape.advance ≡ true
  w : is_counted GLYPH_WIDTH glyph.shape.w ≡ true
  h : is_counted GLYPH_HEIGHT glyph.shape.h ≡ true
  ox : is_within GLYPH_OFFSET glyph.shape.ox ≡ true
  oy : is_within GLYPH_OFFSET glyph.shape.oy ≡ true
  digits : list_all is_hex_digit glyph.digits ≡ true
  even : length glyph.digits % 2 ≡ 0
  few : length glyph.digits ≤ 512

kept_is : (glyph : Glyph) → is_kept glyph ≡ true → IsKept glyph
kept_is glyph e = record {
  code = grind (arith, nat_tests, e);
  scalar = grind (arith, nat_tests, e);
  advance = grind (arith, nat_tests, e);
  w = grind (arith, nat_tests, e);
  h = grind (arith, nat_tests, e);
  ox = grind (arith, nat_tests, e);
  oy = grind (arith, nat_tests, e);
  digits = grind (arith, nat_tests, e);
  even = grind (arith, nat_tests, e);
  few = grind (arith, nat_tests, e);
}

-- a count below 256 as a word
small : (low high n : ℕ) → high < 2 ^ 16 → (nat_le low n && nat_le n high) ≡ true → n < 2 ^ 32
small low high n h e = grind (arith, nat_tests, h, e)

digits_say_so : (glyph : Glyph) → IsKept glyph → Says bytes (digits_word glyph.digits) (bytes_of glyph)
unfolding bytes_in_hex
digits_say_so glyph k =
    let few = k.few in
    let made = decode_of-digits glyph.digits k.even (AllPass-from_list_all is_hex_digit glyph.digits k.digits) in
    let fits : nat_lt most_digits (length glyph.digits) ≡ false = grind (arith, nat_tests, few) in
    let is : bytes_of glyph ≡ made.0 = rw (fits, made.1) refl in
    digits_say glyph.digits made.0 made.1 (omega (arith, few)) ∙ ap Ok (sym is)

pub glyph_asks : (number : ℕ) (glyph : Glyph) → is_counted FONT number ≡ true → is_kept glyph ≡ true → parse (glyph_text number glyph) ≡ glyph_asked number glyph
unfolding glyph_text
glyph_asks number glyph f e =
    let k = kept_is glyph e in
    let few = k.few in
    let n1 : number < 2 ^ 32 = small FONT.low FONT.high number (omega arith) f in
    let code_is = k.code in
    let n2 : glyph.code < 2 ^ 32 = grind (arith, ints, nat_tests, code_is) in
    let n3 : glyph.shape.advance < 2 ^ 32 = small ADVANCE.low ADVANCE.high glyph.shape.advance (omega arith) k.advance in
    let n4 : glyph.shape.w < 2 ^ 32 = small GLYPH_WIDTH.low GLYPH_WIDTH.high glyph.shape.w (omega arith) k.w in
    let n5 : glyph.shape.h < 2 ^ 32 = small GLYPH_HEIGHT.low GLYPH_HEIGHT.high glyph.shape.h (omega arith) k.h in
    let n6 : mag glyph.shape.ox < 2 ^ 32 = near-small glyph.shape.ox k.ox in
    let n7 : mag glyph.shape.oy < 2 ^ 32 = near-small glyph.shape.oy k.oy in
    let w1 = decimal number in
    let w2 = decimal glyph.code in
    let w3 = decimal glyph.shape.advance in
    let w4 = decimal glyph.shape.w in
    let w5 = decimal glyph.shape.h in
    let w6 = signed_decimal glyph.shape.ox in
    let w7 = signed_decimal glyph.shape.oy in
    let w8 = digits_word glyph.digits in
    let plain : are_words (glyph_words number glyph) ≡ true =
    rw (
      prints_words.count number (omega arith),
      prints_words.count glyph.code (omega arith),
      prints_words.count glyph.shape.advance (omega arith),
      prints_words.count glyph.shape.w (omega arith),
      prints_words.count glyph.shape.h (omega arith),
      prints_words.number glyph.shape.ox (omega arith),
      prints_words.number glyph.shape.oy (omega arith),
      prints_words.digits glyph.digits k.digits,
    ) refl in
    let short : length (glyph_text number glyph) ≤ max_line =
    omega (
      arith,
      few,
      more_spaced w1 (w2 ∷ w3 ∷ w4 ∷ w5 ∷ w6 ∷ w7 ∷ w8 ∷ []),
      more_spaced w2 (w3 ∷ w4 ∷ w5 ∷ w6 ∷ w7 ∷ w8 ∷ []),
      more_spaced w3 (w4 ∷ w5 ∷ w6 ∷ w7 ∷ w8 ∷ []),
      more_spaced w4 (w5 ∷ w6 ∷ w7 ∷ w8 ∷ []),
      more_spaced w5 (w6 ∷ w7 ∷ w8 ∷ []),
      more_spaced w6 (w7 ∷ w8 ∷ []),
      more_spaced w7 (w8 ∷ []),
      more_spaced w8 [],
      prints_short.count number n1,
      prints_short.count glyph.code n2,
      prints_short.count glyph.shape.advance n3,
      prints_short.count glyph.shape.w n4,
      prints_short.count glyph.shape.h n5,
      prints_short.number glyph.shape.ox n6,
      prints_short.number glyph.shape.oy n7,
      prints_short.digits glyph.digits,
      length-append (codes "glyph") (spaced (glyph_words number glyph)),
    ) in
    words_say_so (codes "glyph") (glyph_words number glyph) refl plain short
    ∙ font_lines_say.glyph w1 w2 w3 w4 w5 w6 w7 w8 number glyph.code glyph.shape.advance glyph.shape.w glyph.shape.h glyph.shape.ox glyph.shape.oy (bytes_of glyph)
    (count_says FONT.low FONT.high number (omega arith) f) (code_says glyph.code n2 k.code k.scalar)
    (count_says ADVANCE.low ADVANCE.high glyph.shape.advance (omega arith) k.advance) (count_says GLYPH_WIDTH.low GLYPH_WIDTH.high glyph.shape.w (omega arith) k.w)
    (count_says GLYPH_HEIGHT.low GLYPH_HEIGHT.high glyph.shape.h (omega arith) k.h) (number_says GLYPH_OFFSET.low GLYPH_OFFSET.high glyph.shape.ox (omega arith) k.ox)
    (number_says GLYPH_OFFSET.low GLYPH_OFFSET.high glyph.shape.oy (omega arith) k.oy) (digits_say_so glyph k)
