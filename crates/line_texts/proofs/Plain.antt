-- What is printed are words of a line, and short ones.
use Rattle.std.proofs.Common.{◌≡◌, refl, ℕ, suc, ◌+◌, ◌*◌, ◌%◌, ◌^◌, ◌≤◌, ◌<◌, true, List, [], ◌∷◌, ◌++◌, length, length-append, arith}
use Rattle.std.specs.Prelude.{decimal, ℤ, pos, negsuc}
use Rattle.std.specs.Fmt.{signed_decimal}
use Rattle.std.specs.List.{list_all}
use Rattle.std.proofs.lemmas.Fmt.{decimal_by_steps, length-decimal-le, length_signed_le}
use Rattle.std.proofs.lemmas.Bool.Decides.{nat_tests}
use lib.Signed.{mag}
use Rattle.hex.specs.Hex.{is_hex_digit}
use Rattle.line_texts.specs.LineTexts.{is_letter, is_plain, is_in_line, ends_well, is_text, digits_word}
use Rattle.line_texts.specs.Quoting.{escaped, inside_quotes, quoted, is_in_text}
use Rattle.line_texts.specs.Laws.{PrintsWords, PrintsShort}

-- Numbers.

plain_push : (bs : List ℕ) (b : ℕ) → is_plain bs ≡ true → is_letter b ≡ true → is_plain (bs ++ b ∷ []) ≡ true
plain_push [] b h k = cc
plain_push (c ∷ cs) b h k = grind (arith, nat_tests, h, letters_push cs b) where
  letters_push : (bs : List ℕ) (b : ℕ) → list_all is_letter bs ≡ true → is_letter b ≡ true → list_all is_letter (bs ++ b ∷ []) ≡ true
  letters_push [] b h k = grind (arith, nat_tests, k)
  letters_push (c ∷ cs) b h k = grind (arith, nat_tests, h, k, letters_push cs b)

plain_decimal : (n : ℕ) → n < 2 ^ 64 → is_plain (decimal n) ≡ true
plain_decimal n h = decimal_by_steps (λ (m : ℕ) (ds : List ℕ). is_plain ds ≡ true)
    (λ m k. grind (arith, nat_tests, k)) (λ m ds k e. plain_push ds (48 + m % 10) e (grind (arith, nat_tests))) n h

minus_plain : (bs : List ℕ) → is_plain bs ≡ true → is_plain (45 ∷ bs) ≡ true
minus_plain [] h = cc
minus_plain (b ∷ bs) h = grind (arith, nat_tests, h)

plain_signed : (n : ℤ) → mag n < 2 ^ 63 → is_plain (signed_decimal n) ≡ true
plain_signed (pos n) h = plain_decimal n (omega (arith, h))
plain_signed (negsuc n) h = minus_plain (decimal (suc n)) (plain_decimal (suc n) (omega (arith, h)))

-- Digits.

digits_letters : (digits : List ℕ) → list_all is_hex_digit digits ≡ true → list_all is_letter digits ≡ true
digits_letters [] h = refl
digits_letters (b ∷ bs) h = grind (arith, nat_tests, h, digits_letters bs)

plain_digits : (digits : List ℕ) → list_all is_hex_digit digits ≡ true → is_plain (digits_word digits) ≡ true
plain_digits [] h = refl
plain_digits (b ∷ bs) h = grind (arith, nat_tests, h, digits_letters bs)

short_digits : (digits : List ℕ) → length (digits_word digits) ≤ length digits + 1
short_digits [] = omega arith
short_digits (b ∷ bs) = omega arith

-- Texts.

ends_in_quote : (b : ℕ) (bs : List ℕ) → ends_well b (bs ++ 34 ∷ []) ≡ true
ends_in_quote b [] = refl
ends_in_quote b (c ∷ cs) = ends_in_quote c cs

both_in_line : (xs ys : List ℕ) → list_all is_in_line xs ≡ true → list_all is_in_line ys ≡ true → list_all is_in_line (xs ++ ys) ≡ true
both_in_line [] ys h k = k
both_in_line (x ∷ xs) ys h k = grind (arith, nat_tests, h, both_in_line xs ys)

escaped_in_line : (b : ℕ) → is_in_text b ≡ true → list_all is_in_line (escaped b) ≡ true
escaped_in_line b h = grind (arith, nat_tests, h)

inside_in_line : (text : List ℕ) → list_all is_in_text text ≡ true → list_all is_in_line (inside_quotes text) ≡ true
inside_in_line [] h = refl
inside_in_line (b ∷ bs) h =
    both_in_line (escaped b) (inside_quotes bs) (escaped_in_line b (grind (arith, nat_tests, h))) (inside_in_line bs (grind (arith, nat_tests, h)))

text_quoted : (text : List ℕ) → list_all is_in_text text ≡ true → is_text (quoted text) ≡ true
text_quoted text h =
    let ends = ends_in_quote 34 (inside_quotes text) in
    let inside = both_in_line (inside_quotes text) (34 ∷ []) (inside_in_line text h) refl in
    rw (ends, inside) refl

escaped_short : (b : ℕ) → length (escaped b) ≤ 2
escaped_short b = grind (arith, nat_tests)

inside_short : (text : List ℕ) → length (inside_quotes text) ≤ 2 * length text
inside_short [] = omega arith
inside_short (b ∷ bs) = grind (arith, nat_tests, inside_short bs, length-append (escaped b) (inside_quotes bs))

short_quoted : (text : List ℕ) → length (quoted text) ≤ 2 * length text + 2
short_quoted text = omega (arith, inside_short text, length-append (inside_quotes text) (34 ∷ []))

pub prints_words : PrintsWords
prints_words = record { number = plain_signed; count = plain_decimal; digits = plain_digits; text = text_quoted }

pub prints_short : PrintsShort
prints_short = record {
  number = λ n h. length_signed_le 10 n (omega (arith, h)) (omega (arith, h));
  count = λ n h. length-decimal-le 10 n (omega arith) (omega (arith, h)) (omega (arith, h));
  digits = short_digits;
  text = short_quoted;
}
