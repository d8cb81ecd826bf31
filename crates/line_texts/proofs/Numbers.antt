-- Numbers say themselves.
use Rattle.std.proofs.Common.{◌≡◌, ◌∙◌, refl, ap, ℕ, suc, ◌+◌, ◌-◌, ◌*◌, ◌/◌, ◌%◌, ◌^◌, ◌≤◌, ◌<◌, true, ◌&&◌, List, [], ◌∷◌, ◌++◌, arith}
use Rattle.std.specs.Prelude.{decimal, fold, ℤ, pos, negsuc, neg_ℤ, int_le, Some}
use Rattle.std.specs.Fmt.{signed_decimal}
use Rattle.std.specs.List.{list_all}
use Rattle.std.proofs.lemmas.Fmt.{decimal_by_steps}
use Rattle.std.proofs.lemmas.Int.{ints}
use Rattle.std.proofs.lemmas.Bool.Decides.{nat_tests}
use lib.Signed.{mag}
use Rattle.run_defs.specs.Numbers.{is_digit, is_number, value_of, number_of, within, number, natural}
use Rattle.line_texts.specs.Laws.{NumberSays, CountSays}

-- a digit more comes last
fold_push : (n : ℕ) (bs : List ℕ) (b : ℕ) → fold (λ m c. m * 10 + (c - 48)) n (bs ++ b ∷ []) ≡ fold (λ m c. m * 10 + (c - 48)) n bs * 10 + (b - 48)
fold_push n [] b = refl
fold_push n (c ∷ cs) b = fold_push (n * 10 + (c - 48)) cs b

all_push : (bs : List ℕ) (b : ℕ) → list_all is_digit bs ≡ true → is_digit b ≡ true → list_all is_digit (bs ++ b ∷ []) ≡ true
all_push [] b h k = grind (arith, nat_tests, k)
all_push (c ∷ cs) b h k = grind (arith, nat_tests, h, k, all_push cs b)

-- a digit more after digits that come to more than 0
number_push : (bs : List ℕ) (b : ℕ) → is_number bs ≡ true → 0 < value_of bs → is_digit b ≡ true → is_number (bs ++ b ∷ []) ≡ true
number_push [] b h p k = cc
number_push (c ∷ []) b h p k = grind (arith, nat_tests, h, p, k)
number_push (c ∷ d ∷ ds) b h p k = grind (arith, nat_tests, h, k, all_push (c ∷ d ∷ ds) b)

record IsNumberOf (n : ℕ) (ds : List ℕ) : Type 0 where
  digits : is_number ds ≡ true
  value : value_of ds ≡ n

one : (n : ℕ) → n < 10 → IsNumberOf n ((48 + n) ∷ [])
one n h = record { digits = grind (arith, nat_tests, h); value = omega arith }

more : (n : ℕ) (ds : List ℕ) → 10 ≤ n → IsNumberOf (n / 10) ds → IsNumberOf n (ds ++ (48 + n % 10) ∷ [])
more n ds h k =
    let value = k.value in
    let positive : 0 < value_of ds = omega (arith, value) in
    record {
      digits = number_push ds (48 + n % 10) k.digits positive (grind (arith, nat_tests));
      value = fold_push 0 ds (48 + n % 10) ∙ omega (arith, value);
    }

decimal_reads : (n : ℕ) → n < 2 ^ 64 → IsNumberOf n (decimal n)
decimal_reads n h = decimal_by_steps IsNumberOf one more n h

-- a number is written in digits
all_digits : (ds : List ℕ) → is_number ds ≡ true → list_all is_digit ds ≡ true
all_digits [] h = cc
all_digits (b ∷ []) h = grind (arith, nat_tests, h)
all_digits (b ∷ c ∷ cs) h = grind (arith, nat_tests, h)

pub decimal_digits : (n : ℕ) → n < 2 ^ 64 → list_all is_digit (decimal n) ≡ true
decimal_digits n h = all_digits (decimal n) (decimal_reads n h).digits

some_digit : (ds : List ℕ) → is_number ds ≡ true → number_of ds ≡ Some (pos (value_of ds))
some_digit [] h = cc
some_digit (b ∷ bs) h = rw h refl

pub number_of-decimal : (n : ℕ) → n < 2 ^ 64 → number_of (decimal n) ≡ Some (pos n)
number_of-decimal n h = some_digit (decimal n) (decimal_reads n h).digits ∙ ap (λ (m : ℕ). Some (pos m)) (decimal_reads n h).value

negative : (ds : List ℕ) → is_number ds ≡ true → 0 < value_of ds → number_of (45 ∷ ds) ≡ Some (neg_ℤ (pos (value_of ds)))
negative [] h p = cc
negative (b ∷ bs) h p = grind (arith, nat_tests, h, p)

pub number_of-signed : (n : ℤ) → mag n < 2 ^ 63 → number_of (signed_decimal n) ≡ Some n
number_of-signed (pos n) h = number_of-decimal n (omega (arith, h))
number_of-signed (negsuc n) h =
    let reads : IsNumberOf (suc n) (decimal (suc n)) = decimal_reads (suc n) (omega (arith, h)) in
    let value = reads.value in
    negative (decimal (suc n)) reads.digits (omega (arith, value)) ∙ ap (λ (m : ℕ). Some (neg_ℤ (pos m))) value

pub number_says : NumberSays
unfolding number
number_says low high n small h = ap (within low high) (number_of-signed n small) ∙ rw h refl

pub count_says : CountSays
unfolding natural number
count_says low high n small h =
    let inside : (int_le (pos low) (pos n) && int_le (pos n) (pos high)) ≡ true = grind (arith, ints, nat_tests, h) in
    rw (number_of-decimal n small, inside) refl
