-- How numbers are read.
use Rattle.std.proofs.Common.{◌≡◌, ◌≢◌, ◌∙◌, refl, ap, sym, subst, FitsSigned, w64, rules, ℕ, ◌+◌, ◌-◌, ◌*◌, ◌≤◌, Bool, true, false, ◌&&◌, List, [], ◌∷◌, length, take, drop, get_or, arith}
use Rattle.std.specs.Prelude.{ℤ, pos, neg_ℤ, ◌<ℤ◌, ◌-ℤ◌, int_le, min, nat_lt, Some, None, Ok, Err, option_map, if◌then◌else◌}
use Rattle.std.specs.declared.option.Option.{Option}
use Rattle.std.proofs.lemmas.Int.{ints}
use Rattle.std.proofs.lemmas.List.{take_all}
use Rattle.std.proofs.lemmas.Bool.Decides.{nat_tests}
use Rattle.run_defs.specs.declared.LineFault.TheVariants.{Syntax, Range}
use Rattle.run_defs.specs.Numbers.{within, color_from, is_number, number_of, value_of}
use Rattle.scene_script.specs.Numbers.{beyond, capped}

-- an interval may be asked about the capped number
within_capped : (low high : ℤ) (o : Option ℤ) → neg_ℤ (pos beyond) <ℤ low → high <ℤ pos beyond → within low high o ≡ within low high (option_map capped o)
within_capped low high None h k = refl
within_capped low high (Some z) h k = grind (arith, ints, nat_tests)

pub no_number : (low high : ℤ) (o : Option ℤ) → neg_ℤ (pos beyond) <ℤ low → high <ℤ pos beyond → option_map capped o ≡ None → within low high o ≡ Err Syntax
no_number low high o h k e = grind (arith, within_capped low high o h k, e)

pub inside : (low high : ℤ) (o : Option ℤ) (n : ℤ) → neg_ℤ (pos beyond) <ℤ low → high <ℤ pos beyond → option_map capped o ≡ Some n →
    (int_le low n && int_le n high) ≡ true → within low high o ≡ Ok n
inside low high o n h k e is = grind (arith, within_capped low high o h k, e, is)

pub outside : (low high : ℤ) (o : Option ℤ) (n : ℤ) → neg_ℤ (pos beyond) <ℤ low → high <ℤ pos beyond → option_map capped o ≡ Some n →
    (int_le low n && int_le n high) ≡ false → within low high o ≡ Err Range
outside low high o n h k e isnt = grind (arith, within_capped low high o h k, e, isnt)

-- what a word says whose first byte is a minus, and what it comes to
abbrev after_minus : Bool → ℕ → Option ℤ
after_minus is v = if is && nat_lt 0 v then Some (neg_ℤ (pos v)) else None

abbrev natural_capped : Bool → ℕ → Option ℤ
natural_capped is v = if is then Some (pos (min v beyond)) else None

minus_on : (b : ℕ) (bs : List ℕ) → b ≡ 45 → number_of (b ∷ bs) ≡ after_minus (is_number bs) (value_of bs)
minus_on b [] e = rw e refl
minus_on b (c ∷ bs) e = rw e refl

minus_none : (is : Bool) (v : ℕ) → natural_capped is v ≡ None → option_map capped (after_minus is v) ≡ None
minus_none true v e = cc
minus_none false v e = refl

minus_zero : (is : Bool) (v : ℕ) → natural_capped is v ≡ Some (pos 0) → option_map capped (after_minus is v) ≡ None
minus_zero true v e = grind (arith, ints, nat_tests, e)
minus_zero false v e = refl

minus_other : (is : Bool) (v : ℕ) (n : ℤ) → natural_capped is v ≡ Some n → n ≢ pos 0 → option_map capped (after_minus is v) ≡ Some (pos 0 -ℤ n)
minus_other true v n e ne = grind (arith, ints, nat_tests, e, ne)
minus_other false v n e ne = cc

-- the digits behind the first byte
abbrev pub behind : List ℕ → List ℕ
behind word = take (length word - 1) (drop 1 word)

abbrev pub natural_said : List ℕ → Option ℤ
natural_said word = natural_capped (is_number word) (value_of word)

capped_fits : (is : Bool) (v : ℕ) (n : ℤ) → natural_capped is v ≡ Some n → FitsSigned w64 (pos 0 -ℤ n)
capped_fits true v n e =
    let fits : FitsSigned w64 (pos 0 -ℤ pos (min v beyond)) = search rules in
    let is : pos (min v beyond) ≡ n = cc in
    subst (λ (m : ℤ). FitsSigned w64 (pos 0 -ℤ m)) is fits
capped_fits false v n e = cc

pub negative_fits : (word : List ℕ) (n : ℤ) → natural_said (behind word) ≡ Some n → FitsSigned w64 (pos 0 -ℤ n)
negative_fits word n e = capped_fits (is_number (behind word)) (value_of (behind word)) n e

minus_behind : (word : List ℕ) → 1 ≤ length word → get_or word 0 0 ≡ 45 → number_of word ≡ after_minus (is_number (behind word)) (value_of (behind word))
minus_behind [] h e = absurd (omega arith)
minus_behind (b ∷ bs) h e =
    let all : behind (b ∷ bs) ≡ bs = take_all (length (b ∷ bs) - 1) bs (omega arith) in
    minus_on b bs e ∙ ap (λ (ds : List ℕ). after_minus (is_number ds) (value_of ds)) (sym all)

pub negative_none : (word : List ℕ) → 1 ≤ length word → get_or word 0 0 ≡ 45 → natural_said (behind word) ≡ None → option_map capped (number_of word) ≡ None
negative_none word h e n = ap (option_map capped) (minus_behind word h e) ∙ minus_none (is_number (behind word)) (value_of (behind word)) n

pub negative_zero : (word : List ℕ) → 1 ≤ length word → get_or word 0 0 ≡ 45 → natural_said (behind word) ≡ Some (pos 0) → option_map capped (number_of word) ≡ None
negative_zero word h e n = ap (option_map capped) (minus_behind word h e) ∙ minus_zero (is_number (behind word)) (value_of (behind word)) n

pub negative : (word : List ℕ) (n : ℤ) → 1 ≤ length word → get_or word 0 0 ≡ 45 → natural_said (behind word) ≡ Some n → n ≢ pos 0 →
    option_map capped (number_of word) ≡ Some (pos 0 -ℤ n)
negative word n h e is ne = ap (option_map capped) (minus_behind word h e) ∙ minus_other (is_number (behind word)) (value_of (behind word)) n is ne

pub plain : (word : List ℕ) → get_or word 0 0 ≢ 45 → natural_said word ≡ option_map capped (number_of word)
plain [] ne = refl
plain (b ∷ bs) ne = grind (arith, ints, nat_tests)

-- the number of three bytes
pub three_bytes : (bytes : List ℕ) → length bytes ≡ 3 →
    color_from (Ok bytes) ≡ Ok (pos (65536 * get_or bytes 0 0 + 256 * get_or bytes 1 0 + get_or bytes 2 0))
three_bytes bytes h = grind arith
