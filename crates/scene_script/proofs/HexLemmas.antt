-- Hexadecimal digits of the made script.
use Rattle.std.proofs.Common.{◌≡◌, ◌∙◌, ap, ap₂, zero, suc, ◌<◌, ℕ, List, [], ◌∷◌, refl, arith, append_assoc}
use Rattle.std.specs.List.{list_all}
use Rattle.std.specs.Prelude.{◌++◌, true, nat_lt, slice_index, ◌/◌, ◌%◌}
use Rattle.std.proofs.lemmas.Bool.Decides.{nat_tests}
use Rattle.hex.specs.Hex.{encode_upper, encode_with, upper_digits}

all_ascii : (xs : List ℕ) (i : ℕ) → list_all (λ x. nat_lt x 128) xs ≡ true → slice_index xs i < 128
all_ascii [] i h = grind arith
all_ascii (x ∷ xs) zero h = grind (arith, nat_tests, h)
all_ascii (x ∷ xs) (suc i) h = grind (arith, nat_tests, h, all_ascii xs i)

pub digit_is_ascii : (i : ℕ) → slice_index upper_digits i < 128
digit_is_ascii i = all_ascii upper_digits i refl

-- two digits after a text
pub two_digits : (text first second : List ℕ) (b d e : ℕ) → first ≡ text ++ d ∷ [] → second ≡ first ++ e ∷ [] →
    d ≡ slice_index upper_digits (b / 16) → e ≡ slice_index upper_digits (b % 16) → second ≡ text ++ encode_upper (b ∷ [])
unfolding encode_with
two_digits text first second b d e one two high low =
    two ∙ (ap₂ (λ (t : List ℕ) (x : ℕ). t ++ x ∷ []) (one ∙ ap (λ (x : ℕ). text ++ x ∷ []) high) low
    ∙ append_assoc text (slice_index upper_digits (b / 16) ∷ []) (slice_index upper_digits (b % 16) ∷ []))

pub three_bytes : (text : List ℕ) (a b c : ℕ) →
    ((text ++ encode_upper (a ∷ [])) ++ encode_upper (b ∷ [])) ++ encode_upper (c ∷ []) ≡ text ++ encode_upper (a ∷ b ∷ c ∷ [])
unfolding encode_with
three_bytes text a b c = append_assoc (text ++ encode_upper (a ∷ [])) _ _ ∙ append_assoc text _ _
