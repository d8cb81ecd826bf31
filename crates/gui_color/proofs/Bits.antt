-- Eight bits of a row of bits, and the lanes that they choose.
use Rattle.std.proofs.Common.{◌≡◌, ℕ, zero, suc, ◌<◌, ◌≤◌, ◌+◌, ◌-◌, ◌*◌, ◌/◌, ◌%◌, ◌^◌, ◌==◌, false, not, cond, nat_eq, List, slice_index, bit_and, refl, sym, ap, ◌∙◌, arith, inl, inr, Bool, [], ◌∷◌, get_or, length}
use lib.Lanes.{top, sel_l}
use Rattle.std.specs.Int.{bit_at}
use Rattle.std.proofs.lemmas.Nat.{and_mask, pow_pos, shr-shr}
use Rattle.std.proofs.lemmas.Nat.Bits.{and_pow, bit_at-lt, bit_at_cat_low, bit_at_cat_high}
use Rattle.std.proofs.lemmas.Simd.{get_or-sel_l}
use Rattle.std.proofs.lemmas.Bool.{cases_lt}
use Rattle.std.proofs.lemmas.Bool.Decides.{nat_tests}

-- what holds of each of eight lanes
pub below_eight : (P : ℕ → Type 0) → P 0 → P 1 → P 2 → P 3 → P 4 → P 5 → P 6 → P 7 → (k : ℕ) → k < 8 → P k
below_eight P a b c d e f g i zero h = a
below_eight P a b c d e f g i (suc zero) h = b
below_eight P a b c d e f g i (suc (suc zero)) h = c
below_eight P a b c d e f g i (suc (suc (suc zero))) h = d
below_eight P a b c d e f g i (suc (suc (suc (suc zero)))) h = e
below_eight P a b c d e f g i (suc (suc (suc (suc (suc zero))))) h = f
below_eight P a b c d e f g i (suc (suc (suc (suc (suc (suc zero)))))) h = g
below_eight P a b c d e f g i (suc (suc (suc (suc (suc (suc (suc zero))))))) h = i
below_eight P a b c d e f g i (suc (suc (suc (suc (suc (suc (suc (suc k)))))))) h = absurd (omega arith)

by_bit : (x w t a b : ℕ) → 0 < w → x ≡ t * w → t < 2 → cond (top 15 (cond (not (nat_eq x 0)) 65535 0)) a b ≡ cond (t == 1) a b
by_bit x w zero a b p e h =
    let z : x ≡ 0 = omega arith in
    rw z refl
by_bit x w (suc zero) a b p e h =
    let z : nat_eq x 0 ≡ false = grind (arith, nat_tests) in
    rw z refl
by_bit x w (suc (suc t)) a b p e h = absurd (omega arith)

-- a lane that is chosen by one bit of a byte
bit_chooses : (byte i a b : ℕ) → cond (top 15 (cond (not (nat_eq (bit_and byte (2 ^ i)) 0)) 65535 0)) a b ≡ cond (byte / 2 ^ i % 2 == 1) a b
bit_chooses byte i a b = by_bit (bit_and byte (2 ^ i)) (2 ^ i) (bit_at byte i) a b (pow_pos i) (and_pow byte i) (bit_at-lt byte i)

abbrev is_set : ℕ → ℕ → Bool
is_set byte i = top 15 (cond (not (nat_eq (bit_and byte (2 ^ i)) 0)) 65535 0)

-- whether each of eight bits is set, the highest first
abbrev pub tests_of : ℕ → List Bool
tests_of byte = is_set byte 7 ∷ is_set byte 6 ∷ is_set byte 5 ∷ is_set byte 4 ∷ is_set byte 3 ∷ is_set byte 2 ∷ is_set byte 1 ∷ is_set byte 0 ∷ []

pub lanes_choose : (byte : ℕ) (xs ys : List ℕ) → length xs ≡ 8 → length ys ≡ 8 → (k : ℕ) → k < 8
    → slice_index (sel_l (tests_of byte) xs ys) k ≡ cond (byte / 2 ^ (7 - k) % 2 == 1) (slice_index xs k) (slice_index ys k)
lanes_choose byte xs ys p q k h =
    get_or-sel_l (tests_of byte) xs ys k 0 h (omega (arith, p)) (omega (arith, q))
    ∙ below_eight (λ i. cond (get_or (tests_of byte) i false) (slice_index xs i) (slice_index ys i) ≡ cond (byte / 2 ^ (7 - i) % 2 == 1) (slice_index xs i) (slice_index ys i))
    (bit_chooses byte 7 _ _) (bit_chooses byte 6 _ _) (bit_chooses byte 5 _ _) (bit_chooses byte 4 _ _) (bit_chooses byte 3 _ _) (bit_chooses byte 2 _ _) (bit_chooses byte 1 _ _) (bit_chooses byte 0 _ _) k h

low_bit : (x i : ℕ) → i < 8 → bit_at (bit_and x 255) i ≡ bit_at x i
low_bit x i h =
    let split : x / 256 * 256 + x % 256 ≡ x = omega arith in
    ap (λ z. bit_at z i) (and_mask x 8) ∙ sym (bit_at_cat_low (x / 256) 8 (x % 256) i h) ∙ ap (λ z. bit_at z i) split

-- bit i of eight bits that begin at bit t of two bytes
pub two_bytes : (hi lo t k : ℕ) → lo < 256 → t < 8 → k < 8
    → bit_at (bit_and ((hi * 256 + lo) / 2 ^ (8 - t)) 255) (7 - k) ≡ bit_at (hi * 256 + lo) (15 - (t + k))
two_bytes hi lo t k l q h =
    let e : 8 - t + (7 - k) ≡ 15 - (t + k) = omega arith in
    low_bit ((hi * 256 + lo) / 2 ^ (8 - t)) (7 - k) (omega arith) ∙ ap (λ z. z % 2) (shr-shr (hi * 256 + lo) (8 - t) (7 - k) ∙ ap (λ z. (hi * 256 + lo) / 2 ^ z) e)

-- as `is_set` reads it
pub bit_of_row : (bits : List ℕ) (at k : ℕ) → ((j : ℕ) → slice_index bits j < 256) → k < 8
    → bit_at (bit_and ((slice_index bits (at / 8) * 256 + slice_index bits (at / 8 + 1)) / 2 ^ (8 - at % 8)) 255) (7 - k) ≡ bit_at (slice_index bits ((at + k) / 8)) (7 - (at + k) % 8)
bit_of_row bits at k small h =
    let hi : ℕ = slice_index bits (at / 8) in
    let lo : ℕ = slice_index bits (at / 8 + 1) in
    two_bytes hi lo (at % 8) k (small (at / 8 + 1)) (omega arith) h
    ∙ (elim (cases_lt (at % 8 + k) 8) [
      | inl below ↦
          let i : (at + k) / 8 ≡ at / 8 = omega arith in
          let j : 15 - (at % 8 + k) - 8 ≡ 7 - (at + k) % 8 = omega arith in
          bit_at_cat_high hi 8 lo (15 - (at % 8 + k)) (small (at / 8 + 1)) (omega arith) ∙ rw (i, j) refl
      | inr above ↦
          let i : (at + k) / 8 ≡ at / 8 + 1 = omega arith in
          let j : 15 - (at % 8 + k) ≡ 7 - (at + k) % 8 = omega arith in
          bit_at_cat_low hi 8 lo (15 - (at % 8 + k)) (omega arith) ∙ rw (i, j) refl
    ])

-- the bits of the first four of eight pixels, which stand high in a byte
pub first_bits : (byte low k : ℕ) → low < 16 → k < 4 → bit_at (byte / 16 * 16 + low) (7 - k) ≡ bit_at byte (7 - k)
first_bits byte low k l h =
    let e : 4 + (7 - k - 4) ≡ 7 - k = omega arith in
    bit_at_cat_high (byte / 16) 4 low (7 - k) l (omega arith)
    ∙ ap (λ z. z % 2) (shr-shr byte 4 (7 - k - 4) ∙ ap (λ z. byte / 2 ^ z) e)

-- and those of the last four of so many, which stand low
pub last_bits : (byte n k : ℕ) → 4 ≤ n → n ≤ 8 → k < 4 → bit_at (byte / 16 * 16 + byte / 2 ^ (8 - n) % 16) (7 - (4 + k)) ≡ bit_at byte (7 - (n - 4 + k))
last_bits byte n k p q h =
    let e : 8 - n + (7 - (4 + k)) ≡ 7 - (n - 4 + k) = omega arith in
    let x : ℕ = byte / 2 ^ (8 - n) in
    let split : x / 16 * 16 + x % 16 ≡ x = omega arith in
    bit_at_cat_low (byte / 16) 4 (x % 16) (7 - (4 + k)) (omega arith)
    ∙ sym (bit_at_cat_low (x / 16) 4 (x % 16) (7 - (4 + k)) (omega arith))
    ∙ ap (λ z. bit_at z (7 - (4 + k))) split
    ∙ ap (λ z. z % 2) (shr-shr byte (8 - n) (7 - (4 + k)) ∙ ap (λ z. byte / 2 ^ z) e)
