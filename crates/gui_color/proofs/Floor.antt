-- The channel formula over the integers, and over the naturals.
use Rattle.std.proofs.Common.{◌≡◌, ℕ, suc, ◌<◌, ◌≤◌, ◌+◌, ◌-◌, ◌*◌, ◌/◌, ◌∙◌, ap, arith, inl, inr, ℤ, pos, negsuc, ◌+ℤ◌, ◌-ℤ◌, ◌*ℤ◌, neg_ℤ}
use Rattle.std.specs.Int.{int_div_euclid}
use Rattle.std.specs.Int.RustNames.{unsigned_abs}
use Rattle.std.proofs.lemmas.Int.{ints}
use Rattle.std.proofs.lemmas.Nat.{mul-le}
use Rattle.std.proofs.lemmas.Bool.{cases_lt}
use Rattle.gui_base.specs.Color.{mix_channel}

floor_is : (z : ℤ) (k v : ℕ) → z +ℤ pos (k * 32) ≡ pos v → pos k +ℤ int_div_euclid z (pos 32) ≡ pos (v / 32)
floor_is (pos a) k v h = omega (arith, ints, h)
floor_is (negsuc a) k v h = omega (arith, ints, h)

neg_sum : (n k : ℕ) → n ≤ k → neg_ℤ (pos n) +ℤ pos k ≡ pos (k - n)
neg_sum n k h = omega (arith, ints)

times_up : (f b m : ℕ) → b ≤ f → (pos f -ℤ pos b) *ℤ pos m +ℤ pos (b * 32) ≡ pos (b * 32 + f * m - b * m)
times_up f b m h =
    let e : pos f -ℤ pos b ≡ pos (f - b) = omega (arith, ints) in
    let g : f - b + b ≡ f = omega arith in
    rw e (ap pos (omega (arith, ap (λ z. z * m) g)))

times_down : (f b m : ℕ) → m ≤ 32 → f < b → (pos f -ℤ pos b) *ℤ pos m +ℤ pos (b * 32) ≡ pos (b * 32 + f * m - b * m)
times_down f b m p h =
    let e : pos f -ℤ pos b ≡ negsuc (b - f - 1) = omega (arith, ints) in
    let g : suc (b - f - 1) + f ≡ b = omega arith in
    let w : suc (b - f - 1) * m + f * m ≡ b * m = omega (arith, ap (λ z. z * m) g) in
    let q : b * m ≤ b * 32 = mul-le b m b 32 (omega arith) p in
    rw e (neg_sum (suc (b - f - 1) * m) (b * 32) (omega arith) ∙ ap pos (omega arith))

times : (f b m : ℕ) → m ≤ 32 → (pos f -ℤ pos b) *ℤ pos m +ℤ pos (b * 32) ≡ pos (b * 32 + f * m - b * m)
times f b m p = elim (cases_lt f b) [ inl h ↦ times_down f b m p h | inr h ↦ times_up f b m h ]

-- the formula, with naturals alone
pub mix_channel_is : (f b m d : ℕ) → m + d ≡ 32 → mix_channel f b m ≡ (b * d + f * m) / 32
unfolding mix_channel
mix_channel_is f b m d h =
    ap unsigned_abs (floor_is ((pos f -ℤ pos b) *ℤ pos m) b _ (times f b m (omega arith)))
    ∙ ap (λ n. n / 32) (omega (arith, ap (λ z. b * z) h))
