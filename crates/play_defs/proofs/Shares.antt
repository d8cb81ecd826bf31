-- Parts of a number lie between 0 and the number.
use Rattle.std.proofs.Common.{ℕ, zero, suc, ◌*◌, ◌≤◌, ◌≡◌, arith, inl, inr, ℤ, pos, negsuc, neg_ℤ, ◌*ℤ◌, ◌-ℤ◌, ◌≤ℤ◌}
use Rattle.std.proofs.lemmas.Nat.{mul-le}
use Rattle.std.proofs.lemmas.Int.{ints, by_lt_z}
use Rattle.std.specs.Int.{int_div_euclid}
use Rattle.play_defs.specs.Animation.{between}
use Rattle.play_defs.specs.Laws.{IsBetween}

pub record LiesDown (all share : ℤ) : Type 0 where
  pub least : all ≤ℤ share
  pub most : share ≤ℤ pos 0

pub record LiesUp (all share : ℤ) : Type 0 where
  pub least : pos 0 ≤ℤ share
  pub most : share ≤ℤ all

below_none : (a n : ℕ) → n ≤ suc a * 1024 → LiesDown (negsuc a) (int_div_euclid (neg_ℤ (pos n)) (pos 1024))
below_none a zero h = record { least = omega (arith, ints); most = omega (arith, ints) }
below_none a (suc m) h = record { least = omega (arith, ints); most = omega (arith, ints) }

pub share_down : (all : ℤ) (parts : ℕ) → parts ≤ 1024 → all ≤ℤ pos 0 → LiesDown all (int_div_euclid (all *ℤ pos parts) (pos 1024))
share_down (pos a) parts h k =
    let none : a ≡ 0 = omega (arith, ints) in
    let less : a * parts ≤ a * 1024 = mul-le a parts a 1024 (omega arith) h in
    record { least = omega (arith, ints); most = omega (arith, ints) }
share_down (negsuc a) parts h k = below_none a (suc a * parts) (mul-le (suc a) parts (suc a) 1024 (omega arith) h)

pub share_up : (all : ℤ) (parts : ℕ) → parts ≤ 1024 → pos 0 ≤ℤ all → LiesUp all (int_div_euclid (all *ℤ pos parts) (pos 1024))
share_up (pos a) parts h k =
    let less : a * parts ≤ a * 1024 = mul-le a parts a 1024 (omega arith) h in
    record { least = omega (arith, ints); most = omega (arith, ints) }
share_up (negsuc a) parts h k = absurd (omega (arith, ints))

risen : (from to : ℤ) (parts : ℕ) → LiesUp (to -ℤ from) (int_div_euclid ((to -ℤ from) *ℤ pos parts) (pos 1024)) → IsBetween from to (between from to parts)
risen from to parts share = inl (omega (arith, ints, share.least), omega (arith, ints, share.most))

fallen : (from to : ℤ) (parts : ℕ) → LiesDown (to -ℤ from) (int_div_euclid ((to -ℤ from) *ℤ pos parts) (pos 1024)) → IsBetween from to (between from to parts)
fallen from to parts share = inr (omega (arith, ints, share.least), omega (arith, ints, share.most))

-- a number on the way from one to another lies between them
pub between_ends : (from to : ℤ) (parts : ℕ) → parts ≤ 1024 → IsBetween from to (between from to parts)
between_ends from to parts h =
    by_lt_z from to (λ k. risen from to parts (share_up (to -ℤ from) parts h (omega (arith, ints)))) (λ k. fallen from to parts (share_down (to -ℤ from) parts h (omega (arith, ints))))
