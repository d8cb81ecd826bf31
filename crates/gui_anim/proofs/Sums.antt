-- Sums and differences of numbers that fit.
use Rattle.std.proofs.Common.{◌≡◌, ◌∙◌, ap, sym, subst, inl, inr, rules, FitsSigned, w32, to_z, of_z, arith, ℤ, pos, neg_ℤ, ◌+ℤ◌, ◌-ℤ◌, ◌≤ℤ◌}
use Rattle.std.proofs.lemmas.Int.{ints, to_z-of_z}
use Rattle.play_defs.specs.Animation.{IsEnd}
use Rattle.play_defs.specs.Laws.{IsBetween}

both_are : (a b : ℤ) → FitsSigned w32 a → FitsSigned w32 b → to_z w32 (of_z w32 a) +ℤ to_z w32 (of_z w32 b) ≡ a +ℤ b
both_are a b fa fb =
    ap (λ (z : ℤ). z +ℤ to_z w32 (of_z w32 b)) (to_z-of_z w32 a fa) ∙ ap (λ (z : ℤ). a +ℤ z) (to_z-of_z w32 b fb)

pub sum_fits : (a b : ℤ) → FitsSigned w32 a → FitsSigned w32 b → FitsSigned w32 (a +ℤ b) → FitsSigned w32 (to_z w32 (of_z w32 a) +ℤ to_z w32 (of_z w32 b))
sum_fits a b fa fb f = subst (FitsSigned w32) (sym (both_are a b fa fb)) f

pub sum_is : (a b : ℤ) → FitsSigned w32 a → FitsSigned w32 b → FitsSigned w32 (a +ℤ b) → to_z w32 (of_z w32 (to_z w32 (of_z w32 a) +ℤ to_z w32 (of_z w32 b))) ≡ a +ℤ b
sum_is a b fa fb f = ap (λ (z : ℤ). to_z w32 (of_z w32 z)) (both_are a b fa fb) ∙ to_z-of_z w32 (a +ℤ b) f

pub difference_is : (a b : ℤ) → FitsSigned w32 a → FitsSigned w32 b → FitsSigned w32 (a -ℤ b) → to_z w32 (of_z w32 (to_z w32 (of_z w32 a) -ℤ to_z w32 (of_z w32 b))) ≡ a -ℤ b
difference_is a b fa fb f =
    ap (λ (z : ℤ). to_z w32 (of_z w32 (z -ℤ to_z w32 (of_z w32 b)))) (to_z-of_z w32 a fa)
    ∙ ap (λ (z : ℤ). to_z w32 (of_z w32 (a -ℤ z))) (to_z-of_z w32 b fb)
    ∙ to_z-of_z w32 (a -ℤ b) f

record Ends (n : ℤ) : Type 0 where
  least : neg_ℤ (pos 4000) ≤ℤ n
  most : n ≤ℤ pos 4000

ends_at : (n : ℤ) → IsEnd n → Ends n
ends_at n h = record { least = grind (arith, ints); most = grind (arith, ints) }

fits_inside : (a b n : ℤ) → Ends a → Ends b → IsBetween a b n → FitsSigned w32 n
fits_inside a b n ea eb (inl h) =
    let low : a ≤ℤ n = h.0 in let high : n ≤ℤ b = h.1 in let least = ea.least in let most = eb.most in search (rules, ints)
fits_inside a b n ea eb (inr h) =
    let low : b ≤ℤ n = h.0 in let high : n ≤ℤ a = h.1 in let least = eb.least in let most = ea.most in search (rules, ints)

-- what lies between two ends fits
pub between_fits : (a b n : ℤ) → IsEnd a → IsEnd b → IsBetween a b n → FitsSigned w32 n
between_fits a b n ea eb h = fits_inside a b n (ends_at a ea) (ends_at b eb) h
