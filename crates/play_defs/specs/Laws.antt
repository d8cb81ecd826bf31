-- What follows from the definitions.
use Rattle.std.specs.Prelude.{ℕ, ◌≤◌, ◌⊎◌, ℤ, ◌≤ℤ◌}
use Rattle.play_defs.specs.declared.AnimSpec.{AnimSpec}
use Rattle.play_defs.specs.declared.AnimValue.{AnimValue}
use Rattle.play_defs.specs.declared.AnimValue.TheVariants.{Before, Now, Last}
use Rattle.play_defs.specs.Animation.{value_at}

-- a number lies from one to another, or from the other to the one
abbrev pub IsBetween : ℤ → ℤ → ℤ → Type 0
IsBetween a b n = ((a ≤ℤ n) × (n ≤ℤ b)) ⊎ ((b ≤ℤ n) × (n ≤ℤ a))

abbrev pub LiesBetween : ℤ → ℤ → AnimValue → Type 0
LiesBetween a b Before = Unit {0}
LiesBetween a b (Now n) = IsBetween a b n
LiesBetween a b (Last n) = IsBetween a b n

-- every value of an animation lies between its ends
abbrev pub ValuesLieBetween : Type 0
ValuesLieBetween =
    (spec : AnimSpec) (elapsed : ℕ) → 1 ≤ spec.time → LiesBetween spec.start spec.end (value_at spec elapsed)
