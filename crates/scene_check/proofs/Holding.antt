-- What follows where tests hold.
use Rattle.std.proofs.Common.{◌≡◌, refl, true, false, not, Bool, ◌&&◌}
use Rattle.std.specs.Prelude.{Some, None}
use Rattle.std.specs.declared.option.Option.{Option}

-- what is so of a thing, where there is one
abbrev pub Or : {A : Type 0} → (A → Bool) → Option A → Type 0
Or p None = Unit {0}
Or p (Some a) = p a ≡ true

pub both_hold : (a b : Bool) → (a && b) ≡ true → (a ≡ true) × (b ≡ true)
both_hold true true h = (refl, refl)
both_hold true false h = cc
both_hold false b h = cc

pub fails : (a : Bool) → not a ≡ true → a ≡ false
fails true h = cc
fails false h = refl
