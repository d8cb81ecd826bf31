-- The entries of a tree that goes.
use Rattle.std.specs.Prelude.{◌≡◌, ◌⊎◌, ℕ, false, List, ◌∷◌, ◌++◌}
use Rattle.scene_defs.specs.Shown.{Entry as Painted, bars_over, own}
use Rattle.gui_change.specs.Fronts.{IsUnlisted, names}

-- what is painted of the tree at h is taken out
pub record TakesOut (h : ℕ) (old new : List Painted) : Type 0 where
  pub before : List Painted
  pub inside : List Painted
  pub after : List Painted
  pub first : names h before ≡ false
  pub whole : names h inside ≡ false
  pub was : old ≡ before ++ (own h ∷ (inside ++ (bars_over h ∷ after)))
  pub is : new ≡ before ++ after

-- what is painted where the tree at h goes
abbrev pub Goes : ℕ → List Painted → List Painted → Type 0
Goes h old new = IsUnlisted h old new ⊎ TakesOut h old new
