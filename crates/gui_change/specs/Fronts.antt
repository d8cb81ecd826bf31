-- The entries of a tree that goes behind those that stand beside it.
use Rattle.std.specs.Prelude.{◌≡◌, ◌⊎◌, ℕ, Bool, false, eqb, List, ◌∷◌, ◌++◌}
use Rattle.std.specs.List.{list_any}
use Rattle.scene_defs.specs.Shown.{Entry as Painted, bars_over, own}
use Rattle.gui_change.specs.declared.entries.Entry.{Entry}

-- whether an entry is that of an object
abbrev pub is_of : ℕ → Entry → Bool
is_of h e = eqb e.h.0 h

-- whether one of these is an entry of an object
abbrev pub names : ℕ → List Painted → Bool
names h es = list_any (λ e. eqb e.handle h) es

-- what is painted of the tree at h goes right before the bars of p
pub record GoesLast (h p : ℕ) (old new : List Painted) : Type 0 where
  pub before : List Painted
  pub inside : List Painted
  pub beside : List Painted
  pub after : List Painted
  pub first : names h before ≡ false
  pub whole : names h inside ≡ false
  pub last : names p beside ≡ false
  pub was : old ≡ before ++ (own h ∷ (inside ++ (bars_over h ∷ (beside ++ (bars_over p ∷ after)))))
  pub is : new ≡ before ++ (beside ++ (own h ∷ (inside ++ (bars_over h ∷ (bars_over p ∷ after)))))

-- nothing is painted of h, before and afterwards
pub record IsUnlisted (h : ℕ) (old new : List Painted) : Type 0 where
  pub none : names h old ≡ false
  pub same : new ≡ old

-- what is painted where the tree at h, a child of p, goes behind all other children of it
abbrev pub Fronts : ℕ → ℕ → List Painted → List Painted → Type 0
Fronts h p old new = IsUnlisted h old new ⊎ GoesLast h p old new
