-- The entries of an object that comes, the last child of another.
use Rattle.std.specs.Prelude.{◌≡◌, ◌⊎◌, ℕ, false, List, [], ◌∷◌, ◌++◌, Some, None}
use Rattle.gui_pool.specs.Table.{Table, value_inserted}
use Rattle.scene_defs.specs.Shown.{Entry as Painted, bars_over, own}
use Rattle.gui_debts.specs.Owed.{sight_of}
use Rattle.gui_debts.specs.Seen.{items_known}
use Rattle.gui_debts.specs.declared.seen.Seen.{Seen}
use Rattle.gui_change.specs.Fronts.{IsUnlisted, names}

-- what is painted of h goes right before the bars of p
pub record AddsLast (h p : ℕ) (old new : List Painted) : Type 0 where
  pub before : List Painted
  pub inside : List Painted
  pub after : List Painted
  pub first : names p before ≡ false
  pub whole : names p inside ≡ false
  pub was : old ≡ before ++ (own p ∷ (inside ++ (bars_over p ∷ after)))
  pub is : new ≡ before ++ (own p ∷ (inside ++ (own h ∷ (bars_over h ∷ (bars_over p ∷ after)))))

-- what is painted where h comes, the last child of p
abbrev pub Comes : ℕ → ℕ → List Painted → List Painted → Type 0
Comes h p old new = IsUnlisted p old new ⊎ AddsLast h p old new

-- of one object more it is known that nothing is seen of it
pub record PutsNothing (old new : Table Seen) (h : ℕ) : Type 0 where
  pub value : Seen
  pub sight : sight_of (Some value) ≡ sight_of None
  pub items : items_known value.paints ≡ []
  pub is : new ≡ value_inserted old h value
