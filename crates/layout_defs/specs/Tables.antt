-- Tables by handle: what is known of the handles of a forest.
use Rattle.std.specs.Prelude.{◌≡◌, ℕ, false, List, length, slice_index_or}
use Rattle.gui_base.specs.Forest.{Forest, Empty, Tree, has}

-- a table has the value of each row of a forest at its handle
abbrev pub Holds : {A V : Type 0} → (A → ℕ) → (A → V) → V → List V → Forest A → Type 0
Holds handle value d table Empty = Unit {0}
Holds handle value d table (Tree row cs rest) =
    (slice_index_or table (handle row) d ≡ value row) × Holds handle value d table cs
    × Holds handle value d table rest

-- a table has changed at no handle but those of a forest
pub record KeepsOthers {V : Type 0} (d : V) (old new : List V) (f : Forest ℕ) : Type 0 where
  pub long : length new ≡ length old
  pub others : (k : ℕ) → has f k ≡ false → slice_index_or new k d ≡ slice_index_or old k d
