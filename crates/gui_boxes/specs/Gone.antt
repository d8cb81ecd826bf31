-- Objects that are gone and have no entries.
use Rattle.std.specs.Prelude.{◌≡◌, ◌<◌, ℕ, false, is_some, length, List, slice_index_or}
use Rattle.gui_base.specs.Forest.{Forest, has}
use Rattle.gui_base.specs.declared.Handle.{Handle}
use Rattle.gui_pool.specs.Table.{Table, value_at}
use Rattle.gui_boxes.specs.declared.entry.Entry.{Entry}
use Rattle.gui_boxes.specs.Listing.{times}

-- an object that is gone has no entry
abbrev pub HasLeft : Forest ℕ → Table Entry → ℕ → Type 0
HasLeft f entries k = has f k ≡ false → is_some (value_at entries k) ≡ false

abbrev pub HaveLeft : Forest ℕ → Table Entry → List Handle → Type 0
HaveLeft f entries hs = (k : ℕ) → 0 < times hs k → HasLeft f entries k

-- the handle at a place of a list is that of h
pub record StandsAt (hs : List Handle) (i h : ℕ) : Type 0 where
  pub within : i < length hs
  pub same : (slice_index_or hs i (record { 0 = 0 })).0 ≡ h
