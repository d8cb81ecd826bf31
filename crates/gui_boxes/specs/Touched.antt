-- Objects that passes visit: the touched ones. Of all others nothing changes.
use Rattle.std.specs.Prelude.{◌≡◌, ℕ, Bool, true, false, List, slice_index, slice_index_or}
use Rattle.layout_defs.specs.Boxes.{Box}
use Rattle.layout_defs.specs.Solving.{Slot}
use Rattle.gui_boxes.specs.Scrolls.{Scrolled, scrolled_at, scrolled_in}
use Rattle.gui_boxes.specs.Slots.{slot_at, tall_at, talls}
use Rattle.gui_base.specs.Forest.{Forest, Empty, Tree, has, has_by, roots}
use Rattle.gui_boxes.specs.Settled.{Known, Layout}
use Rattle.gui_boxes.specs.Standing.{Standing, reported_at}

-- whether an object is touched
abbrev pub touched_at : List Bool → ℕ → Bool
touched_at touched k = slice_index_or touched k false

abbrev pub is_touched : Layout → ℕ → Bool
is_touched l k = touched_at l.touched k

-- where an object stands, and how far it moves its children
abbrev pub standing_at : Layout → ℕ → Standing
standing_at l k = record { width = slice_index l.widths k; slot = slot_at l.slots k; scrolled = scrolled_at l.scrolls k }

-- an object is not touched, and it stands, and moves its children, as it was told last
pub record IsAtRest (l : Layout) (k : ℕ) : Type 0 where
  pub untouched : is_touched l k ≡ false
  pub told : reported_at l.reported k ≡ standing_at l k

-- below one that is not touched none is
abbrev pub IsClosed : (ℕ → Bool) → Forest ℕ → Type 0
IsClosed t Empty = Unit {0}
IsClosed t (Tree h cs rest) = (t h ≡ false → has_by t cs ≡ false) × IsClosed t cs × IsClosed t rest

-- it holds of an object, if that is touched
abbrev pub IfTouched : (ℕ → Bool) → (Known → List Known → Type 0) → Known → List Known → Type 0
IfTouched t P k kids = t k.box.handle ≡ true → P k kids

-- a table has changed at touched handles alone
abbrev pub KeepsCalm : {V : Type 0} → V → (ℕ → Bool) → List V → List V → Type 0
KeepsCalm d t old new = (k : ℕ) → t k ≡ false → slice_index_or new k d ≡ slice_index_or old k d

-- of what lies below these roots no more is touched
abbrev pub AtRoots : (ℕ → Bool) → (ℕ → Bool) → Forest ℕ → Type 0
AtRoots t u Empty = Unit {0}
AtRoots t u (Tree h cs rest) = ((k : ℕ) → has cs k ≡ true → u k ≡ t k) × AtRoots t u rest

-- More is touched, in these trees alone, and a table has changed at touched handles alone.
pub record Touches {V : Type 0} (d : V) (t u : ℕ → Bool) (old new : List V) (f : Forest ℕ) : Type 0 where
  pub more : (k : ℕ) → t k ≡ true → u k ≡ true
  pub others : (k : ℕ) → has f k ≡ false → u k ≡ t k
  pub calm : KeepsCalm d u old new

-- it is told right how far the touched objects of these trees scroll their children
abbrev pub HoldsScrollsIf :
    (ℕ → Bool) → (ℕ → Box) → List ℕ → List ℕ → List Slot → List Scrolled → Forest ℕ → Type 0
HoldsScrollsIf t box widths naturals slots scrolls Empty = Unit {0}
HoldsScrollsIf t box widths naturals slots scrolls (Tree h cs rest) =
    (t h ≡ true → scrolled_at scrolls h
    ≡ scrolled_in (tall_at box widths naturals h) (slot_at slots h) (roots (talls box widths naturals cs)))
    × HoldsScrollsIf t box widths naturals slots scrolls cs
    × HoldsScrollsIf t box widths naturals slots scrolls rest
