-- Laws of solving.
use Rattle.std.specs.Prelude.{◌≡◌, ℕ, true, Bool, if◌then◌else◌, List, slice_index_or, Some, None}
use Rattle.std.specs.Prelude.{option_map, ◌==◌}
use Rattle.std.specs.declared.option.Option.{Option}
use Rattle.gui_base.specs.Forest.{Forest, Empty, Tree, and_then, has_by, map_forest}
use Rattle.layout_defs.specs.Boxes.{Box}
use Rattle.layout_defs.specs.Solving.{Placed, solved}
use Rattle.layout_defs.specs.Tables.{Holds}

-- solving keeps the trees and their boxes
abbrev pub SolvedKeepsBoxes : Type 0
SolvedKeepsBoxes =
    (width height : ℕ) (f : Forest Box) → map_forest (λ (p : Placed). p.tall.box) (solved width height f) ≡ f

-- the trees are solved one by one
abbrev pub SolvedApart : Type 0
SolvedApart =
    (width height : ℕ) (f g : Forest Box) →
    solved width height (and_then f g) ≡ and_then (solved width height f) (solved width height g)

-- the first tree whose root passes a test
abbrev pub root_by : {A : Type 0} → (A → Bool) → Forest A → Forest A
root_by test Empty = Empty
root_by test (Tree row cs rest) = if test row then Tree row cs Empty else root_by test rest

-- whether a placed object is h
abbrev pub is_placed_at : ℕ → Placed → Bool
is_placed_at h p = p.tall.box.handle == h

abbrev pub is_box_at : ℕ → Box → Bool
is_box_at h box = box.handle == h

-- what lies at a root and below it comes from its tree alone
abbrev pub SolvedByRoot : Type 0
SolvedByRoot =
    (width height root : ℕ) (f : Forest Box) →
    root_by (is_placed_at root) (solved width height f) ≡ solved width height (root_by (is_box_at root) f)

-- the first row that passes a test
abbrev pub row_by : {A : Type 0} → (A → Bool) → Forest A → Option A
row_by test Empty = None
row_by test (Tree row cs rest) =
    if test row then Some row
    else (if has_by test cs then row_by test cs else row_by test rest)

-- a table that holds the values of a forest has at each handle what is found by it
abbrev pub FoundByHandle : (A V : Type 0) → Type 0
FoundByHandle A V =
    (handle : A → ℕ) (value : A → V) (d : V) (table : List V) (f : Forest A) (h : ℕ) →
    Holds handle value d table f → has_by (λ a. handle a == h) f ≡ true →
    option_map value (row_by (λ a. handle a == h) f) ≡ Some (slice_index_or table h d)
