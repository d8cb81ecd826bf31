-- Boxes whose own heights are those at found widths.
use Rattle.std.specs.Prelude.{◌≡◌, ℕ, Bool, true, List, Option, slice_index}
use Rattle.gui_base.specs.Forest.{Forest, has}
use Rattle.layout_defs.specs.Boxes.{Box}
use Rattle.layout_defs.specs.OwnHeights.{fixed_at}
use Rattle.gui_boxes.specs.declared.layout_box.LayoutBox.{LayoutBox}
use Rattle.gui_boxes.specs.Views.{box_at}

-- the box of h is that, with the own height where h is as wide as these widths say
abbrev pub IsFixed : (ℕ → Box) → List ℕ → List (Option LayoutBox) → ℕ → Type 0
IsFixed box widths boxes h = box_at boxes h ≡ fixed_at (slice_index widths h) (box h)

-- so are those of all objects of a forest
abbrev pub AreFixed : (ℕ → Box) → List ℕ → List (Option LayoutBox) → Forest ℕ → Type 0
AreFixed box widths boxes f = (h : ℕ) → has f h ≡ true → IsFixed box widths boxes h

-- so are those of the touched objects of a forest
abbrev pub AreFixedIf : (ℕ → Bool) → (ℕ → Box) → List ℕ → List (Option LayoutBox) → Forest ℕ → Type 0
AreFixedIf t box widths boxes f = (h : ℕ) → has f h ≡ true → t h ≡ true → IsFixed box widths boxes h

-- those that were so are so still
abbrev pub KeepsFixed : (ℕ → Box) → List ℕ → List (Option LayoutBox) → List (Option LayoutBox) → Type 0
KeepsFixed box widths old new = (h : ℕ) → IsFixed box widths old h → IsFixed box widths new h
