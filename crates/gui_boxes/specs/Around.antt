-- How far children reach, read off where they stand.
use Rattle.std.specs.Prelude.{◌≡◌, ◌⊎◌, ℕ, false, eqb, if◌then◌else◌, map, [], ◌∷◌}
use Rattle.gui_base.specs.Forest.{Forest, Empty, Tree, children_of, roots}
use Rattle.layout_defs.specs.Solving.{Span, no_span, reach_in, room_of}
use Rattle.gui_boxes.specs.Kids.{flat_scrolled, told_trees}
use Rattle.gui_boxes.specs.Layouts.{ButScrolls}
use Rattle.gui_boxes.specs.Scrolls.{Scrolled, scrolled_at}
use Rattle.gui_boxes.specs.Settled.{Known, Layout, tall_of}
use Rattle.gui_boxes.specs.Slots.{at_roots, slot_at, tall_at}
use Rattle.gui_boxes.specs.Views.{box_at}

-- an object moves no children, and its reach is read off where they stand
pub record IsFlat (f : Forest ℕ) (l : Layout) (k : ℕ) : Type 0 where
  pub still : (box_at l.boxes k).scrollable ≡ false
  pub read : scrolled_at l.scrolls k ≡ flat_scrolled l f k

-- some reaches are read, and all else stays
pub record ReadsReaches (f : Forest ℕ) (old new : Layout) : Type 0 where
  pub each : (k : ℕ) → (scrolled_at new.scrolls k ≡ scrolled_at old.scrolls k) ⊎ IsFlat f new k
  pub rest : ButScrolls old new

-- these trees without the one at u
abbrev pub without : ℕ → Forest ℕ → Forest ℕ
without u Empty = Empty
without u (Tree h cs rest) = if eqb h u then without u rest else Tree h cs (without u rest)

-- how far these trees reach out of the content area of k from where they stand, where it moves none
abbrev pub flat_of : Layout → ℕ → Forest ℕ → Scrolled
flat_of l k g = record {
  reach =
      reach_in (room_of (tall_at (box_at l.boxes) l.widths l.natural_heights k) (slot_at l.slots k))
      (map tall_of (roots (told_trees l g))) (at_roots l.slots g);
  offset = no_span;
}

-- an object moves no children, and without this one they reach as far as is told
pub record IsFlatWithout (f : Forest ℕ) (l : Layout) (u k : ℕ) : Type 0 where
  pub still : (box_at l.boxes k).scrollable ≡ false
  pub read : scrolled_at l.scrolls k ≡ flat_of l k (without u (children_of f k))

-- an object moves no children, and if its reach is read, they reach as far without this one
pub record SparesOne (f : Forest ℕ) (l : Layout) (u k : ℕ) : Type 0 where
  pub still : (box_at l.boxes k).scrollable ≡ false
  pub spares : IsFlat f l k → IsFlatWithout f l u k

-- how far a child alone reaches out of its parent's content area
abbrev pub out_of : Known → Known → Span
out_of p kid = reach_in (room_of (tall_of p) p.slot) (tall_of kid ∷ []) (kid.slot ∷ [])
