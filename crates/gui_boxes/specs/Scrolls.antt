-- What the definitions see of how far children reach and are moved.
use Rattle.std.specs.Prelude.{◌≡◌, ℕ, List, slice_index_or, ℤ}
use Rattle.gui_base.specs.Forest.{Forest, Empty, Tree, roots}
use Rattle.layout_defs.specs.Boxes.{Box}
use Rattle.layout_defs.specs.Solving.{Tall, Slot, Room, Placed, Span, no_span, kid_reach, offset_of, offset_at}
use Rattle.gui_boxes.specs.declared.reach.Reach.{Reach}
use Rattle.gui_boxes.specs.declared.reach.Offset.{Offset}
use Rattle.gui_boxes.specs.declared.reach.Scrolled.{Scrolled as OwnScrolled}
use Rattle.gui_boxes.specs.Slots.{slot_at, tall_at, talls}

-- how far the children of an object reach out of its content area, and how far it moves them
pub record Scrolled : Type 0 where
  pub reach : Span
  pub offset : Span

abbrev pub span_of : Reach → Span
span_of r = record { across = r.across; down = r.down }

abbrev pub moves_of : Offset → Span
moves_of o = record { across = o.across; down = o.down }

abbrev pub scrolled_of : OwnScrolled → Scrolled
scrolled_of s = record { reach = span_of s.reach; offset = moves_of s.offset }

abbrev pub not_scrolled : Scrolled
not_scrolled = record { reach = no_span; offset = no_span }

-- of an object that is solved
abbrev pub scrolled_placed : Placed → Scrolled
scrolled_placed p = record { reach = p.reach; offset = offset_at p }

-- so many pixels across and down
abbrev pub span_from : ℕ × ℕ → Span
span_from n = record { across = n.0; down = n.1 }

-- by its reach alone
abbrev pub scrolled_by : Box → Span → Scrolled
scrolled_by box reach = record { reach = reach; offset = offset_of box reach }

-- in its slot, with these children
abbrev pub scrolled_in : Tall → Slot → List Tall → Scrolled
scrolled_in tall slot kids = scrolled_by tall.box (kid_reach tall slot kids)

abbrev pub scrolled_at : List Scrolled → ℕ → Scrolled
scrolled_at table h = slice_index_or table h not_scrolled

-- a table tells it of each object of these trees, which stand in these slots
abbrev pub HoldsScrolls :
    (ℕ → Box) → List ℕ → List ℕ → List Slot → List Scrolled → Forest ℕ → Type 0
HoldsScrolls box widths naturals slots scrolls Empty = Unit {0}
HoldsScrolls box widths naturals slots scrolls (Tree h cs rest) =
    (scrolled_at scrolls h
    ≡ scrolled_in (tall_at box widths naturals h) (slot_at slots h) (roots (talls box widths naturals cs)))
    × HoldsScrolls box widths naturals slots scrolls cs
    × HoldsScrolls box widths naturals slots scrolls rest

-- a content area of no size at a corner, from which ends are counted
abbrev pub at_corner : ℤ → ℤ → Room
at_corner x y = record { x = x; y = y; width = 0; height = 0 }
