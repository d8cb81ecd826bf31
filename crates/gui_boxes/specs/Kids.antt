-- The children of an object, as the passes see them.
use Rattle.std.specs.Prelude.{◌≡◌, ℕ, List, map}
use Rattle.std.specs.List.{All}
use Rattle.gui_base.specs.Forest.{Forest, roots, children_of}
use Rattle.layout_defs.specs.Solving.{Wide, Tall, Slot, Room, tall_box, dealt, own_slot, nowhere, no_span, reach_in, room_of}
use Rattle.layout_defs.specs.Tables.{KeepsOthers}
use Rattle.gui_boxes.specs.Scrolls.{Scrolled}
use Rattle.gui_boxes.specs.Slots.{IsClose, at_roots, slot_at, tall_at}
use Rattle.gui_boxes.specs.Settled.{Layout, Known, known, wide_of, tall_of}
use Rattle.gui_boxes.specs.Views.{box_at}

-- what is told of the objects of these trees
abbrev pub told_trees : Layout → Forest ℕ → Forest Known
told_trees l f = known (box_at l.boxes) l f

-- and of the children of h
abbrev pub told_kids : Layout → Forest ℕ → ℕ → List Known
told_kids l f h = roots (told_trees l (children_of f h))

-- those with their natural widths
abbrev pub wide_kids : Layout → Forest ℕ → ℕ → List Wide
wide_kids l f h = map wide_of (told_kids l f h)

-- those with their widths and natural heights
abbrev pub tall_kids : Layout → Forest ℕ → ℕ → List Tall
tall_kids l f h = map tall_of (told_kids l f h)

-- the slots of the roots of these trees are dealt, and nothing else changes but what lies below them
pub record Deals (l : Layout) (room : Room) (old new : List Slot) (f : Forest ℕ) (flow : List Slot) : Type 0 where
  pub dealt : at_roots new f ≡ dealt tall_box (own_slot room) (map tall_of (roots (told_trees l f))) flow
  pub others : KeepsOthers nowhere old new f
  pub close : All (IsClose room.x room.y) (at_roots new f)

-- how far the children of h reach out of its content area from where they stand, where it moves none
abbrev pub flat_scrolled : Layout → Forest ℕ → ℕ → Scrolled
flat_scrolled l f h = record {
  reach =
      reach_in (room_of (tall_at (box_at l.boxes) l.widths l.natural_heights h) (slot_at l.slots h)) (tall_kids l f h)
      (at_roots l.slots (children_of f h));
  offset = no_span;
}
