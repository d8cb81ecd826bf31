-- Where an object stands, and how far it moves its children: what others go by.
use Rattle.std.specs.Prelude.{ℕ, List, slice_index_or}
use Rattle.layout_defs.specs.Solving.{Slot, nowhere}
use Rattle.gui_boxes.specs.declared.standing.Standing.{Standing as OwnStanding}
use Rattle.gui_boxes.specs.Scrolls.{Scrolled, not_scrolled, scrolled_of}
use Rattle.gui_boxes.specs.Slots.{slot_of}

pub record Standing : Type 0 where
  pub width : ℕ
  pub slot : Slot
  pub scrolled : Scrolled

abbrev pub standing_of : OwnStanding → Standing
standing_of s = record { width = s.width.pixels; slot = slot_of s.position; scrolled = scrolled_of s.scrolled }

-- of an object of which nothing is known
abbrev pub not_standing : Standing
not_standing = record { width = 0; slot = nowhere; scrolled = not_scrolled }

abbrev pub reported_at : List Standing → ℕ → Standing
reported_at table h = slice_index_or table h not_standing
