-- Laws of scrolling.
use Rattle.std.specs.Prelude.{◌≡◌, ℕ, false, List, pos, ◌-ℤ◌}
use Rattle.gui_base.specs.Forest.{Forest, map_forest}
use Rattle.layout_defs.specs.Boxes.{Box}
use Rattle.layout_defs.specs.Solving.{Tall, tall_box, Slot, Room, Span, Wide, Widened, room_of, own_slot, dealt}
use Rattle.layout_defs.specs.Solving.{taking_part, flow_slots, flat_slots, kid_reach, offset_of, moved, kid_slots}
use Rattle.layout_defs.specs.Solving.{with_natural_widths, with_widths, with_natural_heights, Placed, solved}

-- the children of an object that is not scrollable stand flat
abbrev pub StillStandsFlat : Type 0
StillStandsFlat =
    (tall : Tall) (slot : Slot) (kids : List Tall) → tall.box.scrollable ≡ false →
    kid_slots tall slot kids ≡ flat_slots tall slot kids

-- the slots of the children of an object in a content area
abbrev pub slots_in : Room → Box → List Tall → List Slot
slots_in room box kids = dealt tall_box (own_slot room) kids (flow_slots box room (taking_part tall_box kids))

abbrev pub moved_room : Span → Room → Room
moved_room offset room =
    record room { x = room.x -ℤ pos offset.across; y = room.y -ℤ pos offset.down }

-- children that are moved stand flat in a content area that is moved
abbrev pub MovedAsTheirRoom : Type 0
MovedAsTheirRoom =
    (tall : Tall) (slot : Slot) (kids : List Tall) →
    kid_slots tall slot kids
    ≡ slots_in (moved_room (offset_of tall.box (kid_reach tall slot kids)) (room_of tall slot)) tall.box kids

-- how far children reach does not go by where their parent stands
abbrev pub ReachesAnywhere : Type 0
ReachesAnywhere =
    (tall : Tall) (slot : Slot) (kids : List Tall) (offset : Span) →
    kid_reach tall (moved offset slot) kids ≡ kid_reach tall slot kids

-- a box but for how far it is to be scrolled
abbrev pub but_scroll : Box → Box
but_scroll box = record box {
  scrollable = false;
  across = record box.across { scroll = 0 };
  down = record box.down { scroll = 0 };
}

abbrev pub but_scroll_wide : Wide → Wide
but_scroll_wide w = record w { box = but_scroll w.box }

abbrev pub but_scroll_widened : Widened → Widened
but_scroll_widened w = record w { box = but_scroll w.box }

abbrev pub but_scroll_tall : Tall → Tall
but_scroll_tall tall = record tall { box = but_scroll tall.box }

-- how high an object is in its slot
abbrev pub slot_height : Placed → ℕ
slot_height p = p.slot.height

-- sizes do not go by it
pub record SizesAskNoScroll : Type 0 where
  pub natural_widths : (f : Forest Box) →
      with_natural_widths (map_forest but_scroll f) ≡ map_forest but_scroll_wide (with_natural_widths f)
  pub widths : (ws : List ℕ) (f : Forest Wide) →
      with_widths ws (map_forest but_scroll_wide f) ≡ map_forest but_scroll_widened (with_widths ws f)
  pub natural_heights : (f : Forest Widened) →
      with_natural_heights (map_forest but_scroll_widened f)
      ≡ map_forest but_scroll_tall (with_natural_heights f)
  pub heights : (width height : ℕ) (f : Forest Box) →
      map_forest slot_height (solved width height (map_forest but_scroll f))
      ≡ map_forest slot_height (solved width height f)
