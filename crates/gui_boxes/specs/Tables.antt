-- What the table of entries holds.
use Rattle.std.specs.Prelude.{◌≡◌, ℕ, Bool, true, false, List, map, Option, Some, None, is_some}
use Rattle.std.specs.Prelude.{slice_index, slice_index_or}
use Rattle.gui_base.specs.Area.{Rect, area_at}
use Rattle.gui_base.specs.Forest.{Forest, has}
use Rattle.gui_pool.specs.Table.{Table}
use Rattle.layout_defs.specs.Solving.{Slot, nowhere}
use Rattle.gui_boxes.specs.declared.entry.Entry.{Entry}
use Rattle.gui_boxes.specs.declared.layout_box.LayoutBox.{LayoutBox}
use Rattle.gui_boxes.specs.Settled.{Layout}
use Rattle.gui_boxes.specs.Touched.{touched_at}
use Rattle.gui_boxes.specs.Standing.{Standing, not_standing, reported_at, standing_of}
use Rattle.gui_boxes.specs.Slots.{slot_of, slot_at}
use Rattle.gui_boxes.specs.Scrolls.{Scrolled, not_scrolled, scrolled_of, scrolled_at}
use Rattle.gui_boxes.specs.Views.{box_of, box_at}

-- what an entry tells, and what is told where there is none
abbrev pub wanted_or : Option Entry → Option LayoutBox
wanted_or None = None
wanted_or (Some e) = Some e.wanted

abbrev pub natural_width_or : Option Entry → ℕ
natural_width_or None = 0
natural_width_or (Some e) = e.natural_width.pixels

abbrev pub width_or : Option Entry → ℕ
width_or None = 0
width_or (Some e) = e.width.pixels

abbrev pub natural_height_or : Option Entry → ℕ
natural_height_or None = 0
natural_height_or (Some e) = e.natural_height.pixels

abbrev pub slot_or : Option Entry → Slot
slot_or None = nowhere
slot_or (Some e) = slot_of e.position

abbrev pub scrolled_or : Option Entry → Scrolled
scrolled_or None = not_scrolled
scrolled_or (Some e) = scrolled_of e.scrolled

abbrev pub touched_or : Option Entry → Bool
touched_or None = false
touched_or (Some e) = e.touched

abbrev pub reported_or : Option Entry → Standing
reported_or None = not_standing
reported_or (Some e) = standing_of e.reported

-- where an object stands by its entry
abbrev pub standing_in : Entry → Standing
standing_in e = record { width = e.width.pixels; slot = slot_of e.position; scrolled = scrolled_of e.scrolled }

-- what the entries tell of each handle
abbrev pub told : Table Entry → Layout
told t = record {
  boxes = map wanted_or t.values;
  natural_widths = map natural_width_or t.values;
  widths = map width_or t.values;
  natural_heights = map natural_height_or t.values;
  slots = map slot_or t.values;
  scrolls = map scrolled_or t.values;
  touched = map touched_or t.values;
  reported = map reported_or t.values;
}

-- an entry is that of h
pub record IsEntry (l : Layout) (h : ℕ) (e : Entry) : Type 0 where
  pub wanted : box_of h e.wanted ≡ box_at l.boxes h
  pub natural_width : e.natural_width.pixels ≡ slice_index l.natural_widths h
  pub width : e.width.pixels ≡ slice_index l.widths h
  pub natural_height : e.natural_height.pixels ≡ slice_index l.natural_heights h
  pub slot : slot_of e.position ≡ slot_at l.slots h
  pub scrolled : scrolled_of e.scrolled ≡ scrolled_at l.scrolls h
  pub touched : e.touched ≡ touched_at l.touched h
  pub reported : standing_of e.reported ≡ reported_at l.reported h

-- the area of an object by its entry
abbrev pub area_in : Entry → Rect
area_in e = area_at e.position.x e.position.y e.width.pixels e.position.height

-- whether each handle has a value, and how many more values fit
pub record Listing : Type 0 where
  pub flags : List Bool
  pub spare : ℕ

abbrev pub listing_of : {T : Type 0} → Table T → Listing
listing_of t = record { flags = map is_some t.values; spare = t.spare }

abbrev pub IsListed : Listing → ℕ → Type 0
IsListed listing h = slice_index_or listing.flags h false ≡ true

-- each handle of a forest has a value
abbrev pub AreListed : Listing → Forest ℕ → Type 0
AreListed listing f = (h : ℕ) → has f h ≡ true → IsListed listing h
