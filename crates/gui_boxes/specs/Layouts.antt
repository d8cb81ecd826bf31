-- What a pass changes of what is told of objects, and what it keeps.
use Rattle.std.specs.Prelude.{◌≡◌, ℕ}
use Rattle.gui_base.specs.Forest.{Forest}
use Rattle.layout_defs.specs.Solving.{nowhere}
use Rattle.layout_defs.specs.Tables.{KeepsOthers}
use Rattle.gui_boxes.specs.Scrolls.{not_scrolled}
use Rattle.gui_boxes.specs.Settled.{Layout}

-- nothing but the boxes is another
abbrev pub ButBoxes : Layout → Layout → Type 0
ButBoxes old new = new ≡ record old { boxes = new.boxes }

-- nothing but the natural widths is, and so on
abbrev pub ButNaturalWidths : Layout → Layout → Type 0
ButNaturalWidths old new = new ≡ record old { natural_widths = new.natural_widths }

abbrev pub ButWidths : Layout → Layout → Type 0
ButWidths old new = new ≡ record old { widths = new.widths }

-- nothing but the widths and what is touched is
abbrev pub ButTouchedWidths : Layout → Layout → Type 0
ButTouchedWidths old new = new ≡ record old { widths = new.widths; touched = new.touched }

abbrev pub ButNaturalHeights : Layout → Layout → Type 0
ButNaturalHeights old new = new ≡ record old { natural_heights = new.natural_heights }

abbrev pub ButSlots : Layout → Layout → Type 0
ButSlots old new = new ≡ record old { slots = new.slots }

-- nothing but how far children reach and are moved is
abbrev pub ButScrolls : Layout → Layout → Type 0
ButScrolls old new = new ≡ record old { scrolls = new.scrolls }

-- nothing but the slots and how far children reach and are moved is
abbrev pub ButPlaces : Layout → Layout → Type 0
ButPlaces old new = new ≡ record old { slots = new.slots; scrolls = new.scrolls }

-- what was found has not changed but of the handles of a forest
pub record KeepsRest (old new : Layout) (f : Forest ℕ) : Type 0 where
  pub natural_widths : KeepsOthers 0 old.natural_widths new.natural_widths f
  pub widths : KeepsOthers 0 old.widths new.widths f
  pub natural_heights : KeepsOthers 0 old.natural_heights new.natural_heights f
  pub slots : KeepsOthers nowhere old.slots new.slots f
  pub scrolls : KeepsOthers not_scrolled old.scrolls new.scrolls f

-- nothing but the slots and what is touched is
abbrev pub ButTouchedSlots : Layout → Layout → Type 0
ButTouchedSlots old new = new ≡ record old { slots = new.slots; touched = new.touched }

-- nothing but those and how far children reach and are moved is
abbrev pub ButTouchedPlaces : Layout → Layout → Type 0
ButTouchedPlaces old new = new ≡ record old { slots = new.slots; scrolls = new.scrolls; touched = new.touched }

-- nothing but what is touched is
abbrev pub ButTouched : Layout → Layout → Type 0
ButTouched old new = new ≡ record old { touched = new.touched }

-- nothing but what is touched, and what was told last, is
abbrev pub ButTold : Layout → Layout → Type 0
ButTold old new = new ≡ record old { touched = new.touched; reported = new.reported }
