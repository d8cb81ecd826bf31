-- Where solving asks for own heights: once for each object, at its solved width.
use Rattle.std.specs.Prelude.{◌≡◌, ℕ, List, map}
use Rattle.gui_base.specs.Forest.{Forest, map_forest, roots}
use Rattle.layout_defs.specs.Boxes.{Box, inner}
use Rattle.layout_defs.specs.Solving.{Wide, Widened, Tall, Slot, Placed, stand_of, solved}
use Rattle.layout_defs.specs.Solving.{with_natural_widths, with_widths, with_natural_heights, with_slots}

-- a box but for its own height
abbrev pub but_height : Box → Box
but_height box = record box { own_height = λ _. 0 }

-- a box that has one own height for all widths: the one where it is so wide
abbrev pub fixed_at : ℕ → Box → Box
fixed_at width box = record box { own_height = λ _. box.own_height (inner box.across width) }

-- the same of what each step knows of an object
abbrev pub but_height_wide : Wide → Wide
but_height_wide w = record w { box = but_height w.box }

abbrev pub but_height_widened : Widened → Widened
but_height_widened w = record w { box = but_height w.box }

abbrev pub but_height_tall : Tall → Tall
but_height_tall tall = record tall { box = but_height tall.box }

abbrev pub but_height_placed : Placed → Placed
but_height_placed p = record p { tall = but_height_tall p.tall }

abbrev pub fixed_widened : Widened → Widened
fixed_widened w = record w { box = fixed_at w.width w.box }

abbrev pub fixed_tall : Tall → Tall
fixed_tall tall = record tall { box = fixed_at tall.width tall.box }

-- natural widths, widths and slots are the same without own heights
abbrev pub NaturalWidthsAskNone : Type 0
NaturalWidthsAskNone =
    (f : Forest Box) →
    with_natural_widths (map_forest but_height f) ≡ map_forest but_height_wide (with_natural_widths f)

abbrev pub WidthsAskNone : Type 0
WidthsAskNone =
    (ws : List ℕ) (f : Forest Wide) →
    with_widths ws (map_forest but_height_wide f) ≡ map_forest but_height_widened (with_widths ws f)

abbrev pub SlotsAskNone : Type 0
SlotsAskNone =
    (slots : List Slot) (f : Forest Tall) →
    with_slots slots (map_forest but_height_tall f) ≡ map_forest but_height_placed (with_slots slots f)

-- natural heights are the same where own heights are fixed at the solved widths
abbrev pub NaturalHeightsAskAtWidths : Type 0
NaturalHeightsAskAtWidths =
    (f : Forest Widened) →
    with_natural_heights (map_forest fixed_widened f) ≡ map_forest fixed_tall (with_natural_heights f)

-- the boxes of trees whose roots are so wide, with own heights that are fixed at their solved widths
abbrev pub fixed_in : ℕ → Forest Box → Forest Box
fixed_in width f =
    let wide = with_natural_widths f in
    map_forest (λ (w : Widened). fixed_at w.width w.box) (with_widths (map (λ _. width) (roots wide)) wide)

-- so all stand where they do with those, and reach as far
abbrev pub PlacesAskAtWidths : Type 0
PlacesAskAtWidths =
    (width height : ℕ) (f : Forest Box) →
    map_forest stand_of (solved width height (fixed_in width f)) ≡ map_forest stand_of (solved width height f)
