-- Places object by object: what is known of an object fits what is known of its children.
use Rattle.std.specs.Prelude.{◌≡◌, ℕ, Bool, true, false, not, ◌&&◌, List, [], ◌∷◌, map}
use Rattle.std.specs.Prelude.{slice_index, slice_index_or, pos, Option}
use Rattle.gui_base.specs.Forest.{Forest, Empty, Tree, roots, map_forest}
use Rattle.gui_base.specs.declared.words.Length.{Length}
use Rattle.gui_base.specs.declared.words.Length.TheVariants.{Pixels, Percent, Content}
use Rattle.layout_defs.specs.declared.Course.{Course}
use Rattle.layout_defs.specs.declared.Course.TheVariants.{Free, Across, Down}
use Rattle.layout_defs.specs.Boxes.{Box, course_of, inner}
use Rattle.layout_defs.specs.Solving.{Wide, Tall, Slot, nowhere, width_in, own_slot, room_of}
use Rattle.layout_defs.specs.Solving.{natural_width, kid_widths, natural_height, kid_slots}
use Rattle.gui_boxes.specs.Scrolls.{Scrolled}
use Rattle.gui_boxes.specs.Standing.{Standing}
use Rattle.gui_boxes.specs.declared.layout_box.LayoutBox.{LayoutBox}

-- what is known of an object
pub record Known : Type 0 where
  pub box : Box
  pub natural_width : ℕ
  pub width : ℕ
  pub natural_height : ℕ
  pub slot : Slot

abbrev pub wide_of : Known → Wide
wide_of k = record { box = k.box; natural = k.natural_width }

abbrev pub tall_of : Known → Tall
tall_of k = record { box = k.box; width = k.width; natural_height = k.natural_height }

abbrev pub width_of : Known → ℕ
width_of k = k.width

abbrev pub slot_of : Known → Slot
slot_of k = k.slot

-- its natural width is the one that follows from its children, and so on
abbrev pub NaturalWidthFits : Known → List Known → Type 0
NaturalWidthFits k kids = k.natural_width ≡ natural_width k.box (map wide_of kids)

abbrev pub WidthsFit : Known → List Known → Type 0
WidthsFit k kids = map width_of kids ≡ kid_widths k.box k.width (map wide_of kids)

abbrev pub NaturalHeightFits : Known → List Known → Type 0
NaturalHeightFits k kids = k.natural_height ≡ natural_height k.box k.width (map tall_of kids)

abbrev pub SlotsFit : Known → List Known → Type 0
SlotsFit k kids = map slot_of kids ≡ kid_slots (tall_of k) k.slot (map tall_of kids)

-- its natural sizes are those that follow from its children, and theirs follow from it
pub record Fits (k : Known) (kids : List Known) : Type 0 where
  pub natural_width : NaturalWidthFits k kids
  pub widths : WidthsFit k kids
  pub natural_height : NaturalHeightFits k kids
  pub slots : SlotsFit k kids

-- of each object of these trees, with its children
abbrev pub EachKids : (Known → List Known → Type 0) → Forest Known → Type 0
EachKids P Empty = Unit {0}
EachKids P (Tree k cs rest) = P k (roots cs) × EachKids P cs × EachKids P rest

-- so do those of all objects of these trees
abbrev pub AllFit : Forest Known → Type 0
AllFit Empty = Unit {0}
AllFit (Tree k cs rest) = Fits k (roots cs) × AllFit cs × AllFit rest

-- what is found by handle
pub record Layout : Type 0 where
  pub boxes : List (Option LayoutBox)
  pub natural_widths : List ℕ
  pub widths : List ℕ
  pub natural_heights : List ℕ
  pub slots : List Slot
  pub scrolls : List Scrolled
  pub touched : List Bool
  pub reported : List Standing

abbrev pub known_at : (ℕ → Box) → Layout → ℕ → Known
known_at box l h = record {
  box = record (box h) { handle = h };
  natural_width = slice_index l.natural_widths h;
  width = slice_index l.widths h;
  natural_height = slice_index l.natural_heights h;
  slot = slice_index_or l.slots h nowhere;
}

abbrev pub known : (ℕ → Box) → Layout → Forest ℕ → Forest Known
known box l f = map_forest (known_at box l) f

-- a root that fills a panel
abbrev pub corner : ℕ → Slot
corner height = record { x = pos 0; y = pos 0; height = height }

pub record FillsPanel (width height : ℕ) (k : Known) : Type 0 where
  pub is_wide : k.width ≡ width
  pub at_corner : k.slot ≡ corner height

-- whether each of these does
abbrev pub AllFill : ℕ → ℕ → List Known → Type 0
AllFill width height [] = Unit {0}
AllFill width height (k ∷ ks) = FillsPanel width height k × AllFill width height ks

-- the objects of these trees are settled on a panel
pub record IsSettled (width height : ℕ) (trees : Forest Known) : Type 0 where
  pub fit : AllFit trees
  pub fill : AllFill width height (roots trees)

-- whether a size is that of the content
abbrev pub is_content : Length → Bool
is_content (Pixels n) = false
is_content (Percent n) = false
is_content Content = true

-- whether children stand by themselves
abbrev pub is_free : Course → Bool
is_free Free = true
is_free Across = false
is_free Down = false

-- whether an object's natural sizes do not go by its children, and it lets them stand by themselves and does not
-- move them
abbrev pub is_steady : Box → Bool
is_steady box =
    is_free (course_of box.flow)
    && (not box.scrollable && (not (is_content box.across.size) && not (is_content box.down.size)))

-- such an object
pub record IsSteady (box : Box) : Type 0 where
  pub free : course_of box.flow ≡ Free
  pub still : box.scrollable ≡ false
  pub wide : is_content box.across.size ≡ false
  pub high : is_content box.down.size ≡ false

-- a child stands by itself in the content area of its parent
pub record StandsFree (parent kid : Known) : Type 0 where
  pub is_wide : kid.width ≡ width_in (inner parent.box.across parent.width) (wide_of kid)
  pub stands : kid.slot ≡ own_slot (room_of (tall_of parent) parent.slot) (tall_of kid)
