-- Whether areas, items and lists of items are the same. Two empty areas are.
use Rattle.std.specs.Prelude.{Bool, true, false, ◌==◌, ◌&&◌, ◌||◌, List, [], ◌∷◌, Some, None}
use Rattle.std.specs.declared.option.Option.{Option}
use Rattle.std.specs.Ordering.{int_eq}
use denote.Enum.Bare.{sameb}
use Rattle.gui_base.specs.contracts.words.TextAlign as text_align
use Rattle.gui_base.specs.declared.color.Rgb565.{Rgb565}
use Rattle.gui_base.specs.declared.words.TextAlign.{TextAlign}
use Rattle.gui_base.specs.Area.{Rect, is_empty}
use Rattle.text_defs.specs.declared.TextLook.{TextLook}
use Rattle.widget_defs.specs.declared.ItemPaint.{ItemPaint}
use Rattle.widget_defs.specs.declared.ItemPaint.TheVariants.{Fill, Ring, Ink, Picture}
use Rattle.widget_defs.specs.Items.{Item}

-- whether two areas have the same corners
abbrev pub same_corners : Rect → Rect → Bool
same_corners a b = (int_eq a.x1 b.x1 && int_eq a.y1 b.y1) && (int_eq a.x2 b.x2 && int_eq a.y2 b.y2)

-- whether two areas have the same pixels
abbrev pub same_area : Rect → Rect → Bool
same_area a b = (is_empty a && is_empty b) || same_corners a b

-- what is seen of an object, where something is
abbrev pub same_visible : Option Rect → Option Rect → Bool
same_visible None None = true
same_visible None (Some b) = false
same_visible (Some a) None = false
same_visible (Some a) (Some b) = same_corners a b

-- whether two colours are the same
abbrev pub same_color : Rgb565 → Rgb565 → Bool
same_color a b = a.0 == b.0

-- whether two alignments of a text are the same
abbrev pub same_align : TextAlign → TextAlign → Bool
same_align a b = sameb text_align.the_type a b

-- the same font, spaces and alignment
abbrev pub same_look : TextLook → TextLook → Bool
same_look a b =
    (a.font == b.font && a.letter == b.letter) && (a.line == b.line && same_align a.align b.align)

-- Whether two paints are of one kind and have the same numbers. The text of an object is no part of its
-- paints: it is another one only after a change that names the object.
abbrev pub same_paint : ItemPaint → ItemPaint → Bool
same_paint (Fill c m) (Fill d n) = same_color c d && (m == n)
same_paint (Ring v c m) (Ring w d n) = (v == w) && (same_color c d && (m == n))
same_paint (Ink l c m) (Ink k d n) = same_look l k && (same_color c d && (m == n))
same_paint (Picture i c m) (Picture j d n) = (i == j) && (same_color c d && (m == n))
same_paint a b = false

-- whether two items paint the same on the same area
abbrev pub same_item : Item → Item → Bool
same_item a b = same_area a.area b.area && same_paint a.paint b.paint

-- whether two lists are as long, and their elements the same one by one
abbrev pub same_by : {A : Type 0} → (A → A → Bool) → List A → List A → Bool
same_by same [] [] = true
same_by same [] (b ∷ bs) = false
same_by same (a ∷ as') [] = false
same_by same (a ∷ as') (b ∷ bs) = same a b && same_by same as' bs
