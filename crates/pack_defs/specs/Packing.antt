-- The record that keeps the items of an object.
use Rattle.std.specs.Prelude.{ℕ, Some, None, List, [], ◌∷◌}
use Rattle.std.specs.declared.option.Option.{Option}
use Rattle.gui_base.specs.Area.{Rect}
use Rattle.gui_base.specs.declared.color.Rgb565.{Rgb565}
use Rattle.pack_defs.specs.declared.PartPaint.{PartPaint}
use Rattle.pack_defs.specs.Paints.{Paints, More}
use Rattle.pack_defs.specs.Paints.More.{NoMore, OneText, OneImage, OnePart, TwoParts, PartText}
use Rattle.widget_defs.specs.declared.ItemPaint.{ItemPaint}
use Rattle.widget_defs.specs.declared.ItemPaint.TheVariants.{Fill, Ring, Ink, Picture}
use Rattle.widget_defs.specs.Items.{Item}

-- the colour of what an item paints, and its opacity
abbrev pub color_of : ItemPaint → Rgb565
color_of (Fill color opa) = color
color_of (Ring width color opa) = color
color_of (Ink look color opa) = color
color_of (Picture image recolor opa) = recolor

abbrev pub opa_of : ItemPaint → ℕ
opa_of (Fill color opa) = opa
opa_of (Ring width color opa) = opa
opa_of (Ink look color opa) = opa
opa_of (Picture image recolor opa) = opa

-- how wide a ring is
abbrev pub width_of : ItemPaint → ℕ
width_of (Ring width color opa) = width
width_of paint = 0

-- a part by its fill and its ring
abbrev pub part_of : ItemPaint → ItemPaint → PartPaint
part_of fill ring =
    record {
      fill = color_of fill;
      fill_opa = opa_of fill;
      width = width_of ring;
      ring = color_of ring;
      ring_opa = opa_of ring;
    }

-- a text or an image
abbrev pub one_of : Rect → ItemPaint → More
one_of area (Ink look color opa) = OneText area (record { look = look; color = color; opa = opa })
one_of area (Picture image recolor opa) = OneImage area (record { id = image; recolor = recolor; opa = opa })
one_of area paint = NoMore

-- a part, and a text over it
abbrev pub part_text_of : Rect → PartPaint → Rect → ItemPaint → More
part_text_of area part text_area (Ink look color opa) =
    PartText area part text_area (record { look = look; color = color; opa = opa })
part_text_of area part text_area paint = OnePart area part

-- what stands behind the items of the own part
abbrev pub more_of : List Item → More
more_of [] = NoMore
more_of (one ∷ []) = one_of one.area one.paint
more_of (fill ∷ ring ∷ []) = OnePart fill.area (part_of fill.paint ring.paint)
more_of (fill ∷ ring ∷ text ∷ []) =
    part_text_of fill.area (part_of fill.paint ring.paint) text.area text.paint
more_of (fill ∷ ring ∷ other_fill ∷ other_ring ∷ []) =
    TwoParts fill.area (part_of fill.paint ring.paint) other_fill.area
    (part_of other_fill.paint other_ring.paint)
more_of items = NoMore

-- the record of an object: none where it has no part of its own
abbrev pub packed : List Item → Option Paints
packed (fill ∷ ring ∷ more) =
    Some (record { place = fill.area; main = part_of fill.paint ring.paint; more = more_of more })
packed items = None
