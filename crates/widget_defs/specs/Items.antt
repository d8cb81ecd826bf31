-- What an object paints.
use Rattle.std.specs.Prelude.{ℕ, ◌+◌, ◌-◌, ◌*◌, ◌/◌, ◌%◌, min, max, ◌==◌, if◌then◌else◌, List, [], ◌∷◌, ◌++◌, Some, None}
use Rattle.std.specs.Prelude.{ℤ, pos, ◌+ℤ◌, ◌-ℤ◌}
use Rattle.std.specs.declared.option.Option.{Option}
use Rattle.gui_base.specs.declared.color.Rgb565.{Rgb565}
use Rattle.gui_base.specs.declared.words.Kind.{Kind}
use Rattle.gui_base.specs.declared.props.Prop.{Prop}
use Rattle.gui_base.specs.declared.props.Prop.TheVariants as prop
use Rattle.gui_base.specs.Area.{Rect, area_at, common, width_of, height_of}
use Rattle.gui_base.specs.Color.{color}
use Rattle.text_defs.specs.declared.TextLook.{TextLook}
use Rattle.widget_defs.specs.declared.ImageLook.{ImageLook}
use Rattle.widget_defs.specs.declared.ItemPaint.{ItemPaint}
use Rattle.widget_defs.specs.declared.ItemPaint.TheVariants.{Fill, Ring, Ink, Picture}
use Rattle.widget_defs.specs.declared.kinds.Shown.{Shown}
use Rattle.widget_defs.specs.declared.kinds.Shown.TheVariants as shown
use Rattle.widget_defs.specs.Kinds.{shows}
use Rattle.widget_defs.specs.Looks.{Look, PartValues, number_of, text_look, left_look}
use Rattle.widget_defs.specs.Sizes.{text_size, text_offset}

-- an item of an object: what it paints, and where
pub record Item : Type 0 where
  pub area : Rect
  pub paint : ItemPaint

-- a colour of eight bits a channel as one of sixteen bits
abbrev pub rgb_of : ℤ → Rgb565
rgb_of value = let n = number_of value in color (n / 65536 / 8) (n / 256 % 256 / 4) (n % 256 / 8)

-- the fill of an area in the background colour of a part
abbrev pub fill_of : Rect → PartValues → Item
fill_of area values =
    record { area = area; paint = Fill (rgb_of (values prop.BgColor)) (number_of (values prop.BgOpa)) }

-- the ring of the border of a part, along the inside of an area
abbrev pub ring_of : Rect → PartValues → Item
ring_of area values =
    record {
      area = area;
      paint =
          Ring (number_of (values prop.BorderWidth)) (rgb_of (values prop.BorderColor))
          (number_of (values prop.BorderOpa));
    }

-- a part in an area: its fill, and the ring of its border
abbrev pub part_of : Rect → PartValues → List Item
part_of area values = fill_of area values ∷ ring_of area values ∷ []

-- a text in an area, set so
abbrev pub ink_of : Rect → PartValues → TextLook → Item
ink_of area values look =
    record {
      area = area;
      paint = Ink look (rgb_of (values prop.TextColor)) (number_of (values prop.TextOpa));
    }

-- border and pad at one side
abbrev pub inset : PartValues → Prop → ℕ
inset values pad = number_of (values prop.BorderWidth) + number_of (values pad)

-- the content area of an object of this area: without border and pad at each side
abbrev pub content_of : Rect → PartValues → Rect
content_of area values =
    area_at (area.x1 +ℤ pos (inset values prop.PadLeft)) (area.y1 +ℤ pos (inset values prop.PadTop))
    (width_of area - (inset values prop.PadLeft + inset values prop.PadRight))
    (height_of area - (inset values prop.PadTop + inset values prop.PadBottom))

-- of so many pixels those that the value fills, as it lies in its range
abbrev pub share_of : Look → ℕ → ℕ
share_of look n = n * number_of (look.value -ℤ look.min) / number_of (look.max -ℤ look.min)

-- the first columns of a content area, as the value fills them
abbrev pub share_area : Look → Rect → Rect
share_area look content =
    area_at content.x1 content.y1 (share_of look (width_of content)) (height_of content)

-- the side of a knob: the lesser side of the content area
abbrev pub knob_side : Rect → ℕ
knob_side content = min (width_of content) (height_of content)

-- the square of a knob, where the value puts it
abbrev pub knob_area : Look → Rect → Rect
knob_area look content =
    let side = knob_side content in
    area_at (content.x1 +ℤ pos (share_of look (width_of content - side))) content.y1 side side

-- the box of a checkbox, a square as high as a line
abbrev pub box_area : Look → Rect → Rect
box_area look content = area_at content.x1 content.y1 look.face.height look.face.height

-- the area of a checkbox's text, right of its box and as large as the text is by itself
abbrev pub caption_area : Look → Rect → Rect
caption_area look content =
    let size = text_size look None in
    area_at (content.x1 +ℤ pos (text_offset look)) content.y1 size.0 size.1

-- an image at the top left of a content area, cut to it
abbrev pub image_area : ImageLook → Rect → Rect
image_area image content =
    area_at content.x1 content.y1 (min image.w (width_of content)) (min image.h (height_of content))

-- an image in its area, if there is one
abbrev pub picture_of : Option ImageLook → PartValues → Rect → List Item
picture_of None values content = []
picture_of (Some image) values content =
    record {
      area = image_area image content;
      paint = Picture image.id (rgb_of (values prop.ImgRecolor)) (number_of (values prop.ImgOpa));
    }
    ∷ []

-- what is painted in a content area
abbrev pub shown_items : Shown → Look → Rect → List Item
shown_items shown.Nothing look content = []
shown_items shown.Text look content = ink_of content look.main (text_look look.main) ∷ []
shown_items shown.Picture look content = picture_of look.image look.main content
shown_items shown.Share look content = part_of (share_area look content) look.indicator
shown_items shown.ShareAndKnob look content =
    part_of (share_area look content) look.indicator ++ part_of (knob_area look content) look.knob
shown_items shown.BoxAndText look content =
    part_of (box_area look content) look.indicator
    ++ ink_of (caption_area look content) look.main (left_look look.main) ∷ []

-- what the kind of an object paints in its content area
abbrev pub content_items : Kind → Look → Rect → List Item
content_items kind look content = shown_items (shows kind) look content

-- what an object of this area paints behind its children, from back to front
abbrev pub items : Look → Rect → List Item
items look area =
    part_of area look.main ++ content_items look.kind look (content_of area look.main)

-- Bars. So long is the bar of a direction in which an object, and in it its content area, are so large, and
-- its children reach so far.
abbrev pub bar_length : ℕ → ℕ → ℕ → ℕ
bar_length size inner reach = min size (max 8 (size * inner / (inner + reach)))

-- where it begins, if it is so long and the children are moved so far
abbrev pub bar_start : ℕ → ℕ → ℕ → ℕ → ℕ
bar_start size length reach offset = (size - length) * offset / reach

-- the bar at the right of an object, four pixels wide and cut to the object
abbrev pub right_bar : Look → Rect → Rect
right_bar look area =
    let high = height_of area in
    let length = bar_length high (height_of (content_of area look.main)) look.reach.1 in
    let start = bar_start high length look.reach.1 look.offset.1 in
    common area (area_at (area.x2 -ℤ pos 3) (area.y1 +ℤ pos start) 4 length)

-- the bar at the bottom of an object, four pixels high and cut to the object
abbrev pub bottom_bar : Look → Rect → Rect
bottom_bar look area =
    let wide = width_of area in
    let length = bar_length wide (width_of (content_of area look.main)) look.reach.0 in
    let start = bar_start wide length look.reach.0 look.offset.0 in
    common area (area_at (area.x1 +ℤ pos start) (area.y2 -ℤ pos 3) length 4)

-- the bar of a direction in which the children reach so far: none where they fit
abbrev pub bar_if : ℕ → Rect → PartValues → List Item
bar_if reach bar values = if reach == 0 then [] else fill_of bar values ∷ []

-- what an object of this area paints over its children, from back to front
abbrev pub bars : Look → Rect → List Item
bars look area =
    if look.scrollable then
    bar_if look.reach.1 (right_bar look area) look.scrollbar
    ++ bar_if look.reach.0 (bottom_bar look area) look.scrollbar
    else []
