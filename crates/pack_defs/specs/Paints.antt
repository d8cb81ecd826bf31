-- What an object paints, in the room that its kind takes.
use Rattle.std.specs.Prelude.{List, [], ◌∷◌, ◌++◌}
use Rattle.gui_base.specs.Area.{Rect}
use Rattle.pack_defs.specs.declared.ImagePaint.{ImagePaint}
use Rattle.pack_defs.specs.declared.PartPaint.{PartPaint}
use Rattle.pack_defs.specs.declared.TextPaint.{TextPaint}
use Rattle.widget_defs.specs.declared.ItemPaint.TheVariants.{Fill, Ring, Ink, Picture}
use Rattle.widget_defs.specs.Items.{Item}

-- what comes beside its own part
pub data More : Type 0 where
  NoMore : More
  OneText : Rect → TextPaint → More
  OneImage : Rect → ImagePaint → More
  OnePart : Rect → PartPaint → More
  TwoParts : Rect → PartPaint → Rect → PartPaint → More
  PartText : Rect → PartPaint → Rect → TextPaint → More

pub record Paints : Type 0 where
  pub place : Rect
  pub main : PartPaint
  pub more : More

-- a part: its fill, and the ring of its border
abbrev pub fill_item : Rect → PartPaint → Item
fill_item area part = record { area = area; paint = Fill part.fill part.fill_opa }

abbrev pub ring_item : Rect → PartPaint → Item
ring_item area part = record { area = area; paint = Ring part.width part.ring part.ring_opa }

abbrev pub part_items : Rect → PartPaint → List Item
part_items area part = fill_item area part ∷ ring_item area part ∷ []

abbrev pub text_item : Rect → TextPaint → Item
text_item area text = record { area = area; paint = Ink text.look text.color text.opa }

abbrev pub image_item : Rect → ImagePaint → Item
image_item area image = record { area = area; paint = Picture image.id image.recolor image.opa }

abbrev pub more_items : More → List Item
more_items NoMore = []
more_items (OneText area text) = text_item area text ∷ []
more_items (OneImage area image) = image_item area image ∷ []
more_items (OnePart area part) = part_items area part
more_items (TwoParts area part other_area other) = part_items area part ++ part_items other_area other
more_items (PartText area part text_area text) = part_items area part ++ text_item text_area text ∷ []

-- its items, from back to front
abbrev pub items_in : Paints → List Item
items_in paints = part_items paints.place paints.main ++ more_items paints.more
