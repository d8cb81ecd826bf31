-- Children as items of a flow.
use Rattle.std.specs.Prelude.{ℕ}
use Rattle.layout_defs.specs.Boxes.{Box}
use Rattle.layout_defs.specs.Flex.{TrackItem}
use Rattle.layout_defs.specs.Solving.{width_item, height_item}
use Rattle.gui_boxes.specs.declared.entry.Entry.{Entry}
use Rattle.gui_boxes.specs.declared.sizing.Sizing.{Sizing}
use Rattle.gui_boxes.specs.declared.sizing.Sizing.TheVariants.{Widths, Naturals, Sizes}
use Rattle.gui_boxes.specs.Settled.{Known, wide_of, tall_of}
use Rattle.gui_boxes.specs.Slots.{flow_item, slot_of}
use Rattle.gui_boxes.specs.Views.{box_of}

-- a child by its entry
abbrev pub kid_by : ℕ → Entry → Known
kid_by h e = record {
  box = box_of h e.wanted;
  natural_width = e.natural_width.pixels;
  width = e.width.pixels;
  natural_height = e.natural_height.pixels;
  slot = slot_of e.position;
}

abbrev pub known_box : Known → Box
known_box k = k.box

-- a child as an item
abbrev pub sized : Sizing → Known → TrackItem
sized (Widths room) k = width_item room (wide_of k)
sized Naturals k = height_item (tall_of k)
sized (Sizes course room) k = flow_item course room (tall_of k)
