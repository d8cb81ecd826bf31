-- What the definitions see of boxes by handle.
use Rattle.std.specs.Prelude.{ℕ, false, pos, List, Some, None, slice_index_or}
use Rattle.std.specs.declared.option.Option.{Option}
use Rattle.gui_base.specs.declared.words.Placing.TheVariants.{Start}
use Rattle.gui_base.specs.declared.words.Length.TheVariants.{Pixels}
use Rattle.layout_defs.specs.declared.Side.TheVariants.{Near}
use Rattle.gui_base.specs.declared.words.Flow.TheVariants.{Free as NoFlow}
use Rattle.layout_defs.specs.Boxes.{Axis, Box}
use Rattle.gui_flex.specs.Items.{placings_of}
use Rattle.gui_boxes.specs.declared.axis.Axis.{Axis as WantedAxis}
use Rattle.gui_boxes.specs.declared.layout_box.LayoutBox.{LayoutBox}

abbrev pub axis_of : WantedAxis → Axis
axis_of a = record {
  size = a.size;
  side = a.side;
  wanted = a.wanted;
  before = a.before;
  after = a.after;
  gap = a.gap;
  scroll = a.scroll;
}

abbrev pub box_of : ℕ → LayoutBox → Box
box_of h b = record {
  handle = h;
  hidden = b.hidden;
  across = axis_of b.across;
  down = axis_of b.down;
  flow = b.flow;
  places = placings_of b.places;
  grow = b.grow;
  scrollable = b.scrollable;
  own_width = b.own_width;
  own_height = λ _. b.own_height;
}

abbrev pub no_axis : Axis
no_axis = record { size = Pixels 0; side = Near; wanted = pos 0; before = 0; after = 0; gap = 0; scroll = 0 }

abbrev pub no_box : ℕ → Box
no_box h = record {
  handle = h;
  hidden = false;
  across = no_axis;
  down = no_axis;
  flow = NoFlow;
  places = record { main = Start; cross = Start; track = Start };
  grow = 0;
  scrollable = false;
  own_width = 0;
  own_height = λ _. 0;
}

abbrev pub box_or : ℕ → Option LayoutBox → Box
box_or h None = no_box h
box_or h (Some b) = box_of h b

-- the box of a handle
abbrev pub box_at : List (Option LayoutBox) → ℕ → Box
box_at boxes h = box_or h (slice_index_or boxes h None)
