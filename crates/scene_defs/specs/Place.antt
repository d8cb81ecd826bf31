-- Where objects stand: the boxes of all of them are solved by the rules of layout.
use Rattle.std.specs.Prelude.{ℕ, ◌+◌, option_map, pos}
use Rattle.std.specs.declared.option.Option.{Option}
use Rattle.gui_base.specs.declared.props.Prop.{Prop}
use Rattle.gui_base.specs.declared.props.Prop.TheVariants.{BorderWidth, PadLeft, PadRight, PadTop, PadBottom}
use Rattle.gui_base.specs.declared.props.Prop.TheVariants.{PadRow, PadColumn}
use Rattle.gui_base.specs.declared.words.Flag.TheVariants.{Hidden, Scrollable}
use Rattle.gui_base.specs.declared.words.Part.TheVariants.{Main}
use Rattle.gui_base.specs.Area.{Rect, area_at, nat_of}
use Rattle.gui_base.specs.Forest.{Forest, map_forest}
use Rattle.layout_defs.specs.Boxes.{Axis, Box, side_across, side_down}
use Rattle.layout_defs.specs.Laws.{row_by, is_placed_at}
use Rattle.layout_defs.specs.Solving.{Placed, Span, place_of, offset_at, solved}
use Rattle.widget_defs.specs.Sizes.{own_width, own_height}
use Rattle.scene_defs.specs.declared.Row.{Row}
use Rattle.scene_defs.specs.Looks.{look_of}
use Rattle.scene_defs.specs.Row.{is_on}
use Rattle.scene_defs.specs.Scene.{Object, Scene, value}

-- all pixels of the panel
abbrev pub panel_of : Scene → Rect
panel_of scene = area_at (pos 0) (pos 0) scene.limits.width scene.limits.height

-- a value of the main part of h that is a number of pixels
abbrev pub pixels_of : Scene → ℕ → Prop → ℕ
pixels_of scene h prop = nat_of (value scene h Main prop)

-- the border and the pad on one side of h
abbrev pub inset_of : Scene → ℕ → Prop → ℕ
inset_of scene h pad = pixels_of scene h BorderWidth + pixels_of scene h pad

-- what is wanted of an object across
abbrev pub across_of : Scene → ℕ → Row → Axis
across_of scene h row = record {
  size = row.width;
  side = side_across row.align;
  wanted = row.x;
  before = inset_of scene h PadLeft;
  after = inset_of scene h PadRight;
  gap = pixels_of scene h PadColumn;
  scroll = nat_of row.scroll_x;
}

-- what is wanted of an object down
abbrev pub down_of : Scene → ℕ → Row → Axis
down_of scene h row = record {
  size = row.height;
  side = side_down row.align;
  wanted = row.y;
  before = inset_of scene h PadTop;
  after = inset_of scene h PadBottom;
  gap = pixels_of scene h PadRow;
  scroll = nat_of row.scroll_y;
}

-- what layout knows of an object
abbrev pub box_of : Scene → Object → Box
box_of scene object = record {
  handle = object.handle;
  hidden = is_on object.row.flags Hidden;
  across = across_of scene object.handle object.row;
  down = down_of scene object.handle object.row;
  flow = object.row.flow;
  places = record { main = object.row.places.0; cross = object.row.places.1; track = object.row.places.2 };
  grow = object.row.grow;
  scrollable = is_on object.row.flags Scrollable;
  own_width = own_width (look_of scene object);
  own_height = own_height (look_of scene object);
}

-- the boxes of all objects, in their trees
abbrev pub boxes_of : Scene → Forest Box
boxes_of scene = map_forest (box_of scene) scene.trees

-- where all objects stand, their roots filling the panel
abbrev pub solved_of : Scene → Forest Placed
solved_of scene = solved scene.limits.width scene.limits.height (boxes_of scene)

-- the area of h, if it is there
unfoldable pub place : Scene → ℕ → Option Rect
place scene h = option_map place_of (row_by (is_placed_at h) (solved_of scene))

-- how far the children of a placed object reach out of its content area
abbrev reach_of : Placed → Span
reach_of p = p.reach

-- how far the children of h reach out of its content area to the right and to the bottom, in pixels, if it is there
unfoldable pub reach : Scene → ℕ → Option Span
reach scene h = option_map reach_of (row_by (is_placed_at h) (solved_of scene))

-- how far h moves its children to the left and upward, in pixels, if it is there
unfoldable pub offset : Scene → ℕ → Option Span
offset scene h = option_map offset_at (row_by (is_placed_at h) (solved_of scene))
