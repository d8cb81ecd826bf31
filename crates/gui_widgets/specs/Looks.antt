-- What a contract sees of a look and of items.
use Rattle.std.specs.Prelude.{◌≤◌, length, List, map, pos, negsuc, ◌≤ℤ◌}
use Rattle.std.specs.Str.{chars}
use Rattle.gui_base.specs.Corners.{rect_of}
use Rattle.gui_base.specs.declared.props.Prop.TheVariants.{TextFont}
use Rattle.gui_font.specs.Sets.{face_in}
use Rattle.widget_defs.specs.Items.{Item as Painted}
use Rattle.widget_defs.specs.Looks.{Look as Widget, IsRanged, AreValues, value_in, number_of}
use Rattle.gui_widgets.specs.declared.look.Item.{Item}
use Rattle.gui_widgets.specs.declared.look.Look.{Look}

-- the widget that a look shows
abbrev pub widget_of : Look → Widget
widget_of look =
    record {
      kind = look.kind;
      main = value_in look.main;
      scrollbar = value_in look.scrollbar;
      indicator = value_in look.indicator;
      knob = value_in look.knob;
      text = chars look.text.now;
      face = face_in look.fonts.now (number_of (value_in look.main TextFont));
      value = look.value;
      min = look.min;
      max = look.max;
      image = look.image;
      scrollable = look.scrollable;
      reach = look.reach;
      offset = look.offset;
    }

-- the values of its parts are those of their properties, its text is not too long, its value lies in its
-- range, and its offsets are no more than its reaches
pub record IsLook (look : Look) : Type 0 where
  pub main : AreValues (value_in look.main)
  pub scrollbar : AreValues (value_in look.scrollbar)
  pub indicator : AreValues (value_in look.indicator)
  pub knob : AreValues (value_in look.knob)
  pub short : length look.text.now ≤ 1000
  pub ranged : IsRanged (widget_of look)
  pub low : negsuc 9999 ≤ℤ look.min
  pub high : look.max ≤ℤ pos 10000
  pub across : look.offset.0 ≤ look.reach.0
  pub down : look.offset.1 ≤ look.reach.1

abbrev pub item_of : Item → Painted
item_of item = record { area = rect_of item.area; paint = item.paint }

abbrev pub items_of : List Item → List Painted
items_of items = map item_of items
