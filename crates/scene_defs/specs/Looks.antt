-- What the items of an object are made of.
use Rattle.std.specs.Prelude.{ℕ, List, Some, None, option_map}
use Rattle.std.specs.Str.{chars}
use Rattle.std.specs.declared.option.Option.{Option}
use Rattle.gui_base.specs.declared.props.Prop.TheVariants.{TextFont}
use Rattle.gui_base.specs.declared.words.Flag.TheVariants.{Scrollable}
use Rattle.gui_base.specs.declared.words.Part.TheVariants.{Main, Scrollbar, Indicator, Knob}
use Rattle.text_defs.specs.Fonts.{face}
use Rattle.text_defs.specs.Images.{Image, size_in}
use Rattle.widget_defs.specs.declared.ImageLook.{ImageLook}
use Rattle.widget_defs.specs.Looks.{Look, number_of}
use Rattle.scene_defs.specs.Row.{is_on}
use Rattle.scene_defs.specs.Scene.{Object, Scene, value}

-- the font of an object's text
abbrev pub font_at : Scene → ℕ → ℕ
font_at scene h = number_of (value scene h Main TextFont)

-- an image of this size
abbrev pub sized : ℕ → ℕ × ℕ → ImageLook
sized i size = record { id = i; w = size.0; h = size.1 }

-- the image of a number with its size, if there is one that is finished
abbrev pub image_look : List Image → Option ℕ → Option ImageLook
image_look images None = None
image_look images (Some i) = option_map (sized i) (size_in images i)

-- an object as its items show it, before it is known how far its children reach: its items and its sizes do not
-- go by that
abbrev pub look_of : Scene → Object → Look
look_of scene object = record {
  kind = object.row.kind;
  main = value scene object.handle Main;
  scrollbar = value scene object.handle Scrollbar;
  indicator = value scene object.handle Indicator;
  knob = value scene object.handle Knob;
  text = chars object.text;
  face = face scene.fonts (font_at scene object.handle);
  value = object.row.value;
  min = object.row.min;
  max = object.row.max;
  image = image_look scene.images object.row.image;
  scrollable = is_on object.row.flags Scrollable;
  reach = (0, 0);
  offset = (0, 0);
}
