-- How large what an object shows is by itself.
use Rattle.std.specs.Prelude.{ℕ, ◌+◌, max, Some, None}
use Rattle.std.specs.declared.option.Option.{Option}
use Rattle.gui_base.specs.declared.words.Kind.{Kind}
use Rattle.gui_base.specs.declared.props.Prop.TheVariants as prop
use Rattle.text_defs.specs.Lines.{measured}
use Rattle.widget_defs.specs.declared.ImageLook.{ImageLook}
use Rattle.widget_defs.specs.declared.kinds.Shown.{Shown}
use Rattle.widget_defs.specs.declared.kinds.Shown.TheVariants as shown
use Rattle.widget_defs.specs.Kinds.{shows}
use Rattle.widget_defs.specs.Looks.{Look, number_of, text_setting}

-- the widest run of its text in so many pixels at most, and the height of its lines
abbrev pub text_size : Look → Option ℕ → ℕ × ℕ
text_size look most = measured (text_setting look most) (number_of (look.main prop.TextLineSpace)) look.text

-- the size of an image, if there is one
abbrev pub image_size : Option ImageLook → ℕ × ℕ
image_size None = (0, 0)
image_size (Some image) = (image.w, image.h)

-- from the box of a checkbox to its text
abbrev pub text_offset : Look → ℕ
text_offset look = look.face.height + number_of (look.main prop.PadColumn)

-- the width of what is shown, in pixels
abbrev pub shown_width : Shown → Look → ℕ
shown_width shown.Text look = (text_size look None).0
shown_width shown.Picture look = (image_size look.image).0
shown_width shown.BoxAndText look = text_offset look + (text_size look None).0
shown_width what look = 0

-- the height of what is shown, in pixels, where the content area is so wide
abbrev pub shown_height : Shown → Look → ℕ → ℕ
shown_height shown.Text look content = (text_size look (Some content)).1
shown_height shown.Picture look content = (image_size look.image).1
shown_height shown.BoxAndText look content = max look.face.height (text_size look None).1
shown_height what look content = 0

-- the width of what a kind shows by itself
abbrev pub width_by : Kind → Look → ℕ
width_by kind look = shown_width (shows kind) look

-- the height of what a kind shows by itself, where the content area is so wide
abbrev pub height_by : Kind → Look → ℕ → ℕ
height_by kind look content = shown_height (shows kind) look content

-- the own width of an object
abbrev pub own_width : Look → ℕ
own_width look = width_by look.kind look

-- its own height, where its content area is so wide
abbrev pub own_height : Look → ℕ → ℕ
own_height look content = height_by look.kind look content
