-- What objects paint.
use Rattle.std.specs.Prelude.{ℕ, Some, None, List, [], map, ℤ}
use Rattle.std.specs.Str.{chars}
use Rattle.std.specs.declared.option.Option.{Option}
use Rattle.gui_base.specs.declared.color.Rgb565.{Rgb565}
use Rattle.gui_base.specs.Area.{Rect}
use Rattle.gui_base.specs.Coats.{Coat, laid, fill_coat, ring_coat}
use Rattle.text_defs.specs.Coats.{ink_coat, picture_coat}
use Rattle.text_defs.specs.Fonts.{Font, face}
use Rattle.text_defs.specs.Images.{Image}
use Rattle.widget_defs.specs.declared.ItemPaint.{ItemPaint}
use Rattle.widget_defs.specs.declared.ItemPaint.TheVariants.{Fill, Ring, Ink, Picture}
use Rattle.widget_defs.specs.Items.{Item}
use Rattle.widget_defs.specs.Items as widget
use Rattle.widget_defs.specs.Looks.{Look}
use Rattle.layout_defs.specs.Solving.{Span}
use Rattle.scene_defs.specs.Looks.{look_of}
use Rattle.scene_defs.specs.Place.{place, reach, offset}
use Rattle.scene_defs.specs.Scene.{Object, Scene, object_at}

-- what an object paints, if it is there
abbrev pub items_of : Scene → Option Object → Option Rect → List Item
items_of scene None area = []
items_of scene (Some object) None = []
items_of scene (Some object) (Some area) = widget.items (look_of scene object) area

-- what h paints behind its children, if it is there
abbrev pub items : Scene → ℕ → List Item
items scene h = items_of scene (object_at scene h) (place scene h)

-- so many pixels across and down, none where nothing is known
abbrev pub pair_of : Option Span → ℕ × ℕ
pair_of None = (0, 0)
pair_of (Some span) = (span.across, span.down)

-- an object as its bars show it
abbrev pub bar_look : Scene → Object → Look
bar_look scene object = record (look_of scene object) {
  reach = pair_of (reach scene object.handle);
  offset = pair_of (offset scene object.handle);
}

-- the bars that an object shows over its children, if it is there
abbrev pub bars_of : Scene → Option Object → Option Rect → List Item
bars_of scene None area = []
bars_of scene (Some object) None = []
bars_of scene (Some object) (Some area) = widget.bars (bar_look scene object) area

-- the bars that h shows over its children, if it is there
abbrev pub bars : Scene → ℕ → List Item
bars scene h = bars_of scene (object_at scene h) (place scene h)

-- the characters of an object's text
abbrev pub chars_of : Option Object → List ℕ
chars_of None = []
chars_of (Some object) = chars object.text

-- the characters of the text of h
abbrev pub chars_at : Scene → ℕ → List ℕ
chars_at scene h = chars_of (object_at scene h)

-- what an item of this area lays on each pixel, with these fonts and images, where its object has such a text
abbrev pub coat_of : List Font → List Image → List ℕ → Rect → ItemPaint → Coat
coat_of fonts images text area (Fill color opa) = fill_coat area color opa
coat_of fonts images text area (Ring width color opa) = ring_coat area width color opa
coat_of fonts images text area (Ink look color opa) = ink_coat area (face fonts look.font) look text color opa
coat_of fonts images text area (Picture image recolor opa) = picture_coat area images image recolor opa

-- what an item lays on each pixel
abbrev pub coat_in : List Font → List Image → List ℕ → Item → Coat
coat_in fonts images text item = coat_of fonts images text item.area item.paint

-- what each item of an object lays, the lowest first
abbrev pub coats : Scene → ℕ → List Coat
coats scene h = map (coat_in scene.fonts scene.images (chars_at scene h)) (items scene h)

-- what each bar of an object lays; it has no text
abbrev pub bar_coats : Scene → ℕ → List Coat
bar_coats scene h = map (coat_in scene.fonts scene.images []) (bars scene h)

-- a coat over a colour
abbrev pub lay : ℤ → ℤ → Rgb565 → Coat → Rgb565
lay x y under coat = laid (coat x y) under
