-- Items and own sizes that were worked out by hand, and what each kind is.
use Rattle.std.specs.Prelude.{◌≡◌, ℕ, ◌+◌, ◌^◌, true, false, List, [], ◌∷◌, codes, Some, None, ℤ, pos, negsuc}
use Rattle.gui_base.specs.declared.color.Rgb565.{Rgb565}
use Rattle.gui_base.specs.Bits.{flag_bit}
use Rattle.gui_base.specs.declared.words.Flag.{Flag}
use Rattle.gui_base.specs.declared.words.Flag.TheVariants.{Clickable, Checkable, Scrollable}
use Rattle.gui_base.specs.declared.words.Kind.{Kind}
use Rattle.gui_base.specs.declared.words.Kind.TheVariants as kind
use Rattle.gui_base.specs.declared.words.Flow.TheVariants.{Free, Column}
use Rattle.gui_base.specs.declared.words.Length.{Length}
use Rattle.gui_base.specs.declared.words.Length.TheVariants.{Pixels, Content}
use Rattle.gui_base.specs.declared.words.Part.TheVariants.{Main, Scrollbar, Indicator, Knob}
use Rattle.gui_base.specs.declared.words.TextAlign.{TextAlign}
use Rattle.gui_base.specs.declared.words.TextAlign.TheVariants.{Left, Center}
use Rattle.gui_base.specs.declared.props.Prop.TheVariants as prop
use Rattle.gui_base.specs.Area.{Rect}
use Rattle.gui_base.specs.Props.{default_of}
use Rattle.style_defs.specs.Kinds.{default_in}
use Rattle.text_defs.specs.declared.TextLook.{TextLook}
use Rattle.text_defs.specs.BuiltIn.{built_in}
use Rattle.widget_defs.specs.declared.ItemPaint.TheVariants.{Fill, Ring, Ink, Picture}
use Rattle.widget_defs.specs.Items.{Item, items, bars}
use Rattle.widget_defs.specs.declared.kinds.KindFacts.{KindFacts}
use Rattle.widget_defs.specs.declared.kinds.Shown.TheVariants as shown
use Rattle.widget_defs.specs.Kinds.{facts}
use Rattle.widget_defs.specs.Looks.{Look, PartValues}
use Rattle.widget_defs.specs.Sizes.{own_width, own_height}

abbrev pub rect : ℤ → ℤ → ℤ → ℤ → Rect
rect x1 y1 x2 y2 = record { x1 = x1; y1 = y1; x2 = x2; y2 = y2 }

abbrev from_zero : ℕ → ℕ → Rect
from_zero x2 y2 = rect (pos 0) (pos 0) (pos x2) (pos y2)

abbrev at : ℕ → ℕ → ℕ → ℕ → Rect
at x1 y1 x2 y2 = rect (pos x1) (pos y1) (pos x2) (pos y2)

-- Colours of sixteen bits.

abbrev rgb : ℕ → Rgb565
rgb n = record { 0 = n }

abbrev black : Rgb565
black = rgb 0

abbrev white : Rgb565
white = rgb 65535

abbrev blue : Rgb565
blue = rgb 9406

abbrev dark_blue : Rgb565
dark_blue = rgb 7098

abbrev grey : Rgb565
grey = rgb 59164

abbrev red : Rgb565
red = rgb 63488

abbrev pub item : Rect → Rgb565 → ℕ → Item
item area color opa = record { area = area; paint = Fill color opa }

abbrev pub border : Rect → ℕ → Rgb565 → ℕ → Item
border area width color opa = record { area = area; paint = Ring width color opa }

abbrev pub text_in : Rect → TextLook → Rgb565 → ℕ → Item
text_in area look color opa = record { area = area; paint = Ink look color opa }

abbrev pub picture_in : Rect → ℕ → Rgb565 → ℕ → Item
picture_in area image recolor opa = record { area = area; paint = Picture image recolor opa }

abbrev plain_text : TextLook
plain_text = record { font = 0; letter = 0; line = 0; align = Left }

abbrev no_border : Rect → Item
no_border area = border area 0 black 255

-- an object of a kind in some states, as it is new, with a text
abbrev new : Kind → ℕ → List ℕ → Look
new kind states text = record {
  kind = kind;
  main = default_in kind Main states;
  scrollbar = default_in kind Scrollbar states;
  indicator = default_in kind Indicator states;
  knob = default_in kind Knob states;
  text = text;
  face = built_in;
  value = pos 0;
  min = pos 0;
  max = pos 100;
  image = None;
  scrollable = false;
  reach = (0, 0);
  offset = (0, 0);
}

abbrev pressed : ℕ
pressed = 32

abbrev checked : ℕ
checked = 1

abbrev at_value : Kind → ℤ → Look
at_value kind value = record (new kind 0 []) { value = value }

-- a slider from -10 to 10
abbrev around_zero : ℤ → Look
around_zero value = record (at_value kind.Slider value) { min = negsuc 9; max = pos 10 }

-- borders and pads of unequal widths, and a text in the middle
abbrev unequal : PartValues
unequal prop.BorderWidth = pos 2
unequal prop.PadTop = pos 3
unequal prop.PadBottom = pos 4
unequal prop.PadLeft = pos 5
unequal prop.PadRight = pos 6
unequal prop.PadColumn = pos 7
unequal prop.TextAlign = pos 1
unequal prop.TextLetterSpace = pos 1
unequal prop.TextLineSpace = pos 2
unequal p = default_of p

abbrev inside_unequal : Kind → List ℕ → Look
inside_unequal kind text = record (new kind 0 text) { main = unequal }

abbrev spaced_in : TextAlign → TextLook
spaced_in align = record { font = 0; letter = 1; line = 2; align = align }

abbrev showing : ℕ → ℕ → ℕ → Look
showing id w h = record (new kind.Image 0 []) { image = Some (record { id = id; w = w; h = h }) }

-- an image of opacities in red, half as opaque
abbrev red_half : PartValues
red_half prop.ImgRecolor = pos 16711680
red_half prop.ImgOpa = pos 128
red_half p = default_of p

pub record ItemsAreWorked : Type 0 where
  pub object :
      items (new kind.Obj 0 []) (at 2 3 5 7)
      ≡ item (at 2 3 5 7) white 0 ∷ no_border (at 2 3 5 7) ∷ []
  pub screen :
      items (new kind.Screen 0 []) (from_zero 7 5)
      ≡ item (from_zero 7 5) white 255 ∷ no_border (from_zero 7 5) ∷ []
  pub button :
      items (new kind.Button 0 []) (from_zero 13 15)
      ≡ item (from_zero 13 15) blue 255 ∷ no_border (from_zero 13 15) ∷ []
  pub pressed_button :
      items (new kind.Button pressed []) (from_zero 13 15)
      ≡ item (from_zero 13 15) dark_blue 255 ∷ no_border (from_zero 13 15) ∷ []
  pub list :
      items (new kind.List 0 []) (from_zero 99 99)
      ≡ item (from_zero 99 99) white 255 ∷ border (from_zero 99 99) 1 black 255 ∷ []
  pub label :
      items (new kind.Label 0 (codes "I")) (at 4 4 9 11)
      ≡ item (at 4 4 9 11) white 0
      ∷ no_border (at 4 4 9 11)
      ∷ text_in (at 4 4 9 11) plain_text black 255
      ∷ []
  -- without border and pads
  pub content :
      items (inside_unequal kind.Label (codes "I")) (from_zero 19 19)
      ≡ item (from_zero 19 19) white 0
      ∷ border (from_zero 19 19) 2 black 255
      ∷ text_in (at 7 5 11 13) (spaced_in Center) black 255
      ∷ []
  -- no pixel is left between the borders; the text stands where it would
  pub no_content :
      items (inside_unequal kind.Label (codes "I")) (from_zero 9 3)
      ≡ item (from_zero 9 3) white 0
      ∷ border (from_zero 9 3) 2 black 255
      ∷ text_in (at 7 5 6 4) (spaced_in Center) black 255
      ∷ []
  pub bar :
      items (at_value kind.Bar (pos 50)) (at 160 70 259 79)
      ≡ item (at 160 70 259 79) grey 255
      ∷ no_border (at 160 70 259 79)
      ∷ item (at 160 70 209 79) blue 255
      ∷ no_border (at 160 70 209 79)
      ∷ []
  pub slider :
      items (at_value kind.Slider (pos 70)) (at 160 30 259 39)
      ≡ item (at 160 30 259 39) grey 255
      ∷ no_border (at 160 30 259 39)
      ∷ item (at 160 30 229 39) blue 255
      ∷ no_border (at 160 30 229 39)
      ∷ item (at 223 30 232 39) dark_blue 255
      ∷ no_border (at 223 30 232 39)
      ∷ []
  -- 33 * 7 / 20 and 26 * 7 / 20, rounded down
  pub rounded :
      items (around_zero (negsuc 2)) (from_zero 32 6)
      ≡ item (from_zero 32 6) grey 255
      ∷ no_border (from_zero 32 6)
      ∷ item (from_zero 10 6) blue 255
      ∷ no_border (from_zero 10 6)
      ∷ item (at 9 0 15 6) dark_blue 255
      ∷ no_border (at 9 0 15 6)
      ∷ []
  -- the knob is no wider than the slider, and stays where it is
  pub upright :
      items (around_zero (pos 10)) (from_zero 4 19)
      ≡ item (from_zero 4 19) grey 255
      ∷ no_border (from_zero 4 19)
      ∷ item (from_zero 4 19) blue 255
      ∷ no_border (from_zero 4 19)
      ∷ item (from_zero 4 4) dark_blue 255
      ∷ no_border (from_zero 4 4)
      ∷ []
  pub checkbox :
      items (new kind.Checkbox 0 (codes "Dark mode")) (at 160 50 225 57)
      ≡ item (at 160 50 225 57) white 0
      ∷ no_border (at 160 50 225 57)
      ∷ item (at 160 50 167 57) white 0
      ∷ border (at 160 50 167 57) 1 black 255
      ∷ text_in (at 172 50 225 57) plain_text black 255
      ∷ []
  pub checked_box :
      items (new kind.Checkbox checked (codes "a\nbc")) (at 1 1 9 9)
      ≡ item (at 1 1 9 9) white 0
      ∷ no_border (at 1 1 9 9)
      ∷ item (at 1 1 8 8) blue 255
      ∷ border (at 1 1 8 8) 1 black 255
      ∷ text_in (at 13 1 24 16) plain_text black 255
      ∷ []
  -- its text stands left, whatever the alignment
  pub left_caption :
      items (inside_unequal kind.Checkbox (codes "ab")) (from_zero 49 29)
      ≡ item (from_zero 49 29) white 0
      ∷ border (from_zero 49 29) 2 black 255
      ∷ item (at 7 5 14 12) white 0
      ∷ border (at 7 5 14 12) 1 black 255
      ∷ text_in (at 22 5 34 12) (spaced_in Left) black 255
      ∷ []
  pub image :
      items (showing 1 2 1) (from_zero 3 1)
      ≡ item (from_zero 3 1) white 0
      ∷ no_border (from_zero 3 1)
      ∷ picture_in (from_zero 1 0) 1 black 255
      ∷ []
  pub cut_image :
      items (record (showing 7 9 8) { main = red_half }) (from_zero 0 3)
      ≡ item (from_zero 0 3) white 0
      ∷ no_border (from_zero 0 3)
      ∷ picture_in (from_zero 0 3) 7 red 128
      ∷ []
  pub no_image :
      items (new kind.Image 0 []) (from_zero 3 1)
      ≡ item (from_zero 3 1) white 0 ∷ no_border (from_zero 3 1) ∷ []

-- a scrollable object whose children reach so far and are moved so far
abbrev scrolled : Kind → ℕ → ℕ → ℕ → ℕ → Look
scrolled kind across down left up = record (new kind 0 []) {
  scrollable = true;
  reach = (across, down);
  offset = (left, up);
}

abbrev dark_grey : Rgb565
dark_grey = rgb 40179

pub record BarsAreWorked : Type 0 where
  -- a bar is eight pixels long at least
  pub at_top : bars (scrolled kind.Obj 0 40 0 0) (from_zero 19 19) ≡ item (at 16 0 19 7) dark_grey 255 ∷ []
  pub at_bottom :
      bars (scrolled kind.Obj 0 40 0 40) (from_zero 19 19) ≡ item (at 16 12 19 19) dark_grey 255 ∷ []
  -- and as long as the share of the children that is seen; the one at the right comes first
  pub both_ways :
      bars (scrolled kind.List 100 50 20 10) (at 10 20 109 119)
      ≡ item (at 106 27 109 91) dark_grey 255 ∷ item (at 20 116 67 119) dark_grey 255 ∷ []
  -- it is cut to a small object
  pub in_small : bars (scrolled kind.Obj 9 9 9 0) (at 5 5 7 6) ≡ item (at 5 5 7 6) dark_grey 255 ∷ item (at 5 5 7 6) dark_grey 255 ∷ []
  pub none_fitting : bars (scrolled kind.List 0 0 0 0) (from_zero 19 19) ≡ []
  pub none_fixed : bars (record (scrolled kind.List 9 9 0 0) { scrollable = false }) (from_zero 19 19) ≡ []

pub record SizesAreWorked : Type 0 where
  pub label_width : own_width (new kind.Label 0 (codes "ab cd")) ≡ 30
  pub label_in_two_lines : own_height (new kind.Label 0 (codes "ab cd")) 24 ≡ 16
  pub label_in_one_line : own_height (new kind.Label 0 (codes "ab cd")) 30 ≡ 8
  pub wide_letter : own_width (new kind.Label 0 (233 ∷ [])) ≡ 6
  pub empty_width : own_width (new kind.Label 0 []) ≡ 0
  pub empty_height : own_height (new kind.Label 0 []) 0 ≡ 8
  -- spaces between letters and between lines count, borders and pads do not
  pub spaced_width : own_width (inside_unequal kind.Label (codes "ab\nc")) ≡ 13
  pub spaced_height : own_height (inside_unequal kind.Label (codes "ab\nc")) 100 ≡ 18
  pub checkbox_width : own_width (new kind.Checkbox 0 (codes "Dark mode")) ≡ 66
  pub checkbox_height : own_height (new kind.Checkbox 0 (codes "Dark mode")) 20 ≡ 8
  pub two_lines : own_height (new kind.Checkbox 0 (codes "a\nb")) 100 ≡ 16
  pub empty_checkbox : own_width (new kind.Checkbox 0 []) ≡ 12
  pub image_width : own_width (showing 1 7 3) ≡ 7
  pub image_height : own_height (showing 1 7 3) 2 ≡ 3
  pub no_image : own_width (new kind.Image 0 []) ≡ 0
  pub others : own_width (new kind.Button 0 (codes "ab")) ≡ 0

-- The row of each kind, a second time: definitions and code cite one table, so a wrong entry would be true of
-- both.

-- one flag alone
abbrev only : Flag → ℕ
only flag = 2 ^ flag_bit flag

-- a kind that paints nothing in its content area, with no feature and no flow
abbrev bare : ℕ → Length → Length → KindFacts
bare flags width height = record {
  flags = flags;
  width = width;
  height = height;
  flow = Free;
  shows = shown.Nothing;
  text = false;
  value = false;
  picture = false;
  slides = false;
}

pub record KindsAreThese : Type 0 where
  pub screen : facts kind.Screen ≡ bare (only Clickable) (Pixels 100) (Pixels 50)
  pub layer : facts kind.Layer ≡ bare 0 (Pixels 100) (Pixels 50)
  pub object : facts kind.Obj ≡ bare (only Clickable) (Pixels 100) (Pixels 50)
  pub label : facts kind.Label ≡ record (bare 0 Content Content) { shows = shown.Text; text = true }
  pub button : facts kind.Button ≡ bare (only Clickable) Content Content
  pub image : facts kind.Image ≡ record (bare 0 Content Content) { shows = shown.Picture; picture = true }
  pub bar :
      facts kind.Bar ≡ record (bare 0 (Pixels 100) (Pixels 10)) { shows = shown.Share; value = true }
  pub slider :
      facts kind.Slider
      ≡ record (bare (only Clickable) (Pixels 100) (Pixels 10)) {
        shows = shown.ShareAndKnob;
        value = true;
        slides = true;
      }
  pub checkbox :
      facts kind.Checkbox
      ≡ record (bare (only Clickable + only Checkable) Content Content) {
        shows = shown.BoxAndText;
        text = true;
      }
  pub list :
      facts kind.List
      ≡ record (bare (only Clickable + only Scrollable) (Pixels 100) (Pixels 100)) { flow = Column }
