-- Items, bars and own sizes that a reference implementation gives, which follows the rules by itself. Each row has
-- the kind of an object, its states, what is set at its main part, its indicator and its knob, its text, its
-- value with its range, and its image; then its place. A row of bars has what is set at the main part and the
-- scrollbar, and how far the children reach and are moved.
use Rattle.std.specs.Prelude.{◌≡◌, ℕ, true, false, ◌==◌, if◌then◌else◌, List, [], ◌∷◌, map, codes, Some, None}
use Rattle.std.specs.Prelude.{ℤ, pos, negsuc}
use Rattle.std.specs.declared.option.Option.{Option}
use Rattle.gui_base.specs.declared.color.Rgb565.{Rgb565}
use Rattle.gui_base.specs.declared.words.Kind.{Kind}
use Rattle.gui_base.specs.declared.words.Kind.TheVariants as kind
use Rattle.gui_base.specs.declared.words.Part.{Part}
use Rattle.gui_base.specs.declared.words.Part.TheVariants.{Main, Scrollbar, Indicator, Knob}
use Rattle.gui_base.specs.declared.words.TextAlign.{TextAlign}
use Rattle.gui_base.specs.declared.words.TextAlign.TheVariants.{Left, Center}
use Rattle.gui_base.specs.declared.props.Prop.{Prop}
use Rattle.gui_base.specs.declared.props.Prop.TheVariants as prop
use Rattle.gui_base.specs.Area.{Rect, is_empty}
use Rattle.gui_base.specs.Words.{same_prop}
use Rattle.style_defs.specs.declared.Setting.{Setting}
use Rattle.style_defs.specs.Kinds.{default_in}
use Rattle.text_defs.specs.declared.TextLook.{TextLook}
use Rattle.text_defs.specs.Building.{new_font}
use Rattle.text_defs.specs.BuiltIn.{built_in}
use Rattle.text_defs.specs.Face.{Face}
use Rattle.text_defs.specs.Fonts.{face_of}
use Rattle.widget_defs.specs.declared.ImageLook.{ImageLook}
use Rattle.widget_defs.specs.Examples.{rect, item, border, text_in, picture_in}
use Rattle.widget_defs.specs.Items.{Item, items, bars}
use Rattle.widget_defs.specs.Looks.{Look, PartValues, number_of}
use Rattle.widget_defs.specs.Sizes.{own_width, own_height}

abbrev at : ℕ → ℕ → ℕ → ℕ → Rect
at x1 y1 x2 y2 = rect (pos x1) (pos y1) (pos x2) (pos y2)

abbrev nothing : Rect
nothing = rect (pos 0) (pos 0) (negsuc 0) (negsuc 0)

abbrev rgb : ℕ → Rgb565
rgb n = record { 0 = n }

abbrev black : Rgb565
black = rgb 0

abbrev white : Rgb565
white = rgb 65535

abbrev set_as : ℕ → ℕ → ℕ → TextAlign → TextLook
set_as font letter line align = record { font = font; letter = letter; line = line; align = align }

abbrev plain_text : TextLook
plain_text = set_as 0 0 0 Left

abbrev set : Prop → ℕ → Setting
set prop value = record { prop = prop; value = pos value }

-- values with some set
abbrev with_set : List Setting → PartValues → PartValues
with_set [] values prop = values prop
with_set (s ∷ settings) values prop =
    if same_prop s.prop prop then s.value else with_set settings values prop

-- font 1 is 7 pixels high, and its letters are 5 wide
abbrev face_by : ℕ → Face
face_by n = if n == 0 then built_in else face_of (new_font 1 7 5)

abbrev part_in : Kind → Part → ℕ → List Setting → PartValues
part_in kind part states settings = with_set settings (default_in kind part states)

abbrev sample :
    Kind → ℕ → List Setting → List Setting → List Setting → List ℕ → ℤ → ℤ → ℤ → Option ImageLook → Look
sample kind states main indicator knob text value min max image = record {
  kind = kind;
  main = part_in kind Main states main;
  scrollbar = part_in kind Scrollbar states [];
  indicator = part_in kind Indicator states indicator;
  knob = part_in kind Knob states knob;
  text = text;
  face = face_by (number_of (part_in kind Main states main prop.TextFont));
  value = value;
  min = min;
  max = max;
  image = image;
  scrollable = false;
  reach = (0, 0);
  offset = (0, 0);
}

abbrev an_image : ℕ → ℕ → Option ImageLook
an_image w h = Some (record { id = 3; w = w; h = h })

-- all empty areas are one
abbrev as_seen : Item → Item
as_seen shown = record shown { area = if is_empty shown.area then nothing else shown.area }

abbrev shown_in : Look → Rect → List Item
shown_in look place = map as_seen (items look place)

-- a scrollable object whose children reach so far and are moved so far, and one that is not scrollable
abbrev scrolling : Kind → ℕ → List Setting → List Setting → ℕ × ℕ → ℕ × ℕ → Look
scrolling kind states main scrollbar reach offset =
    record (sample kind states main [] [] [] (pos 0) (pos 0) (pos 100) None) {
      scrollbar = part_in kind Scrollbar states scrollbar;
      scrollable = true;
      reach = reach;
      offset = offset;
    }

abbrev still : Kind → ℕ → List Setting → List Setting → ℕ × ℕ → ℕ × ℕ → Look
still kind states main scrollbar reach offset =
    record (scrolling kind states main scrollbar reach offset) { scrollable = false }

abbrev bars_in : Look → Rect → List Item
bars_in look place = map as_seen (bars look place)

abbrev both : ℕ → ℕ → ℕ × ℕ
both width height = (width, height)

-- the own width, and the own height in a content area that is so wide
abbrev sizes_of : Look → ℕ → ℕ × ℕ
sizes_of look content = (own_width look, own_height look content)

pub record ReferenceItems : Type 0 where
  pub row_1 : shown_in (sample kind.Label 0 [] (set prop.BorderOpa 177 ∷ []) [] (codes "z  mbmz") (pos
      22) (pos 0) (pos 100) None) (rect (pos 23) (negsuc 10) (pos 22) (negsuc 10)) ≡ item nothing white 0
      ∷ border nothing 0 black 255 ∷ text_in nothing plain_text black 255 ∷ []
  pub row_2 : shown_in (sample kind.Button 1 [] (set prop.BorderWidth 3 ∷ []) (set prop.BgColor 10643981
      ∷ set prop.BorderColor 8281883 ∷ []) (codes "") (negsuc 67) (negsuc 126) (negsuc 38) None) (rect
      (negsuc 0) (pos 7) (negsuc 1) (pos 15)) ≡ item nothing (rgb 9406) 255 ∷ border nothing 0 black 255
      ∷ []
  pub row_3 : shown_in (sample kind.Image 33 (set prop.TextLetterSpace 3 ∷ set prop.TextColor 10751240 ∷
      []) (set prop.BgColor 8378895 ∷ set prop.BorderWidth 4 ∷ []) (set prop.BgColor 8970764 ∷ []) (codes
      "") (negsuc 29) (negsuc 46) (negsuc 26) (an_image 30 1)) (at 8 35 248 44) ≡ item (at 8 35 248 44)
      white 0 ∷ border (at 8 35 248 44) 0 black 255 ∷ picture_in (at 8 35 37 35) 3 black 255 ∷ []
  pub row_4 : shown_in (sample kind.Bar 1 (set prop.PadTop 7 ∷ []) [] (set prop.BgOpa 117 ∷ []) (codes
      "") (pos 30) (pos 0) (pos 100) None) (at 11 29 251 28) ≡ item nothing (rgb 59164) 255 ∷ border
      nothing 0 black 255 ∷ item nothing (rgb 9406) 255 ∷ border nothing 0 black 255 ∷ []
  pub row_5 : shown_in (sample kind.Slider 0 (set prop.BgOpa 146 ∷ []) [] (set prop.BorderOpa 221 ∷ set
      prop.BgColor 4310822 ∷ []) (codes "") (pos 18) (negsuc 30) (pos 40) None) (rect (negsuc 12) (negsuc
      6) (pos 86) (pos 1)) ≡ item (rect (negsuc 12) (negsuc 6) (pos 86) (pos 1)) (rgb 59164) 146 ∷ border
      (rect (negsuc 12) (negsuc 6) (pos 86) (pos 1)) 0 black 255 ∷ item (rect (negsuc 12) (negsuc 6) (pos
      55) (pos 1)) (rgb 9406) 255 ∷ border (rect (negsuc 12) (negsuc 6) (pos 55) (pos 1)) 0 black 255 ∷
      item (rect (pos 49) (negsuc 6) (pos 57) (pos 1)) (rgb 17956) 255 ∷ border (rect (pos 49) (negsuc 6)
      (pos 57) (pos 1)) 0 black 221 ∷ []
  pub row_6 : shown_in (sample kind.Checkbox 33 (set prop.ImgRecolor 803413 ∷ set prop.BorderColor
      13630386 ∷ set prop.BorderOpa 84 ∷ []) (set prop.BorderOpa 96 ∷ []) (set prop.BorderColor 344436 ∷
      []) (codes " m\nbz\nmz\na\n z") (negsuc 27) (negsuc 28) (negsuc 17) None) (at 4 34 36 34) ≡ item
      (at 4 34 36 34) white 0 ∷ border (at 4 34 36 34) 0 (rgb 53206) 84 ∷ item (at 4 34 11 41) (rgb 9406)
      255 ∷ border (at 4 34 11 41) 1 black 96 ∷ text_in (at 16 34 27 73) plain_text black 255 ∷ []
  pub row_7 : shown_in (sample kind.List 0 (set prop.BorderColor 8882828 ∷ set prop.PadLeft 5 ∷ set
      prop.TextLineSpace 2 ∷ set prop.TextFont 1 ∷ []) (set prop.BorderWidth 1 ∷ []) (set
      prop.BorderColor 12748294 ∷ set prop.BgOpa 89 ∷ []) (codes "") (pos 11) (pos 0) (pos 100) None) (at
      9 19 85 27) ≡ item (at 9 19 85 27) white 255 ∷ border (at 9 19 85 27) 1 (rgb 33873) 255 ∷ []
  pub row_8 : shown_in (sample kind.Label 0 (set prop.PadBottom 7 ∷ []) (set prop.BgColor 14031409 ∷ [])
      (set prop.BorderWidth 2 ∷ []) (codes "aiam \nia zb") (pos 3) (negsuc 9) (pos 50) None) (rect
      (negsuc 11) (pos 38) (pos 20) (pos 46)) ≡ item (rect (negsuc 11) (pos 38) (pos 20) (pos 46)) white
      0 ∷ border (rect (negsuc 11) (pos 38) (pos 20) (pos 46)) 0 black 255 ∷ text_in (rect (negsuc 11)
      (pos 38) (pos 20) (pos 39)) plain_text black 255 ∷ []
  pub row_9 : shown_in (sample kind.Bar 33 (set prop.TextLetterSpace 1 ∷ set prop.TextColor 2947588 ∷ set
      prop.BgOpa 80 ∷ set prop.BorderColor 14534284 ∷ []) (set prop.BorderWidth 3 ∷ set prop.BorderOpa
      205 ∷ []) (set prop.BorderColor 4984258 ∷ []) (codes "") (negsuc 9) (negsuc 15) (pos 2) None) (rect
      (negsuc 9) (pos 23) (pos 66) (pos 26)) ≡ item (rect (negsuc 9) (pos 23) (pos 66) (pos 26)) (rgb
      59164) 80 ∷ border (rect (negsuc 9) (pos 23) (pos 66) (pos 26)) 0 (rgb 56881) 255 ∷ item (rect
      (negsuc 9) (pos 23) (pos 14) (pos 26)) (rgb 9406) 255 ∷ border (rect (negsuc 9) (pos 23) (pos 14)
      (pos 26)) 3 black 205 ∷ []
  pub row_10 : shown_in (sample kind.Slider 0 (set prop.PadBottom 7 ∷ []) (set prop.BorderOpa 178 ∷ [])
      [] (codes "") (pos 83) (pos 0) (pos 100) None) (rect (negsuc 10) (pos 21) (pos 1) (pos 84)) ≡ item
      (rect (negsuc 10) (pos 21) (pos 1) (pos 84)) (rgb 59164) 255 ∷ border (rect (negsuc 10) (pos 21)
      (pos 1) (pos 84)) 0 black 255 ∷ item (rect (negsuc 10) (pos 21) (negsuc 1) (pos 77)) (rgb 9406) 255
      ∷ border (rect (negsuc 10) (pos 21) (negsuc 1) (pos 77)) 0 black 178 ∷ item (rect (negsuc 10) (pos
      21) (pos 1) (pos 33)) (rgb 7098) 255 ∷ border (rect (negsuc 10) (pos 21) (pos 1) (pos 33)) 0 black
      255 ∷ []
  pub row_11 : shown_in (sample kind.Checkbox 33 (set prop.BorderColor 13671204 ∷ set prop.BgOpa 111 ∷
      set prop.TextOpa 121 ∷ []) (set prop.BgOpa 228 ∷ set prop.BorderWidth 2 ∷ []) (set prop.BgColor
      14584792 ∷ []) (codes "  a m  ziizm ") (pos 95) (pos 0) (pos 100) None) (rect (negsuc 15) (negsuc
      4) (pos 224) (negsuc 1)) ≡ item (rect (negsuc 15) (negsuc 4) (pos 224) (negsuc 1)) white 111 ∷
      border (rect (negsuc 15) (negsuc 4) (pos 224) (negsuc 1)) 0 (rgb 54468) 255 ∷ item (rect (negsuc
      15) (negsuc 4) (negsuc 8) (pos 2)) (rgb 9406) 228 ∷ border (rect (negsuc 15) (negsuc 4) (negsuc 8)
      (pos 2)) 2 black 255 ∷ text_in (rect (negsuc 3) (negsuc 4) (pos 73) (pos 2)) plain_text black 121 ∷
      []
  pub row_12 : shown_in (sample kind.Slider 0 (set prop.ImgRecolor 1409666 ∷ []) [] (set prop.BgColor
      5918499 ∷ []) (codes "") (negsuc 8) (negsuc 18) (pos 11) None) (rect (negsuc 10) (negsuc 2) (pos
      38) (pos 6)) ≡ item (rect (negsuc 10) (negsuc 2) (pos 38) (pos 6)) (rgb 59164) 255 ∷ border (rect
      (negsuc 10) (negsuc 2) (pos 38) (pos 6)) 0 black 255 ∷ item (rect (negsuc 10) (negsuc 2) (pos 4)
      (pos 6)) (rgb 9406) 255 ∷ border (rect (negsuc 10) (negsuc 2) (pos 4) (pos 6)) 0 black 255 ∷ item
      (rect (pos 2) (negsuc 2) (pos 11) (pos 6)) (rgb 23140) 255 ∷ border (rect (pos 2) (negsuc 2) (pos
      11) (pos 6)) 0 black 255 ∷ []
  pub row_13 : shown_in (sample kind.Checkbox 32 [] (set prop.BorderOpa 177 ∷ []) [] (codes "b") (negsuc
      66) (negsuc 113) (negsuc 55) None) (at 11 5 251 68) ≡ item (at 11 5 251 68) white 0 ∷ border (at 11
      5 251 68) 0 black 255 ∷ item (at 11 5 18 12) white 0 ∷ border (at 11 5 18 12) 1 black 177 ∷ text_in
      (at 23 5 28 12) plain_text black 255 ∷ []
  pub row_14 : shown_in (sample kind.Image 0 (set prop.ImgRecolor 1126943 ∷ set prop.TextLetterSpace 1 ∷
      set prop.TextColor 16638503 ∷ []) [] [] (codes "") (pos 39) (pos 10) (pos 80) (an_image 33 30)) (at
      7 8 106 23) ≡ item (at 7 8 106 23) white 0 ∷ border (at 7 8 106 23) 0 black 255 ∷ picture_in (at 7
      8 39 23) 3 (rgb 4483) 255 ∷ []
  pub row_15 : shown_in (sample kind.Obj 0 (set prop.BgColor 16499932 ∷ set prop.BorderWidth 5 ∷ []) []
      (set prop.BorderColor 1211196 ∷ []) (codes "") (pos 15) (negsuc 12) (pos 21) None) (at 8 35 107 34)
      ≡ item nothing (rgb 65083) 0 ∷ border nothing 5 black 255 ∷ []
  pub row_16 : shown_in (sample kind.Label 33 [] (set prop.BorderWidth 3 ∷ []) (set prop.BgOpa 150 ∷ [])
      (codes "b\nza") (negsuc 10) (negsuc 26) (pos 21) None) (at 4 29 16 38) ≡ item (at 4 29 16 38) white
      0 ∷ border (at 4 29 16 38) 0 black 255 ∷ text_in (at 4 29 16 38) plain_text black 255 ∷ []
  pub row_17 : shown_in (sample kind.Button 33 (set prop.PadRight 7 ∷ set prop.BgOpa 60 ∷ set
      prop.PadLeft 6 ∷ []) (set prop.BgColor 5950354 ∷ []) (set prop.BgOpa 104 ∷ []) (codes "") (pos 7)
      (negsuc 3) (pos 29) None) (rect (negsuc 1) (pos 38) (pos 74) (pos 46)) ≡ item (rect (negsuc 1) (pos
      38) (pos 74) (pos 46)) (rgb 7098) 60 ∷ border (rect (negsuc 1) (pos 38) (pos 74) (pos 46)) 0 black
      255 ∷ []
  pub row_18 : shown_in (sample kind.Image 1 (set prop.TextLetterSpace 1 ∷ set prop.PadRight 4 ∷ set
      prop.BorderColor 11915285 ∷ []) (set prop.BorderWidth 2 ∷ []) (set prop.BgOpa 39 ∷ []) (codes "")
      (pos 22) (negsuc 41) (pos 25) (an_image 35 13)) (rect (pos 34) (negsuc 6) (pos 34) (pos 8)) ≡ item
      (rect (pos 34) (negsuc 6) (pos 34) (pos 8)) white 0 ∷ border (rect (pos 34) (negsuc 6) (pos 34)
      (pos 8)) 0 (rgb 46722) 255 ∷ picture_in nothing 3 black 255 ∷ []
  pub row_19 : shown_in (sample kind.Bar 0 (set prop.TextFont 0 ∷ []) (set prop.BorderOpa 197 ∷ []) (set
      prop.BorderWidth 0 ∷ set prop.BgOpa 167 ∷ []) (codes "") (negsuc 29) (negsuc 45) (pos 25) None) (at
      2 15 101 45) ≡ item (at 2 15 101 45) (rgb 59164) 255 ∷ border (at 2 15 101 45) 0 black 255 ∷ item
      (at 2 15 23 45) (rgb 9406) 255 ∷ border (at 2 15 23 45) 0 black 197 ∷ []
  pub row_20 : shown_in (sample kind.Slider 0 (set prop.TextLetterSpace 1 ∷ set prop.PadBottom 5 ∷ set
      prop.ImgOpa 128 ∷ set prop.ImgRecolor 13404970 ∷ []) (set prop.BorderWidth 0 ∷ set prop.BgColor
      297077 ∷ []) [] (codes "") (pos 45) (pos 30) (pos 66) None) (at 37 17 86 80) ≡ item (at 37 17 86
      80) (rgb 59164) 255 ∷ border (at 37 17 86 80) 0 black 255 ∷ item (at 37 17 56 75) (rgb 1102) 255 ∷
      border (at 37 17 56 75) 0 black 255 ∷ item (at 37 17 86 66) (rgb 7098) 255 ∷ border (at 37 17 86
      66) 0 black 255 ∷ []
  pub row_21 : shown_in (sample kind.Checkbox 32 (set prop.TextAlign 0 ∷ set prop.TextColor 1749966 ∷ set
      prop.TextFont 0 ∷ []) [] [] (codes "\n\nazaib ia") (negsuc 121) (negsuc 144) (negsuc 121) None) (at
      28 15 27 23) ≡ item nothing white 0 ∷ border nothing 0 black 255 ∷ item (at 28 15 35 22) white 0 ∷
      border (at 28 15 35 22) 1 black 255 ∷ text_in (at 40 15 87 38) plain_text (rgb 7577) 255 ∷ []
  pub row_22 : shown_in (sample kind.List 1 (set prop.TextColor 11603511 ∷ set prop.TextLetterSpace 3 ∷
      set prop.BorderColor 7464823 ∷ set prop.ImgOpa 9 ∷ []) (set prop.BorderWidth 1 ∷ []) (set
      prop.BorderOpa 231 ∷ []) (codes "") (negsuc 79) (negsuc 130) (negsuc 53) None) (rect (negsuc 8)
      (pos 2) (negsuc 8) (pos 11)) ≡ item (rect (negsuc 8) (pos 2) (negsuc 8) (pos 11)) white 255 ∷
      border (rect (negsuc 8) (pos 2) (negsuc 8) (pos 11)) 1 (rgb 30510) 255 ∷ []
  pub row_23 : shown_in (sample kind.Label 0 (set prop.TextOpa 96 ∷ set prop.ImgOpa 212 ∷ set
      prop.TextColor 9311424 ∷ set prop.PadRight 0 ∷ []) (set prop.BgOpa 175 ∷ set prop.BorderOpa 53 ∷
      []) [] (codes " a bz\nam") (pos 96) (pos 0) (pos 100) None) (rect (negsuc 11) (pos 38) (negsuc 12)
      (pos 101)) ≡ item nothing white 0 ∷ border nothing 0 black 255 ∷ text_in nothing plain_text (rgb
      35000) 96 ∷ []
  pub row_24 : shown_in (sample kind.Bar 0 (set prop.ImgRecolor 1648409 ∷ []) [] (set prop.BgColor 15993
      ∷ set prop.BgOpa 197 ∷ []) (codes "") (pos 98) (pos 0) (pos 100) None) (at 30 33 79 63) ≡ item (at
      30 33 79 63) (rgb 59164) 255 ∷ border (at 30 33 79 63) 0 black 255 ∷ item (at 30 33 78 63) (rgb
      9406) 255 ∷ border (at 30 33 78 63) 0 black 255 ∷ []
  pub row_25 : shown_in (sample kind.Slider 1 [] [] [] (codes "") (pos 11) (negsuc 3) (pos 54) None)
      (rect (negsuc 11) (negsuc 19) (pos 228) (negsuc 19)) ≡ item (rect (negsuc 11) (negsuc 19) (pos 228)
      (negsuc 19)) (rgb 59164) 255 ∷ border (rect (negsuc 11) (negsuc 19) (pos 228) (negsuc 19)) 0 black
      255 ∷ item (rect (negsuc 11) (negsuc 19) (pos 49) (negsuc 19)) (rgb 9406) 255 ∷ border (rect
      (negsuc 11) (negsuc 19) (pos 49) (negsuc 19)) 0 black 255 ∷ item (rect (pos 50) (negsuc 19) (pos
      50) (negsuc 19)) (rgb 7098) 255 ∷ border (rect (pos 50) (negsuc 19) (pos 50) (negsuc 19)) 0 black
      255 ∷ []
  pub row_26 : shown_in (sample kind.Checkbox 33 [] (set prop.BgColor 13511586 ∷ []) (set prop.BgOpa 246
      ∷ []) (codes "azaia") (pos 69) (pos 0) (pos 100) None) (rect (negsuc 8) (pos 30) (pos 90) (pos 45))
      ≡ item (rect (negsuc 8) (pos 30) (pos 90) (pos 45)) white 0 ∷ border (rect (negsuc 8) (pos 30) (pos
      90) (pos 45)) 0 black 255 ∷ item (rect (negsuc 8) (pos 30) (negsuc 1) (pos 37)) (rgb 51540) 255 ∷
      border (rect (negsuc 8) (pos 30) (negsuc 1) (pos 37)) 1 black 255 ∷ text_in (at 3 30 32 37)
      plain_text black 255 ∷ []
  pub row_27 : shown_in (sample kind.Slider 0 [] (set prop.BorderColor 7983781 ∷ set prop.BorderWidth 0 ∷
      []) [] (codes "") (pos 35) (negsuc 9) (pos 47) None) (rect (negsuc 1) (negsuc 10) (pos 74) (negsuc
      11)) ≡ item nothing (rgb 59164) 255 ∷ border nothing 0 black 255 ∷ item nothing (rgb 9406) 255 ∷
      border nothing 0 (rgb 32404) 255 ∷ item nothing (rgb 7098) 255 ∷ border nothing 0 black 255 ∷ []
  pub row_28 : shown_in (sample kind.Checkbox 1 (set prop.BgOpa 56 ∷ set prop.TextColor 14442168 ∷ [])
      (set prop.BorderOpa 48 ∷ []) (set prop.BorderWidth 0 ∷ []) (codes "\nz  a\n \n") (pos 41) (pos 0)
      (pos 100) None) (rect (negsuc 6) (negsuc 7) (pos 233) (pos 1)) ≡ item (rect (negsuc 6) (negsuc 7)
      (pos 233) (pos 1)) white 56 ∷ border (rect (negsuc 6) (negsuc 7) (pos 233) (pos 1)) 0 black 255 ∷
      item (rect (negsuc 6) (negsuc 7) (pos 0) (negsuc 0)) (rgb 9406) 255 ∷ border (rect (negsuc 6)
      (negsuc 7) (pos 0) (negsuc 0)) 1 black 48 ∷ text_in (rect (pos 5) (negsuc 7) (pos 28) (pos 23))
      plain_text (rgb 56055) 255 ∷ []
  pub row_29 : shown_in (sample kind.Image 1 (set prop.PadBottom 5 ∷ set prop.PadLeft 2 ∷ set prop.PadTop
      0 ∷ set prop.BorderOpa 221 ∷ []) (set prop.BgColor 15861012 ∷ set prop.BorderOpa 178 ∷ []) (set
      prop.BgOpa 101 ∷ []) (codes "") (pos 20) (pos 0) (pos 100) (an_image 6 28)) (at 15 35 47 35) ≡ item
      (at 15 35 47 35) white 0 ∷ border (at 15 35 47 35) 0 black 221 ∷ picture_in nothing 3 black 255 ∷
      []
  pub row_30 : shown_in (sample kind.Obj 32 (set prop.ImgOpa 82 ∷ set prop.BorderOpa 20 ∷ []) (set
      prop.BgColor 6933797 ∷ []) [] (codes "") (pos 39) (pos 38) (pos 60) None) (at 1 14 241 44) ≡ item
      (at 1 14 241 44) white 0 ∷ border (at 1 14 241 44) 0 black 20 ∷ []
  pub row_31 : shown_in (sample kind.Label 0 (set prop.TextLineSpace 0 ∷ []) [] (set prop.BorderOpa 26 ∷
      []) (codes "\na") (pos 5) (pos 5) (pos 10) None) (rect (negsuc 2) (pos 17) (pos 9) (pos 25)) ≡ item
      (rect (negsuc 2) (pos 17) (pos 9) (pos 25)) white 0 ∷ border (rect (negsuc 2) (pos 17) (pos 9) (pos
      25)) 0 black 255 ∷ text_in (rect (negsuc 2) (pos 17) (pos 9) (pos 25)) plain_text black 255 ∷ []
  pub row_32 : shown_in (sample kind.Button 0 (set prop.TextOpa 74 ∷ set prop.BorderWidth 1 ∷ set
      prop.BorderColor 15653769 ∷ []) [] [] (codes "") (negsuc 120) (negsuc 123) (negsuc 115) None) (rect
      (negsuc 0) (pos 4) (pos 98) (pos 3)) ≡ item nothing (rgb 9406) 255 ∷ border nothing 1 (rgb 61137)
      255 ∷ []
  pub row_33 : shown_in (sample kind.Image 0 (set prop.TextAlign 2 ∷ set prop.TextLetterSpace 0 ∷ set
      prop.BgOpa 101 ∷ []) (set prop.BorderColor 13562259 ∷ []) [] (codes "") (pos 99) (pos 0) (pos 100)
      (an_image 40 6)) (rect (negsuc 9) (negsuc 7) (negsuc 5) (pos 55)) ≡ item (rect (negsuc 9) (negsuc
      7) (negsuc 5) (pos 55)) white 101 ∷ border (rect (negsuc 9) (negsuc 7) (negsuc 5) (pos 55)) 0 black
      255 ∷ picture_in (rect (negsuc 9) (negsuc 7) (negsuc 5) (negsuc 2)) 3 black 255 ∷ []
  pub row_34 : shown_in (sample kind.Bar 0 (set prop.TextOpa 58 ∷ set prop.TextLetterSpace 3 ∷ []) (set
      prop.BorderWidth 1 ∷ set prop.BgOpa 154 ∷ []) (set prop.BorderWidth 6 ∷ []) (codes "") (pos 81)
      (pos 0) (pos 100) None) (at 29 1 105 4) ≡ item (at 29 1 105 4) (rgb 59164) 255 ∷ border (at 29 1
      105 4) 0 black 255 ∷ item (at 29 1 90 4) (rgb 9406) 154 ∷ border (at 29 1 90 4) 1 black 255 ∷ []
  pub row_35 : shown_in (sample kind.Slider 0 [] [] (set prop.BorderWidth 4 ∷ set prop.BgColor 10750875 ∷
      []) (codes "") (pos 54) (pos 0) (pos 100) None) (rect (negsuc 9) (pos 34) (pos 22) (pos 49)) ≡ item
      (rect (negsuc 9) (pos 34) (pos 22) (pos 49)) (rgb 59164) 255 ∷ border (rect (negsuc 9) (pos 34)
      (pos 22) (pos 49)) 0 black 255 ∷ item (rect (negsuc 9) (pos 34) (pos 6) (pos 49)) (rgb 9406) 255 ∷
      border (rect (negsuc 9) (pos 34) (pos 6) (pos 49)) 0 black 255 ∷ item (rect (negsuc 0) (pos 34)
      (pos 14) (pos 49)) (rgb 41043) 255 ∷ border (rect (negsuc 0) (pos 34) (pos 14) (pos 49)) 4 black
      255 ∷ []
  pub row_36 : shown_in (sample kind.Checkbox 32 (set prop.TextLetterSpace 1 ∷ []) (set prop.BorderWidth
      0 ∷ set prop.BgColor 8717858 ∷ []) [] (codes " ziii \nmb\n  ") (negsuc 3) (negsuc 23) (negsuc 3)
      None) (at 13 20 89 83) ≡ item (at 13 20 89 83) white 0 ∷ border (at 13 20 89 83) 0 black 255 ∷ item
      (at 13 20 20 27) (rgb 32804) 0 ∷ border (at 13 20 20 27) 0 black 255 ∷ text_in (at 25 20 65 43)
      (set_as 0 1 0 Left) black 255 ∷ []
  pub row_37 : shown_in (sample kind.List 32 (set prop.ImgOpa 38 ∷ set prop.BgOpa 200 ∷ set
      prop.BorderOpa 187 ∷ set prop.TextOpa 7 ∷ []) (set prop.BorderColor 12467005 ∷ []) (set prop.BgOpa
      84 ∷ []) (codes "") (pos 56) (pos 0) (pos 100) None) (rect (pos 14) (negsuc 15) (pos 63) (negsuc
      0)) ≡ item (rect (pos 14) (negsuc 15) (pos 63) (negsuc 0)) white 200 ∷ border (rect (pos 14)
      (negsuc 15) (pos 63) (negsuc 0)) 1 black 187 ∷ []
  pub row_38 : shown_in (sample kind.Label 0 (set prop.TextFont 0 ∷ set prop.PadColumn 8 ∷ []) (set
      prop.BgOpa 21 ∷ set prop.BorderOpa 25 ∷ []) (set prop.BorderOpa 126 ∷ []) (codes "   bi  baaa")
      (pos 21) (pos 0) (pos 100) None) (rect (negsuc 17) (negsuc 12) (pos 14) (pos 17)) ≡ item (rect
      (negsuc 17) (negsuc 12) (pos 14) (pos 17)) white 0 ∷ border (rect (negsuc 17) (negsuc 12) (pos 14)
      (pos 17)) 0 black 255 ∷ text_in (rect (negsuc 17) (negsuc 12) (pos 14) (pos 17)) plain_text black
      255 ∷ []
  pub row_39 : shown_in (sample kind.Bar 33 (set prop.PadTop 6 ∷ set prop.BorderColor 3380551 ∷ set
      prop.ImgRecolor 5116383 ∷ set prop.TextLineSpace 2 ∷ []) (set prop.BorderWidth 4 ∷ []) [] (codes
      "") (negsuc 61) (negsuc 74) (negsuc 26) None) (rect (negsuc 13) (pos 0) (pos 85) (pos 3)) ≡ item
      (rect (negsuc 13) (pos 0) (pos 85) (pos 3)) (rgb 59164) 255 ∷ border (rect (negsuc 13) (pos 0) (pos
      85) (pos 3)) 0 (rgb 13480) 255 ∷ item nothing (rgb 9406) 255 ∷ border nothing 4 black 255 ∷ []
  pub row_40 : shown_in (sample kind.Slider 32 [] [] [] (codes "") (pos 41) (pos 0) (pos 100) None) (rect
      (pos 9) (negsuc 3) (pos 58) (negsuc 4)) ≡ item nothing (rgb 59164) 255 ∷ border nothing 0 black 255
      ∷ item nothing (rgb 9406) 255 ∷ border nothing 0 black 255 ∷ item nothing (rgb 7098) 255 ∷ border
      nothing 0 black 255 ∷ []
  pub row_41 : shown_in (sample kind.Checkbox 32 [] [] (set prop.BgOpa 219 ∷ set prop.BorderWidth 0 ∷ [])
      (codes " iimbai") (pos 18) (pos 0) (pos 100) None) (at 9 30 8 39) ≡ item nothing white 0 ∷ border
      nothing 0 black 255 ∷ item (at 9 30 16 37) white 0 ∷ border (at 9 30 16 37) 1 black 255 ∷ text_in
      (at 21 30 62 37) plain_text black 255 ∷ []
  pub row_42 : shown_in (sample kind.Slider 0 (set prop.BorderOpa 200 ∷ []) (set prop.BgColor 10925434 ∷
      set prop.BorderColor 7148789 ∷ []) (set prop.BorderWidth 0 ∷ set prop.BorderOpa 98 ∷ []) (codes "")
      (pos 54) (pos 40) (pos 63) None) (rect (pos 6) (pos 0) (pos 10) (negsuc 0)) ≡ item nothing (rgb
      59164) 255 ∷ border nothing 0 black 200 ∷ item nothing (rgb 42415) 255 ∷ border nothing 0 (rgb
      26814) 255 ∷ item nothing (rgb 7098) 255 ∷ border nothing 0 black 98 ∷ []
  pub row_43 : shown_in (sample kind.Checkbox 33 (set prop.PadBottom 9 ∷ set prop.TextFont 0 ∷ []) (set
      prop.BorderColor 7311297 ∷ []) (set prop.BorderWidth 6 ∷ []) (codes "") (pos 68) (pos 31) (pos 84)
      None) (rect (pos 14) (negsuc 6) (pos 18) (negsuc 3)) ≡ item (rect (pos 14) (negsuc 6) (pos 18)
      (negsuc 3)) white 0 ∷ border (rect (pos 14) (negsuc 6) (pos 18) (negsuc 3)) 0 black 255 ∷ item
      (rect (pos 14) (negsuc 6) (pos 21) (pos 0)) (rgb 9406) 255 ∷ border (rect (pos 14) (negsuc 6) (pos
      21) (pos 0)) 1 (rgb 27768) 255 ∷ text_in nothing plain_text black 255 ∷ []
  pub row_44 : shown_in (sample kind.Image 0 [] [] (set prop.BorderColor 7766341 ∷ []) (codes "") (pos
      10) (pos 9) (pos 43) (an_image 29 13)) (rect (pos 13) (negsuc 5) (pos 13) (pos 9)) ≡ item (rect
      (pos 13) (negsuc 5) (pos 13) (pos 9)) white 0 ∷ border (rect (pos 13) (negsuc 5) (pos 13) (pos 9))
      0 black 255 ∷ picture_in (rect (pos 13) (negsuc 5) (pos 13) (pos 6)) 3 black 255 ∷ []
  pub row_45 : shown_in (sample kind.Obj 0 (set prop.TextColor 9119446 ∷ set prop.TextFont 0 ∷ set
      prop.BgOpa 140 ∷ []) [] (set prop.BorderWidth 3 ∷ set prop.BorderColor 13057584 ∷ []) (codes "")
      (pos 11) (pos 0) (pos 100) None) (at 15 5 19 8) ≡ item (at 15 5 19 8) white 140 ∷ border (at 15 5
      19 8) 0 black 255 ∷ []
  pub row_46 : shown_in (sample kind.Label 1 (set prop.PadRight 6 ∷ set prop.BorderColor 9692605 ∷ []) []
      [] (codes "\n\ni") (pos 6) (pos 0) (pos 100) None) (rect (pos 6) (negsuc 19) (pos 6) (negsuc 11)) ≡
      item (rect (pos 6) (negsuc 19) (pos 6) (negsuc 11)) white 0 ∷ border (rect (pos 6) (negsuc 19) (pos
      6) (negsuc 11)) 0 (rgb 38711) 255 ∷ text_in nothing plain_text black 255 ∷ []
  pub row_47 : shown_in (sample kind.Button 0 (set prop.BorderColor 6323045 ∷ set prop.ImgRecolor
      11913258 ∷ set prop.TextFont 1 ∷ set prop.PadColumn 5 ∷ []) (set prop.BorderOpa 91 ∷ set
      prop.BorderWidth 0 ∷ []) (set prop.BgColor 587945 ∷ []) (codes "") (pos 28) (negsuc 8) (pos 68)
      None) (at 1 11 77 26) ≡ item (at 1 11 77 26) (rgb 9406) 255 ∷ border (at 1 11 77 26) 0 (rgb 25548)
      255 ∷ []
  pub row_48 : shown_in (sample kind.Image 33 [] (set prop.BgColor 10149213 ∷ set prop.BorderOpa 157 ∷
      []) (set prop.BgOpa 18 ∷ set prop.BorderWidth 4 ∷ []) (codes "") (pos 24) (pos 10) (pos 57)
      (an_image 28 16)) (at 34 30 46 29) ≡ item nothing white 0 ∷ border nothing 0 black 255 ∷ picture_in
      nothing 3 black 255 ∷ []
  pub row_49 : shown_in (sample kind.Bar 0 (set prop.TextLineSpace 1 ∷ set prop.ImgRecolor 5340620 ∷ set
      prop.PadLeft 6 ∷ []) [] [] (codes "") (pos 89) (pos 0) (pos 100) None) (rect (negsuc 13) (pos 19)
      (negsuc 1) (pos 19)) ≡ item (rect (negsuc 13) (pos 19) (negsuc 1) (pos 19)) (rgb 59164) 255 ∷
      border (rect (negsuc 13) (pos 19) (negsuc 1) (pos 19)) 0 black 255 ∷ item (rect (negsuc 7) (pos 19)
      (negsuc 2) (pos 19)) (rgb 9406) 255 ∷ border (rect (negsuc 7) (pos 19) (negsuc 2) (pos 19)) 0 black
      255 ∷ []
  pub row_50 : shown_in (sample kind.Slider 32 [] (set prop.BgOpa 133 ∷ set prop.BorderColor 14848024 ∷
      []) (set prop.BgColor 5334635 ∷ []) (codes "") (pos 90) (pos 0) (pos 100) None) (rect (pos 37)
      (negsuc 2) (pos 69) (negsuc 2)) ≡ item (rect (pos 37) (negsuc 2) (pos 69) (negsuc 2)) (rgb 59164)
      255 ∷ border (rect (pos 37) (negsuc 2) (pos 69) (negsuc 2)) 0 black 255 ∷ item (rect (pos 37)
      (negsuc 2) (pos 65) (negsuc 2)) (rgb 9406) 133 ∷ border (rect (pos 37) (negsuc 2) (pos 65) (negsuc
      2)) 0 (rgb 58499) 255 ∷ item (rect (pos 65) (negsuc 2) (pos 65) (negsuc 2)) (rgb 21293) 255 ∷
      border (rect (pos 65) (negsuc 2) (pos 65) (negsuc 2)) 0 black 255 ∷ []
  pub row_51 : shown_in (sample kind.Checkbox 33 (set prop.ImgRecolor 11950628 ∷ set prop.TextLetterSpace
      1 ∷ set prop.PadLeft 5 ∷ set prop.PadTop 7 ∷ set prop.ImgOpa 205 ∷ []) (set prop.BorderWidth 3 ∷
      set prop.BorderColor 1920227 ∷ []) (set prop.BorderWidth 5 ∷ set prop.BorderColor 5546196 ∷ [])
      (codes "ibm\n az ") (pos 81) (pos 0) (pos 100) None) (rect (pos 18) (negsuc 16) (pos 94) (pos 46))
      ≡ item (rect (pos 18) (negsuc 16) (pos 94) (pos 46)) white 0 ∷ border (rect (pos 18) (negsuc 16)
      (pos 94) (pos 46)) 0 black 255 ∷ item (rect (pos 23) (negsuc 9) (pos 30) (negsuc 2)) (rgb 9406) 255
      ∷ border (rect (pos 23) (negsuc 9) (pos 30) (negsuc 2)) 3 (rgb 6780) 255 ∷ text_in (rect (pos 35)
      (negsuc 9) (pos 61) (pos 5)) (set_as 0 1 0 Left) black 255 ∷ []
  pub row_52 : shown_in (sample kind.List 1 (set prop.PadRight 4 ∷ []) (set prop.BorderWidth 6 ∷ []) []
      (codes "") (negsuc 58) (negsuc 82) (negsuc 21) None) (at 26 5 75 68) ≡ item (at 26 5 75 68) white
      255 ∷ border (at 26 5 75 68) 1 black 255 ∷ []
  pub row_53 : shown_in (sample kind.Label 0 (set prop.ImgRecolor 1528777 ∷ set prop.BorderOpa 205 ∷ set
      prop.BgOpa 212 ∷ set prop.TextOpa 183 ∷ []) (set prop.BorderColor 6041827 ∷ []) [] (codes
      " \nm\na iz") (pos 68) (pos 0) (pos 100) None) (at 32 34 31 34) ≡ item nothing white 212 ∷ border
      nothing 0 black 205 ∷ text_in nothing plain_text black 183 ∷ []
  pub row_54 : shown_in (sample kind.Bar 33 (set prop.TextLineSpace 0 ∷ set prop.BgOpa 108 ∷ set
      prop.PadTop 0 ∷ set prop.TextFont 1 ∷ set prop.TextLetterSpace 2 ∷ []) [] [] (codes "") (pos 53)
      (negsuc 9) (pos 78) None) (rect (pos 17) (pos 0) (pos 93) (negsuc 0)) ≡ item nothing (rgb 59164)
      108 ∷ border nothing 0 black 255 ∷ item nothing (rgb 9406) 255 ∷ border nothing 0 black 255 ∷ []
  pub row_55 : shown_in (sample kind.Slider 32 (set prop.PadTop 4 ∷ set prop.TextFont 1 ∷ set
      prop.BorderColor 10877906 ∷ []) (set prop.BorderColor 6643001 ∷ []) [] (codes "") (pos 67) (pos 0)
      (pos 100) None) (at 2 10 6 19) ≡ item (at 2 10 6 19) (rgb 59164) 255 ∷ border (at 2 10 6 19) 0 (rgb
      42970) 255 ∷ item (at 2 14 4 19) (rgb 9406) 255 ∷ border (at 2 14 4 19) 0 (rgb 25319) 255 ∷ item
      (at 2 14 6 18) (rgb 7098) 255 ∷ border (at 2 14 6 18) 0 black 255 ∷ []
  pub row_56 : shown_in (sample kind.Checkbox 0 (set prop.TextOpa 61 ∷ set prop.TextAlign 0 ∷ set
      prop.PadRight 7 ∷ set prop.PadBottom 2 ∷ set prop.TextColor 13072635 ∷ []) (set prop.BorderOpa 17 ∷
      []) (set prop.BgOpa 184 ∷ []) (codes "izm az\n\n \na") (pos 52) (pos 0) (pos 100) None) (at 6 20 38
      50) ≡ item (at 6 20 38 50) white 0 ∷ border (at 6 20 38 50) 0 black 255 ∷ item (at 6 20 13 27)
      white 0 ∷ border (at 6 20 13 27) 1 black 17 ∷ text_in (at 18 20 53 51) plain_text (rgb 50143) 61 ∷
      []
  pub row_57 : shown_in (sample kind.Slider 0 [] [] (set prop.BorderOpa 164 ∷ []) (codes "") (pos 56)
      (pos 0) (pos 100) None) (rect (pos 2) (negsuc 8) (pos 101) (pos 21)) ≡ item (rect (pos 2) (negsuc
      8) (pos 101) (pos 21)) (rgb 59164) 255 ∷ border (rect (pos 2) (negsuc 8) (pos 101) (pos 21)) 0
      black 255 ∷ item (rect (pos 2) (negsuc 8) (pos 57) (pos 21)) (rgb 9406) 255 ∷ border (rect (pos 2)
      (negsuc 8) (pos 57) (pos 21)) 0 black 255 ∷ item (rect (pos 40) (negsuc 8) (pos 70) (pos 21)) (rgb
      7098) 255 ∷ border (rect (pos 40) (negsuc 8) (pos 70) (pos 21)) 0 black 164 ∷ []
  pub row_58 : shown_in (sample kind.Checkbox 0 (set prop.TextLineSpace 2 ∷ []) [] (set prop.BorderWidth
      6 ∷ []) (codes "aiimiaib") (pos 100) (pos 0) (pos 100) None) (rect (negsuc 13) (pos 30) (pos 18)
      (pos 29)) ≡ item nothing white 0 ∷ border nothing 0 black 255 ∷ item (rect (negsuc 13) (pos 30)
      (negsuc 6) (pos 37)) white 0 ∷ border (rect (negsuc 13) (pos 30) (negsuc 6) (pos 37)) 1 black 255 ∷
      text_in (rect (negsuc 1) (pos 30) (pos 45) (pos 37)) (set_as 0 0 2 Left) black 255 ∷ []
  pub row_59 : shown_in (sample kind.Image 0 (set prop.TextFont 1 ∷ set prop.BorderColor 8226222 ∷ set
      prop.TextColor 1438317 ∷ set prop.PadColumn 6 ∷ set prop.TextAlign 1 ∷ []) [] (set prop.BgColor
      12493021 ∷ set prop.BorderWidth 1 ∷ []) (codes "") (pos 44) (pos 0) (pos 100) None) (rect (pos 8)
      (negsuc 4) (pos 12) (negsuc 1)) ≡ item (rect (pos 8) (negsuc 4) (pos 12) (negsuc 1)) white 0 ∷
      border (rect (pos 8) (negsuc 4) (pos 12) (negsuc 1)) 0 (rgb 31797) 255 ∷ []
  pub row_60 : shown_in (sample kind.Obj 0 (set prop.PadColumn 6 ∷ set prop.TextColor 9174660 ∷ set
      prop.BgOpa 119 ∷ set prop.TextOpa 162 ∷ []) [] [] (codes "") (pos 69) (pos 0) (pos 100) None) (rect
      (pos 21) (negsuc 1) (pos 25) (pos 28)) ≡ item (rect (pos 21) (negsuc 1) (pos 25) (pos 28)) white
      119 ∷ border (rect (pos 21) (negsuc 1) (pos 25) (pos 28)) 0 black 255 ∷ []
  pub row_61 : shown_in (sample kind.Label 0 (set prop.ImgOpa 243 ∷ set prop.TextLetterSpace 0 ∷ []) (set
      prop.BgOpa 84 ∷ []) (set prop.BgOpa 131 ∷ []) (codes " ba\nabam \n\na") (negsuc 108) (negsuc 130)
      (negsuc 76) None) (at 23 16 72 15) ≡ item nothing white 0 ∷ border nothing 0 black 255 ∷ text_in
      nothing plain_text black 255 ∷ []
  pub row_62 : shown_in (sample kind.Button 0 (set prop.BorderColor 8154897 ∷ set prop.TextLineSpace 4 ∷
      set prop.ImgOpa 19 ∷ []) (set prop.BorderWidth 0 ∷ set prop.BgOpa 53 ∷ []) [] (codes "") (pos 64)
      (pos 45) (pos 88) None) (at 29 23 61 38) ≡ item (at 29 23 61 38) (rgb 9406) 255 ∷ border (at 29 23
      61 38) 0 (rgb 31586) 255 ∷ []
  pub row_63 : shown_in (sample kind.Image 33 (set prop.PadRight 0 ∷ []) [] [] (codes "") (negsuc 63)
      (negsuc 95) (negsuc 57) (an_image 14 10)) (at 37 33 86 96) ≡ item (at 37 33 86 96) white 0 ∷ border
      (at 37 33 86 96) 0 black 255 ∷ picture_in (at 37 33 50 42) 3 black 255 ∷ []
  pub row_64 : shown_in (sample kind.Bar 0 (set prop.PadLeft 5 ∷ set prop.PadColumn 10 ∷ set prop.ImgOpa
      14 ∷ set prop.PadBottom 8 ∷ []) [] (set prop.BorderOpa 196 ∷ set prop.BorderWidth 6 ∷ []) (codes
      "") (pos 52) (pos 0) (pos 100) None) (rect (negsuc 6) (negsuc 14) (pos 69) (negsuc 11)) ≡ item
      (rect (negsuc 6) (negsuc 14) (pos 69) (negsuc 11)) (rgb 59164) 255 ∷ border (rect (negsuc 6)
      (negsuc 14) (pos 69) (negsuc 11)) 0 black 255 ∷ item nothing (rgb 9406) 255 ∷ border nothing 0
      black 255 ∷ []
  pub row_65 : shown_in (sample kind.Slider 0 [] (set prop.BorderOpa 128 ∷ []) (set prop.BorderColor
      510083 ∷ set prop.BorderWidth 3 ∷ []) (codes "") (pos 94) (pos 0) (pos 100) None) (rect (negsuc 5)
      (pos 35) (pos 43) (pos 43)) ≡ item (rect (negsuc 5) (pos 35) (pos 43) (pos 43)) (rgb 59164) 255 ∷
      border (rect (negsuc 5) (pos 35) (pos 43) (pos 43)) 0 black 255 ∷ item (rect (negsuc 5) (pos 35)
      (pos 40) (pos 43)) (rgb 9406) 255 ∷ border (rect (negsuc 5) (pos 35) (pos 40) (pos 43)) 0 black 128
      ∷ item (at 32 35 40 43) (rgb 7098) 255 ∷ border (at 32 35 40 43) 3 (rgb 1616) 255 ∷ []
  pub row_66 : shown_in (sample kind.Checkbox 32 (set prop.BorderOpa 192 ∷ set prop.BgColor 12470803 ∷
      set prop.TextAlign 1 ∷ []) (set prop.BgOpa 78 ∷ set prop.BorderColor 5335778 ∷ []) (set
      prop.BorderOpa 91 ∷ []) (codes "\nmbabz  ") (negsuc 129) (negsuc 135) (negsuc 75) None) (at 17 9 21
      8) ≡ item nothing (rgb 47682) 0 ∷ border nothing 0 black 192 ∷ item (at 17 9 24 16) white 78 ∷
      border (at 17 9 24 16) 1 (rgb 21340) 255 ∷ text_in (at 29 9 70 24) plain_text black 255 ∷ []
  pub row_67 : shown_in (sample kind.List 0 (set prop.TextLineSpace 1 ∷ set prop.TextOpa 60 ∷ []) [] (set
      prop.BorderColor 1975076 ∷ []) (codes "") (pos 32) (pos 0) (pos 100) None) (rect (negsuc 14)
      (negsuc 19) (negsuc 10) (negsuc 10)) ≡ item (rect (negsuc 14) (negsuc 19) (negsuc 10) (negsuc 10))
      white 255 ∷ border (rect (negsuc 14) (negsuc 19) (negsuc 10) (negsuc 10)) 1 black 255 ∷ []
  pub row_68 : shown_in (sample kind.Label 1 (set prop.PadTop 0 ∷ set prop.PadRight 0 ∷ set
      prop.TextAlign 1 ∷ set prop.BgColor 13146841 ∷ set prop.BorderWidth 2 ∷ []) (set prop.BorderOpa 242
      ∷ set prop.BorderColor 15467902 ∷ []) (set prop.BorderOpa 80 ∷ set prop.BgColor 7643334 ∷ [])
      (codes "a aiab  m\nb z") (pos 49) (pos 0) (pos 100) None) (at 19 18 118 33) ≡ item (at 19 18 118
      33) (rgb 52443) 0 ∷ border (at 19 18 118 33) 2 black 255 ∷ text_in (at 21 20 116 31) (set_as 0 0 0
      Center) black 255 ∷ []
  pub row_69 : shown_in (sample kind.Bar 0 (set prop.PadRight 0 ∷ set prop.PadColumn 8 ∷ set
      prop.BorderOpa 158 ∷ set prop.BorderColor 4469401 ∷ []) [] (set prop.BgOpa 132 ∷ []) (codes "")
      (negsuc 87) (negsuc 87) (negsuc 78) None) (at 21 13 25 43) ≡ item (at 21 13 25 43) (rgb 59164) 255
      ∷ border (at 21 13 25 43) 0 (rgb 16787) 158 ∷ item nothing (rgb 9406) 255 ∷ border nothing 0 black
      255 ∷ []
  pub row_70 : shown_in (sample kind.Slider 1 (set prop.BorderOpa 56 ∷ set prop.BorderColor 620490 ∷ [])
      [] (set prop.BorderWidth 1 ∷ set prop.BorderColor 659418 ∷ []) (codes "") (pos 7) (pos 0) (pos 100)
      None) (rect (pos 16) (negsuc 4) (pos 92) (pos 3)) ≡ item (rect (pos 16) (negsuc 4) (pos 92) (pos
      3)) (rgb 59164) 255 ∷ border (rect (pos 16) (negsuc 4) (pos 92) (pos 3)) 0 (rgb 3001) 56 ∷ item
      (rect (pos 16) (negsuc 4) (pos 20) (pos 3)) (rgb 9406) 255 ∷ border (rect (pos 16) (negsuc 4) (pos
      20) (pos 3)) 0 black 255 ∷ item (rect (pos 20) (negsuc 4) (pos 28) (pos 3)) (rgb 7098) 255 ∷ border
      (rect (pos 20) (negsuc 4) (pos 28) (pos 3)) 1 (rgb 2171) 255 ∷ []
  pub row_71 : shown_in (sample kind.Checkbox 0 (set prop.BorderWidth 2 ∷ set prop.PadBottom 0 ∷ set
      prop.BgOpa 210 ∷ set prop.TextLetterSpace 2 ∷ []) (set prop.BorderColor 8780331 ∷ set prop.BgColor
      6764136 ∷ []) (set prop.BgColor 1635914 ∷ []) (codes "\naim\nz") (pos 72) (pos 0) (pos 100) None)
      (rect (pos 33) (negsuc 1) (pos 33) (negsuc 1)) ≡ item (rect (pos 33) (negsuc 1) (pos 33) (negsuc
      1)) white 210 ∷ border (rect (pos 33) (negsuc 1) (pos 33) (negsuc 1)) 2 black 255 ∷ item (at 35 0
      42 7) (rgb 25005) 0 ∷ border (at 35 0 42 7) 1 (rgb 34757) 255 ∷ text_in (at 47 0 68 23) (set_as 0 2
      0 Left) black 255 ∷ []
  pub row_72 : shown_in (sample kind.Slider 1 (set prop.TextColor 738402 ∷ []) [] (set prop.BorderWidth 0
      ∷ []) (codes "") (pos 52) (pos 0) (pos 100) None) (at 31 0 130 3) ≡ item (at 31 0 130 3) (rgb
      59164) 255 ∷ border (at 31 0 130 3) 0 black 255 ∷ item (at 31 0 82 3) (rgb 9406) 255 ∷ border (at
      31 0 82 3) 0 black 255 ∷ item (at 80 0 83 3) (rgb 7098) 255 ∷ border (at 80 0 83 3) 0 black 255 ∷
      []
  pub row_73 : shown_in (sample kind.Checkbox 0 (set prop.PadLeft 9 ∷ set prop.BorderOpa 13 ∷ []) (set
      prop.BorderColor 13988558 ∷ set prop.BgOpa 105 ∷ []) [] (codes "bz\nb zbmzi") (pos 41) (pos 18)
      (pos 70) None) (at 15 13 19 12) ≡ item nothing white 0 ∷ border nothing 0 black 13 ∷ item (at 24 13
      31 20) white 105 ∷ border (at 24 13 31 20) 1 (rgb 54169) 255 ∷ text_in (at 36 13 77 28) plain_text
      black 255 ∷ []
  pub row_74 : shown_in (sample kind.Image 1 (set prop.PadBottom 3 ∷ set prop.BgColor 4978705 ∷ []) (set
      prop.BgColor 6625662 ∷ set prop.BgOpa 72 ∷ []) [] (codes "") (negsuc 53) (negsuc 56) (negsuc 45)
      (an_image 8 13)) (rect (negsuc 5) (pos 30) (negsuc 5) (pos 38)) ≡ item (rect (negsuc 5) (pos 30)
      (negsuc 5) (pos 38)) (rgb 20418) 0 ∷ border (rect (negsuc 5) (pos 30) (negsuc 5) (pos 38)) 0 black
      255 ∷ picture_in (rect (negsuc 5) (pos 30) (negsuc 5) (pos 35)) 3 black 255 ∷ []
  pub row_75 : shown_in (sample kind.Obj 0 (set prop.PadBottom 3 ∷ set prop.BgColor 86079 ∷ []) (set
      prop.BorderOpa 207 ∷ set prop.BgColor 13404064 ∷ []) [] (codes "") (pos 85) (pos 0) (pos 100) None)
      (at 36 10 48 73) ≡ item (at 36 10 48 73) (rgb 647) 0 ∷ border (at 36 10 48 73) 0 black 255 ∷ []

pub record ReferenceBars : Type 0 where
  pub bar_1 : bars_in (scrolling kind.Label 1 (set prop.PadBottom 8 ∷ set prop.BorderWidth 3 ∷ set
      prop.PadRight 8 ∷ set prop.PadLeft 3 ∷ []) (set prop.BgColor 15911809 ∷ set prop.BgOpa 170 ∷ [])
      (3, 341) (3, 0)) (at 34 54 123 61) ≡ item (at 120 54 123 61) (rgb 63056) 170 ∷ item (at 38 58 123
      61) (rgb 63056) 170 ∷ []
  pub bar_2 : bars_in (scrolling kind.Image 32 (set prop.PadTop 3 ∷ set prop.PadLeft 1 ∷ set
      prop.PadRight 1 ∷ []) (set prop.BgOpa 219 ∷ []) (236, 5) (101, 3)) (rect (pos 0) (negsuc 0) (pos 1)
      (pos 76)) ≡ item (at 0 2 1 74) (rgb 40179) 219 ∷ item (at 0 73 1 76) (rgb 40179) 219 ∷ []
  pub bar_3 : bars_in (scrolling kind.Button 32 (set prop.PadLeft 5 ∷ []) (set prop.BgColor 4707945 ∷ [])
      (8, 195) (0, 195)) (rect (pos 11) (negsuc 5) (pos 23) (negsuc 3)) ≡ item (rect (pos 20) (negsuc 5)
      (pos 23) (negsuc 3)) (rgb 18093) 255 ∷ item (rect (pos 11) (negsuc 5) (pos 18) (negsuc 3)) (rgb
      18093) 255 ∷ []
  pub bar_4 : bars_in (scrolling kind.List 0 (set prop.PadTop 4 ∷ set prop.PadLeft 6 ∷ set prop.PadRight
      8 ∷ []) (set prop.BgOpa 136 ∷ []) (343, 2398) (207, 319)) (at 56 39 59 50) ≡ item (at 56 39 59 46)
      (rgb 40179) 136 ∷ item (at 56 47 59 50) (rgb 40179) 136 ∷ []
  pub bar_5 : bars_in (scrolling kind.Button 32 (set prop.PadRight 6 ∷ []) (set prop.BgColor 991396 ∷ [])
      (229, 740) (227, 125)) (rect (pos 52) (negsuc 0) (pos 90) (negsuc 0)) ≡ item (rect (pos 87) (negsuc
      0) (pos 90) (negsuc 0)) (rgb 2324) 255 ∷ item (rect (pos 82) (negsuc 0) (pos 89) (negsuc 0)) (rgb
      2324) 255 ∷ []
  pub bar_6 : bars_in (scrolling kind.Image 1 (set prop.PadLeft 8 ∷ set prop.PadBottom 8 ∷ set
      prop.PadTop 8 ∷ []) (set prop.BgOpa 188 ∷ []) (7290, 9) (7290, 0)) (at 13 12 76 23) ≡ item (at 73
      12 76 19) (rgb 40179) 188 ∷ item (at 69 20 76 23) (rgb 40179) 188 ∷ []
  pub bar_7 : bars_in (scrolling kind.List 0 [] (set prop.BgColor 15379130 ∷ set prop.BgOpa 16 ∷ [])
      (165, 0) (165, 0)) (at 57 18 63 206) ≡ item (at 57 203 63 206) (rgb 60759) 16 ∷ []
  pub bar_8 : bars_in (scrolling kind.Obj 33 (set prop.PadRight 5 ∷ set prop.BorderWidth 1 ∷ set
      prop.PadBottom 2 ∷ []) [] (23, 281) (19, 56)) (rect (negsuc 13) (negsuc 7) (pos 48) (pos 152)) ≡
      item (at 45 12 48 68) (rgb 40179) 255 ∷ item (at 1 149 44 152) (rgb 40179) 255 ∷ []
  pub bar_9 : bars_in (scrolling kind.Button 33 [] (set prop.BgColor 13264755 ∷ set prop.BgOpa 240 ∷
      []) (7, 2367) (0, 2367)) (at 0 24 4 154) ≡ item (at 1 147 4 154) (rgb 52014) 240 ∷ item (at 0 151 4
      154) (rgb 52014) 240 ∷ []
  pub bar_10 : bars_in (scrolling kind.Obj 0 [] (set prop.BgColor 13685128 ∷ set prop.BgOpa 83 ∷ [])
      (0, 367) (0, 0)) (at 29 11 32 124) ≡ item (at 29 11 32 37) (rgb 54929) 83 ∷ []
  pub bar_11 : bars_in (scrolling kind.Image 1 (set prop.PadLeft 9 ∷ set prop.BorderWidth 6 ∷ set
      prop.PadBottom 9 ∷ set prop.PadRight 3 ∷ []) (set prop.BgOpa 202 ∷ []) (5900, 221) (1776, 165)) (at
      57 44 253 115) ≡ item (at 250 88 253 100) (rgb 40179) 202 ∷ item (at 113 112 120 115) (rgb 40179)
      202 ∷ []
  pub bar_12 : bars_in (scrolling kind.Image 1 (set prop.PadTop 3 ∷ set prop.PadBottom 3 ∷ []) []
      (1008, 181) (217, 95)) (at 38 45 124 80) ≡ item (at 121 59 124 66) (rgb 40179) 255 ∷ item (at 55 77
      62 80) (rgb 40179) 255 ∷ []
  pub bar_13 : bars_in (scrolling kind.Button 33 (set prop.PadLeft 2 ∷ []) (set prop.BgColor 16570861 ∷
      set prop.BgOpa 18 ∷ []) (2, 0) (2, 0)) (rect (negsuc 7) (pos 34) (pos 113) (pos 166)) ≡ item (rect
      (negsuc 4) (pos 163) (pos 113) (pos 166)) (rgb 65245) 18 ∷ []
  pub bar_14 : bars_in (scrolling kind.Image 0 [] (set prop.BgColor 14205358 ∷ set prop.BgOpa 211 ∷ [])
      (4, 149) (4, 46)) (at 10 49 172 218) ≡ item (at 169 73 172 162) (rgb 56853) 211 ∷ item (at 14 215
      172 218) (rgb 56853) 211 ∷ []
  pub bar_15 : bars_in (scrolling kind.Obj 33 (set prop.BorderWidth 8 ∷ set prop.PadTop 1 ∷ []) (set
      prop.BgColor 7070204 ∷ set prop.BgOpa 140 ∷ []) (5, 295) (0, 8)) (at 8 56 21 172) ≡ item (at 18 58
      21 86) (rgb 28447) 140 ∷ item (at 8 169 15 172) (rgb 28447) 140 ∷ []
  pub bar_16 : bars_in (scrolling kind.Screen 33 [] (set prop.BgColor 6928022 ∷ []) (3966, 294) (
    0,
    220,
  )) (at 20 29 139 63) ≡ item (at 136 49 139 56) (rgb 28082) 255 ∷ item (at 20 60 27 63) (rgb
      28082) 255 ∷ []
  pub bar_17 : bars_in (scrolling kind.Checkbox 1 (set prop.PadTop 6 ∷ set prop.PadBottom 8 ∷ []) []
      (6290, 302) (0, 302)) (rect (negsuc 3) (negsuc 11) (pos 108) (pos 161)) ≡ item (at 105 102 108 161)
      (rgb 40179) 255 ∷ item (rect (negsuc 3) (pos 158) (pos 3) (pos 161)) (rgb 40179) 255 ∷ []
  pub bar_18 : bars_in (scrolling kind.Label 0 (set prop.PadTop 1 ∷ set prop.PadBottom 4 ∷ []) (set
      prop.BgOpa 82 ∷ []) (1752, 10) (1728, 7)) (at 21 37 24 47) ≡ item (at 21 39 24 46) (rgb 40179) 82 ∷
      item (at 21 44 24 47) (rgb 40179) 82 ∷ []
  pub bar_19 : bars_in (still kind.List 0 [] [] (40, 60) (3, 9)) (at 4 5 60 70) ≡ []
  pub bar_20 : bars_in (scrolling kind.Obj 0 (set prop.PadTop 30 ∷ []) (set prop.BgOpa 99 ∷ []) (0, 17)
      (0, 17)) (at 2 2 40 21) ≡ item (at 37 14 40 21) (rgb 40179) 99 ∷ []

pub record ReferenceSizes : Type 0 where
  pub size_1 : sizes_of (sample kind.Label 0 [] (set prop.BorderOpa 177 ∷ []) [] (codes "z  mbmz") (pos
      22) (pos 0) (pos 100) None) 51 ≡ both 42 8
  pub size_3 : sizes_of (sample kind.Image 33 (set prop.TextLetterSpace 3 ∷ set prop.TextColor 10751240 ∷
      []) (set prop.BgColor 8378895 ∷ set prop.BorderWidth 4 ∷ []) (set prop.BgColor 8970764 ∷ []) (codes
      "") (negsuc 29) (negsuc 46) (negsuc 26) (an_image 30 1)) 38 ≡ both 30 1
  pub size_6 : sizes_of (sample kind.Checkbox 33 (set prop.ImgRecolor 803413 ∷ set prop.BorderColor
      13630386 ∷ set prop.BorderOpa 84 ∷ []) (set prop.BorderOpa 96 ∷ []) (set prop.BorderColor 344436 ∷
      []) (codes " m\nbz\nmz\na\n z") (negsuc 27) (negsuc 28) (negsuc 17) None) 56 ≡ both 24 40
  pub size_8 : sizes_of (sample kind.Label 0 (set prop.PadBottom 7 ∷ []) (set prop.BgColor 14031409 ∷ [])
      (set prop.BorderWidth 2 ∷ []) (codes "aiam \nia zb") (pos 3) (negsuc 9) (pos 50) None) 14 ≡ both 30
      48
  pub size_11 : sizes_of (sample kind.Checkbox 33 (set prop.BorderColor 13671204 ∷ set prop.BgOpa 111 ∷
      set prop.TextOpa 121 ∷ []) (set prop.BgOpa 228 ∷ set prop.BorderWidth 2 ∷ []) (set prop.BgColor
      14584792 ∷ []) (codes "  a m  ziizm ") (pos 95) (pos 0) (pos 100) None) 24 ≡ both 90 8
  pub size_13 : sizes_of (sample kind.Checkbox 32 [] (set prop.BorderOpa 177 ∷ []) [] (codes "b") (negsuc
      66) (negsuc 113) (negsuc 55) None) 39 ≡ both 18 8
  pub size_14 : sizes_of (sample kind.Image 0 (set prop.ImgRecolor 1126943 ∷ set prop.TextLetterSpace 1 ∷
      set prop.TextColor 16638503 ∷ []) [] [] (codes "") (pos 39) (pos 10) (pos 80) (an_image 33 30)) 48
      ≡ both 33 30
  pub size_16 : sizes_of (sample kind.Label 33 [] (set prop.BorderWidth 3 ∷ []) (set prop.BgOpa 150 ∷ [])
      (codes "b\nza") (negsuc 10) (negsuc 26) (pos 21) None) 50 ≡ both 12 16
  pub size_18 : sizes_of (sample kind.Image 1 (set prop.TextLetterSpace 1 ∷ set prop.PadRight 4 ∷ set
      prop.BorderColor 11915285 ∷ []) (set prop.BorderWidth 2 ∷ []) (set prop.BgOpa 39 ∷ []) (codes "")
      (pos 22) (negsuc 41) (pos 25) (an_image 35 13)) 53 ≡ both 35 13
  pub size_21 : sizes_of (sample kind.Checkbox 32 (set prop.TextAlign 0 ∷ set prop.TextColor 1749966 ∷
      set prop.TextFont 0 ∷ []) [] [] (codes "\n\nazaib ia") (negsuc 121) (negsuc 144) (negsuc 121) None)
      36 ≡ both 60 24
  pub size_23 : sizes_of (sample kind.Label 0 (set prop.TextOpa 96 ∷ set prop.ImgOpa 212 ∷ set
      prop.TextColor 9311424 ∷ set prop.PadRight 0 ∷ []) (set prop.BgOpa 175 ∷ set prop.BorderOpa 53 ∷
      []) [] (codes " a bz\nam") (pos 96) (pos 0) (pos 100) None) 53 ≡ both 30 16
  pub size_26 : sizes_of (sample kind.Checkbox 33 [] (set prop.BgColor 13511586 ∷ []) (set prop.BgOpa 246
      ∷ []) (codes "azaia") (pos 69) (pos 0) (pos 100) None) 1 ≡ both 42 8
  pub size_28 : sizes_of (sample kind.Checkbox 1 (set prop.BgOpa 56 ∷ set prop.TextColor 14442168 ∷ [])
      (set prop.BorderOpa 48 ∷ []) (set prop.BorderWidth 0 ∷ []) (codes "\nz  a\n \n") (pos 41) (pos 0)
      (pos 100) None) 9 ≡ both 36 32
  pub size_29 : sizes_of (sample kind.Image 1 (set prop.PadBottom 5 ∷ set prop.PadLeft 2 ∷ set
      prop.PadTop 0 ∷ set prop.BorderOpa 221 ∷ []) (set prop.BgColor 15861012 ∷ set prop.BorderOpa 178 ∷
      []) (set prop.BgOpa 101 ∷ []) (codes "") (pos 20) (pos 0) (pos 100) (an_image 6 28)) 58 ≡ both 6 28
  pub size_31 : sizes_of (sample kind.Label 0 (set prop.TextLineSpace 0 ∷ []) [] (set prop.BorderOpa 26 ∷
      []) (codes "\na") (pos 5) (pos 5) (pos 10) None) 40 ≡ both 6 16
  pub size_33 : sizes_of (sample kind.Image 0 (set prop.TextAlign 2 ∷ set prop.TextLetterSpace 0 ∷ set
      prop.BgOpa 101 ∷ []) (set prop.BorderColor 13562259 ∷ []) [] (codes "") (pos 99) (pos 0) (pos 100)
      (an_image 40 6)) 46 ≡ both 40 6
  pub size_36 : sizes_of (sample kind.Checkbox 32 (set prop.TextLetterSpace 1 ∷ []) (set prop.BorderWidth
      0 ∷ set prop.BgColor 8717858 ∷ []) [] (codes " ziii \nmb\n  ") (negsuc 3) (negsuc 23) (negsuc 3)
      None) 37 ≡ both 53 24
  pub size_38 : sizes_of (sample kind.Label 0 (set prop.TextFont 0 ∷ set prop.PadColumn 8 ∷ []) (set
      prop.BgOpa 21 ∷ set prop.BorderOpa 25 ∷ []) (set prop.BorderOpa 126 ∷ []) (codes "   bi  baaa")
      (pos 21) (pos 0) (pos 100) None) 1 ≡ both 66 88
  pub size_41 : sizes_of (sample kind.Checkbox 32 [] [] (set prop.BgOpa 219 ∷ set prop.BorderWidth 0 ∷
      []) (codes " iimbai") (pos 18) (pos 0) (pos 100) None) 27 ≡ both 54 8
  pub size_43 : sizes_of (sample kind.Checkbox 33 (set prop.PadBottom 9 ∷ set prop.TextFont 0 ∷ []) (set
      prop.BorderColor 7311297 ∷ []) (set prop.BorderWidth 6 ∷ []) (codes "") (pos 68) (pos 31) (pos 84)
      None) 20 ≡ both 12 8
  pub size_44 : sizes_of (sample kind.Image 0 [] [] (set prop.BorderColor 7766341 ∷ []) (codes "") (pos
      10) (pos 9) (pos 43) (an_image 29 13)) 48 ≡ both 29 13
  pub size_46 : sizes_of (sample kind.Label 1 (set prop.PadRight 6 ∷ set prop.BorderColor 9692605 ∷ [])
      [] [] (codes "\n\ni") (pos 6) (pos 0) (pos 100) None) 15 ≡ both 6 24
  pub size_48 : sizes_of (sample kind.Image 33 [] (set prop.BgColor 10149213 ∷ set prop.BorderOpa 157 ∷
      []) (set prop.BgOpa 18 ∷ set prop.BorderWidth 4 ∷ []) (codes "") (pos 24) (pos 10) (pos 57)
      (an_image 28 16)) 35 ≡ both 28 16
  pub size_51 : sizes_of (sample kind.Checkbox 33 (set prop.ImgRecolor 11950628 ∷ set
      prop.TextLetterSpace 1 ∷ set prop.PadLeft 5 ∷ set prop.PadTop 7 ∷ set prop.ImgOpa 205 ∷ []) (set
      prop.BorderWidth 3 ∷ set prop.BorderColor 1920227 ∷ []) (set prop.BorderWidth 5 ∷ set
      prop.BorderColor 5546196 ∷ []) (codes "ibm\n az ") (pos 81) (pos 0) (pos 100) None) 30 ≡ both 39 16
  pub size_53 : sizes_of (sample kind.Label 0 (set prop.ImgRecolor 1528777 ∷ set prop.BorderOpa 205 ∷ set
      prop.BgOpa 212 ∷ set prop.TextOpa 183 ∷ []) (set prop.BorderColor 6041827 ∷ []) [] (codes
      " \nm\na iz") (pos 68) (pos 0) (pos 100) None) 19 ≡ both 24 32
  pub size_56 : sizes_of (sample kind.Checkbox 0 (set prop.TextOpa 61 ∷ set prop.TextAlign 0 ∷ set
      prop.PadRight 7 ∷ set prop.PadBottom 2 ∷ set prop.TextColor 13072635 ∷ []) (set prop.BorderOpa 17 ∷
      []) (set prop.BgOpa 184 ∷ []) (codes "izm az\n\n \na") (pos 52) (pos 0) (pos 100) None) 6 ≡ both 48
      32
  pub size_58 : sizes_of (sample kind.Checkbox 0 (set prop.TextLineSpace 2 ∷ []) [] (set prop.BorderWidth
      6 ∷ []) (codes "aiimiaib") (pos 100) (pos 0) (pos 100) None) 36 ≡ both 60 8
  pub size_59 : sizes_of (sample kind.Image 0 (set prop.TextFont 1 ∷ set prop.BorderColor 8226222 ∷ set
      prop.TextColor 1438317 ∷ set prop.PadColumn 6 ∷ set prop.TextAlign 1 ∷ []) [] (set prop.BgColor
      12493021 ∷ set prop.BorderWidth 1 ∷ []) (codes "") (pos 44) (pos 0) (pos 100) None) 41 ≡ both 0 0
  pub size_61 : sizes_of (sample kind.Label 0 (set prop.ImgOpa 243 ∷ set prop.TextLetterSpace 0 ∷ [])
      (set prop.BgOpa 84 ∷ []) (set prop.BgOpa 131 ∷ []) (codes " ba\nabam \n\na") (negsuc 108) (negsuc
      130) (negsuc 76) None) 20 ≡ both 30 40
  pub size_63 : sizes_of (sample kind.Image 33 (set prop.PadRight 0 ∷ []) [] [] (codes "") (negsuc 63)
      (negsuc 95) (negsuc 57) (an_image 14 10)) 19 ≡ both 14 10
