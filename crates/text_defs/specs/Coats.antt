-- What texts and pictures lay on pixels.
use Rattle.std.specs.Prelude.{ℕ, ◌*◌, ◌/◌, Bool, false, ◌&&◌, nat_lt, List, Some, None, ℤ, ◌-ℤ◌}
use Rattle.std.specs.declared.option.Option.{Option}
use Rattle.std.specs.Int.RustNames.{unsigned_abs}
use Rattle.gui_base.specs.declared.color.Rgb565.{Rgb565}
use Rattle.gui_base.specs.Area.{Rect, width_of}
use Rattle.gui_base.specs.Coats.{Dab, Coat, only, within, plain}
use Rattle.text_defs.specs.declared.TextLook.{TextLook}
use Rattle.text_defs.specs.declared.Texel.{Texel}
use Rattle.text_defs.specs.Face.{Face}
use Rattle.text_defs.specs.Images.{Image, size_in, texel_of}
use Rattle.text_defs.specs.Ink.{inked}

-- whether a pixel is inked by a text that is set in the width of an area, from its top left on
abbrev pub is_inked : Rect → Face → TextLook → List ℕ → ℤ → ℤ → Bool
is_inked area face look cs x y =
    inked face look.letter look.line look.align cs (width_of area) (x -ℤ area.x1) (y -ℤ area.y1)

-- a text in an area: one colour with one opacity on each pixel that is inked
abbrev pub ink_coat : Rect → Face → TextLook → List ℕ → Rgb565 → ℕ → Coat
ink_coat area face look cs color opa = within area (only (is_inked area face look cs) (plain color opa))

-- a texel without a colour has the one that is given for it
abbrev pub color_or : Option Rgb565 → Rgb565 → Rgb565
color_or None recolor = recolor
color_or (Some color) recolor = color

-- one opacity after the other
abbrev pub dab_of : Texel → Rgb565 → ℕ → Dab
dab_of texel recolor opa =
    record { color = color_or texel.color recolor; opa = texel.alpha * opa / 255 }

-- whether an image of this size has a texel there; an image without a size has none
abbrev pub has_texel : Option (ℕ × ℕ) → ℕ → ℕ → Bool
has_texel None x y = false
has_texel (Some size) x y = nat_lt x size.0 && nat_lt y size.1

-- how far a number is from another below it
abbrev pub distance : ℤ → ℤ → ℕ
distance from to = unsigned_abs (to -ℤ from)

-- whether a pixel is in a picture that stands at an area's top left
abbrev pub is_pictured : Rect → List Image → ℕ → ℤ → ℤ → Bool
is_pictured area images id x y =
    has_texel (size_in images id) (distance area.x1 x) (distance area.y1 y)

-- the texel of each of its pixels
abbrev pub texel_coat : Rect → List Image → ℕ → Rgb565 → ℕ → Coat
texel_coat area images id recolor opa x y =
    Some (dab_of (texel_of images id (distance area.x1 x) (distance area.y1 y)) recolor opa)

-- a picture at an area's top left, cut to the area
abbrev pub picture_coat : Rect → List Image → ℕ → Rgb565 → ℕ → Coat
picture_coat area images id recolor opa =
    within area (only (is_pictured area images id) (texel_coat area images id recolor opa))
