-- What drawing lays on pixels.
use Rattle.std.specs.Prelude.{ℕ, Bool, if◌then◌else◌, ◌&&◌, not, Some, None, ℤ, pos, ◌+ℤ◌, ◌-ℤ◌}
use Rattle.std.specs.declared.option.Option.{Option}
use Rattle.gui_base.specs.declared.color.Rgb565.{Rgb565}
use Rattle.gui_base.specs.Area.{Rect, has}
use Rattle.gui_base.specs.Color.{mix}

-- a colour with an opacity
pub record Dab : Type 0 where
  pub color : Rgb565
  pub opa : ℕ

-- what is laid on each pixel: a colour with an opacity, or nothing
abbrev pub Coat : Type 0
Coat = ℤ → ℤ → Option Dab

-- the colour that is seen where something is laid over another
abbrev pub laid : Option Dab → Rgb565 → Rgb565
laid None under = under
laid (Some dab) under = mix dab.color under dab.opa

-- a coat where a test holds, and nothing elsewhere
abbrev pub only : (ℤ → ℤ → Bool) → Coat → Coat
only test coat x y = if test x y then coat x y else None

-- a coat inside an area
abbrev pub within : Rect → Coat → Coat
within area coat = only (has area) coat

-- the same everywhere
abbrev pub plain : Rgb565 → ℕ → Coat
plain color opa x y = Some (record { color = color; opa = opa })

-- one colour with one opacity on each pixel of an area
abbrev pub fill_coat : Rect → Rgb565 → ℕ → Coat
fill_coat area color opa = within area (plain color opa)

-- an area without so many pixels at each side
abbrev pub shrunk : Rect → ℕ → Rect
shrunk area n =
    record { x1 = area.x1 +ℤ pos n; y1 = area.y1 +ℤ pos n; x2 = area.x2 -ℤ pos n; y2 = area.y2 -ℤ pos n }

-- whether a pixel is inside the one area and outside the other
abbrev pub is_between : Rect → Rect → ℤ → ℤ → Bool
is_between outer inner x y = has outer x y && not (has inner x y)

-- so many pixels along each side of an area
abbrev pub ring_coat : Rect → ℕ → Rgb565 → ℕ → Coat
ring_coat area width color opa = only (is_between area (shrunk area width)) (plain color opa)
