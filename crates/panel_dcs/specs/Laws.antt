-- A law on turns: what a panel shows tells what its controller's memory holds, pixel by pixel of the device.
use Rattle.std.specs.Prelude.{◌≡◌, ℤ, true, false, if◌then◌else◌, List}
use Rattle.gui_base.specs.declared.color.Rgb565.{Rgb565}
use Rattle.gui_base.specs.Area.{Rect, has}
use Rattle.gui_color.specs.Buffer.{color_at}
use Rattle.gui_edge.specs.Panel.{Shows, SameOutside}
use Rattle.panel_dcs.specs.Turning.{Turned, turned_area, color_on, panel_of, device, shown}

pub record MemoryIsAsShown : Type 0 where
  -- Where the panel shows these colours in an area, and all else as before, the memory has them at their turned
  -- places, and all else as before.
  pub shows : (t : Turned) (area : Rect) (color : ℤ → ℤ → Rgb565) (old new : List Rgb565) →
      Shows (panel_of t) area color (shown t old) (shown t new) →
      (c p : ℤ) → has (device t) c p ≡ true →
      color_at (device t) new c p
      ≡ (if has (turned_area t area) c p then color_on t color c p else color_at (device t) old c p)
  -- Where only pixels of the area may differ, only their turned places in the memory may.
  pub outside : (t : Turned) (area : Rect) (old new : List Rgb565) →
      SameOutside (panel_of t) area (shown t old) (shown t new) →
      (c p : ℤ) → has (device t) c p ≡ true → has (turned_area t area) c p ≡ false →
      color_at (device t) new c p ≡ color_at (device t) old c p
