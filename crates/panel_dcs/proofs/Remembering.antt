-- What a panel shows tells what its controller's memory holds.
use Rattle.std.proofs.Common.{◌≡◌, ◌∙◌, sym, ap, ℤ, true, false, if◌then◌else◌, Bool, List, arith}
use Rattle.std.proofs.lemmas.Bool.Decides.{nat_tests}
use Rattle.std.proofs.lemmas.Int.{ints}
use Rattle.gui_base.specs.declared.color.Rgb565.{Rgb565}
use Rattle.gui_base.specs.Area.{Rect, has}
use Rattle.gui_base.proofs.Areas.{between_has}
use Rattle.gui_color.specs.Buffer.{color_at}
use Rattle.gui_edge.specs.Panel.{Shows, SameOutside}
use Rattle.panel_dcs.specs.Transfers.{device_of}
use Rattle.panel_dcs.specs.declared.turn.Turn.{Turn}
use Rattle.panel_dcs.specs.declared.turn.Turn.TheVariants.{Upright, Quarter, Half, ThreeQuarters}
use Rattle.panel_dcs.specs.Turning.{Turned, upright_or, page_at, x_by, y_by, color_on, turned_area, panel_of, device, shown}
use Rattle.panel_dcs.proofs.Sizing.{column_back, page_back}
use Rattle.panel_dcs.proofs.Turns.{has_turned, shown_at}

-- a column and a page of the device are those of a pixel of the panel
device_back : (turn : Turn) (t : Turned) (c p : ℤ) → has (device_of (upright_or turn t.width t.height) (upright_or turn t.height t.width)) c p ≡ true → has (panel_of t) (x_by turn t c p) (y_by turn t c p) ≡ true
device_back Upright t c p h = h
device_back Quarter t c p h = let b = between_has (device_of t.height t.width) c p h in let l = b.left in let r = b.right in let u = b.top in let d = b.bottom in grind (arith, ints, nat_tests)
device_back Half t c p h = let b = between_has (device_of t.width t.height) c p h in let l = b.left in let r = b.right in let u = b.top in let d = b.bottom in grind (arith, ints, nat_tests)
device_back ThreeQuarters t c p h = let b = between_has (device_of t.height t.width) c p h in let l = b.left in let r = b.right in let u = b.top in let d = b.bottom in grind (arith, ints, nat_tests)

-- the colour of the memory there is what the panel shows
remembers : (t : Turned) (memory : List Rgb565) (c p : ℤ) → has (device t) c p ≡ true → color_at (device t) memory c p ≡ color_at (panel_of t) (shown t memory) (x_by t.turn t c p) (y_by t.turn t c p)
remembers t memory c p i =
    sym (shown_at t memory (x_by t.turn t c p) (y_by t.turn t c p) (device_back t.turn t c p i)
    ∙ ap (λ (z : ℤ). color_at (device t) memory z (page_at t (x_by t.turn t c p) (y_by t.turn t c p))) (column_back t.turn t c p)
    ∙ ap (λ (z : ℤ). color_at (device t) memory c z) (page_back t.turn t c p))

-- and whether an area has the pixel
area_back : (t : Turned) (area : Rect) (c p : ℤ) → has area (x_by t.turn t c p) (y_by t.turn t c p) ≡ has (turned_area t area) c p
area_back t area c p =
    sym (has_turned t.turn t area (x_by t.turn t c p) (y_by t.turn t c p))
    ∙ ap (λ (z : ℤ). has (turned_area t area) z (page_at t (x_by t.turn t c p) (y_by t.turn t c p))) (column_back t.turn t c p)
    ∙ ap (λ (z : ℤ). has (turned_area t area) c z) (page_back t.turn t c p)

pub memory_shows : (t : Turned) (area : Rect) (color : ℤ → ℤ → Rgb565) (old new : List Rgb565) → Shows (panel_of t) area color (shown t old) (shown t new) →
    (c p : ℤ) → has (device t) c p ≡ true → color_at (device t) new c p ≡ (if has (turned_area t area) c p then color_on t color c p else color_at (device t) old c p)
memory_shows t area color old new h c p i =
    remembers t new c p i
    ∙ h.each (x_by t.turn t c p) (y_by t.turn t c p) (device_back t.turn t c p i)
    ∙ ap (λ (b : Bool). if b then color (x_by t.turn t c p) (y_by t.turn t c p) else color_at (panel_of t) (shown t old) (x_by t.turn t c p) (y_by t.turn t c p)) (area_back t area c p)
    ∙ ap (λ (k : Rgb565). if has (turned_area t area) c p then color (x_by t.turn t c p) (y_by t.turn t c p) else k) (sym (remembers t old c p i))

pub memory_stays : (t : Turned) (area : Rect) (old new : List Rgb565) → SameOutside (panel_of t) area (shown t old) (shown t new) →
    (c p : ℤ) → has (device t) c p ≡ true → has (turned_area t area) c p ≡ false → color_at (device t) new c p ≡ color_at (device t) old c p
memory_stays t area old new h c p i o =
    remembers t new c p i
    ∙ h.outside (x_by t.turn t c p) (y_by t.turn t c p) (device_back t.turn t c p i) (area_back t area c p ∙ o)
    ∙ sym (remembers t old c p i)
