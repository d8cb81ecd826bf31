-- What painting does to a draw buffer.
use Rattle.std.specs.Prelude.{◌≡◌, ℕ, true, if◌then◌else◌, fold, List, ℤ}
use Rattle.gui_base.specs.declared.color.Rgb565.{Rgb565}
use Rattle.gui_base.specs.Area.{Rect, has}
use Rattle.gui_base.specs.Coats.{Coat}
use Rattle.gui_color.specs.Buffer.{Buffer, pixel_at}
use Rattle.scene_defs.specs.Scene.{Scene}
use Rattle.scene_defs.specs.Items.{bar_coats, coats, lay}

-- how each pixel turns into another colour
abbrev pub Painting : Type 0
Painting = ℤ → ℤ → Rgb565 → Rgb565

-- the one painting of the old buffer comes to what the other of the new one does
pub record Leaves (old new : Buffer) (before after : Painting) : Type 0 where
  pub area_stays : new.area ≡ old.area
  pub limit_stays : new.limit ≡ old.limit
  pub pixels : (x y : ℤ) → has old.area x y ≡ true →
      after x y (pixel_at new x y) ≡ before x y (pixel_at old x y)

abbrev pub no_more : Painting
no_more x y under = under

-- the buffer turns so, pixel by pixel
abbrev pub Paints : Buffer → Buffer → Painting → Type 0
Paints old new over = Leaves old new over no_more

-- a coat where it is visible
abbrev pub painted_coat : Rect → Coat → Painting
painted_coat visible coat x y under = if has visible x y then lay x y under coat else under

-- coats, the lowest first, where they are visible
abbrev pub painted_coats : Rect → List Coat → Painting
painted_coats visible coats x y under = if has visible x y then fold (lay x y) under coats else under

-- an object by itself where it is seen
abbrev pub painted_object : Scene → Rect → ℕ → Painting
painted_object scene visible h = painted_coats visible (coats scene h)

-- and its bars
abbrev pub painted_bars : Scene → Rect → ℕ → Painting
painted_bars scene visible h = painted_coats visible (bar_coats scene h)
