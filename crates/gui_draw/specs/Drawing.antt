-- What drawing does to a draw buffer.
use Rattle.std.specs.Prelude.{◌≡◌, ℕ, ◌+◌, true, ℤ}
use Rattle.gui_base.specs.declared.color.Rgb565.{Rgb565}
use Rattle.gui_base.specs.Area.{has}
use Rattle.gui_base.specs.Coats.{Coat, laid}
use Rattle.gui_color.specs.Buffer.{Buffer, pixel_at}
use Rattle.gui_draw.specs.Counts.{pixel_count}

-- each pixel of the buffer gets what the coat lays on it, by one mix, and each mix is a step
pub record Draws (old new : Buffer) (from to : ℕ) (coat : Coat) : Type 0 where
  pub area_stays : new.area ≡ old.area
  pub limit_stays : new.limit ≡ old.limit
  pub pixels : (x y : ℤ) → has old.area x y ≡ true → pixel_at new x y ≡ laid (coat x y) (pixel_at old x y)
  pub steps : to ≡ from + pixel_count old.area coat

-- each pixel of the buffer has its colour
pub record ShowsColors (old new : Buffer) (color : ℤ → ℤ → Rgb565) : Type 0 where
  pub area_stays : new.area ≡ old.area
  pub limit_stays : new.limit ≡ old.limit
  pub pixels : (x y : ℤ) → has old.area x y ≡ true → pixel_at new x y ≡ color x y
