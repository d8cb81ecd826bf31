-- What callers see of a draw buffer.
use Rattle.std.specs.Prelude.{◌≡◌, ℕ, ◌+◌, ◌*◌, Bool, true, if◌then◌else◌, ℤ, pos, negsuc, ◌-ℤ◌}
use Rattle.std.specs.Prelude.{List, ◌++◌, take, drop, length, slice_index_or, slice_range}
use Rattle.std.specs.Int.RustNames.{unsigned_abs}
use Rattle.gui_base.specs.declared.color.Rgb565.{Rgb565}
use Rattle.gui_base.specs.Area.{Rect, has, count_between, width_of, size_of}
use Rattle.gui_base.specs.Color.{black, mix}

-- an area, the colours of its pixels row by row, and how many pixels there may be
pub record Buffer : Type 0 where
  pub area : Rect
  pub pixels : List Rgb565
  pub limit : ℕ

-- each pixel of the area has a colour
abbrev pub IsWhole : Buffer → Type 0
IsWhole buf = length buf.pixels ≡ size_of buf.area

-- the area of a buffer that was just opened
abbrev pub no_pixel : Rect
no_pixel = record { x1 = pos 0; y1 = pos 0; x2 = negsuc 0; y2 = negsuc 0 }

-- how far a number is from another below it
abbrev pub distance : ℤ → ℤ → ℕ
distance from to = unsigned_abs (to -ℤ from)

-- how many pixels of an area come before one of its pixels, row by row
unfoldable pub place : Rect → ℤ → ℤ → ℕ
place area x y = distance area.y1 y * width_of area + distance area.x1 x

-- the colour of a pixel of an area whose pixels have these colours, row by row
unfoldable pub color_at : Rect → List Rgb565 → ℤ → ℤ → Rgb565
color_at area colors x y = slice_index_or colors (place area x y) black

-- the colour of a pixel of the buffer's area
unfoldable pub pixel_at : Buffer → ℤ → ℤ → Rgb565
pixel_at buf x y = color_at buf.area buf.pixels x y

-- each pixel is black
abbrev pub IsBlack : Buffer → Type 0
IsBlack buf = (x y : ℤ) → has buf.area x y ≡ true → pixel_at buf x y ≡ black

-- a colour was mixed over the pixels of the first where a test holds, and the others are as they were
abbrev pub IsMixed : Buffer → Buffer → (ℤ → ℤ → Bool) → Rgb565 → ℕ → Type 0
IsMixed old new test fg opa =
    (x y : ℤ) → has old.area x y ≡ true → pixel_at new x y ≡ (if test x y then mix fg (pixel_at old x y) opa else pixel_at old x y)

-- the colours of row y from column x1 to column x2
unfoldable pub row_of : Buffer → ℤ → ℤ → ℤ → List Rgb565
row_of buf y x1 x2 = slice_range buf.pixels (place buf.area x1 y) (place buf.area x2 y + 1)

-- a list with ws written over as many of its elements from place i on
unfoldable pub with_run : List Rgb565 → ℕ → List Rgb565 → List Rgb565
with_run ps i ws = take (length ps) (take i ps ++ (ws ++ drop (length ws) (drop i ps)))

-- the buffer with ws written over as many pixels of row y from column x1 on
abbrev pub with_row : Buffer → ℤ → ℤ → List Rgb565 → Buffer
with_row buf y x1 ws = record buf { pixels = with_run buf.pixels (place buf.area x1 y) ws }

-- the pixels of row y from column x1 to column x2
abbrev pub row_area : ℤ → ℤ → ℤ → Rect
row_area y x1 x2 = record { x1 = x1; y1 = y; x2 = x2; y2 = y }

-- the colours of a row are those of its pixels, and what is written over them becomes theirs alone
pub record HoldsRow (buf : Buffer) (y x1 x2 : ℤ) : Type 0 where
  pub colors : (x v : ℤ) → has (row_area y x1 x2) x v ≡ true →
      slice_index_or (row_of buf y x1 x2) (distance x1 x) black ≡ pixel_at buf x v
  pub written : (ws : List Rgb565) → length ws ≡ count_between x1 x2 → (x v : ℤ) → has buf.area x v ≡ true →
      pixel_at (with_row buf y x1 ws) x v
      ≡ (if has (row_area y x1 x2) x v then slice_index_or ws (distance x1 x) black else pixel_at buf x v)
