-- An area is the set of the pixels between two corners, both included.
use Rattle.std.specs.Prelude.{◌≡◌, ℕ, ◌*◌, Bool, true, ◌&&◌, ◌||◌, not, if◌then◌else◌, ℤ, pos, negsuc, ◌≤ℤ◌}
use Rattle.std.specs.Prelude.{◌+ℤ◌, ◌-ℤ◌}
use Rattle.std.specs.Int.{int_max, int_min}
use Rattle.std.specs.Int.Signed.{le_z, lt_z}

abbrev pub IsCoordinate : ℤ → Type 0
IsCoordinate n = (negsuc 1073741823 ≤ℤ n) × (n ≤ℤ pos 1073741823)

-- two corners; the area is empty where the second lies left of the first or above it
pub record Rect : Type 0 where
  pub x1 : ℤ
  pub y1 : ℤ
  pub x2 : ℤ
  pub y2 : ℤ

-- the area from a corner with these sizes in pixels
abbrev pub area_at : ℤ → ℤ → ℕ → ℕ → Rect
area_at x y width height =
    record { x1 = x; y1 = y; x2 = (x +ℤ pos width) -ℤ pos 1; y2 = (y +ℤ pos height) -ℤ pos 1 }

-- a number that stays a coordinate where at most 2^29 pixels are added to it
abbrev pub IsInner : ℤ → Type 0
IsInner n = (negsuc 536870911 ≤ℤ n) × (n ≤ℤ pos 536870912)

-- whether the pixel is in it
abbrev pub has : Rect → ℤ → ℤ → Bool
has area x y = (le_z area.x1 x && le_z x area.x2) && (le_z area.y1 y && le_z y area.y2)

-- whether no pixel is in it
abbrev pub is_empty : Rect → Bool
is_empty area = lt_z area.x2 area.x1 || lt_z area.y2 area.y1

-- a number, or 0 where it lies below
abbrev pub nat_of : ℤ → ℕ
nat_of (pos n) = n
nat_of (negsuc n) = 0

-- how many numbers there are from one to another
abbrev pub count_between : ℤ → ℤ → ℕ
count_between low high = nat_of ((high -ℤ low) +ℤ pos 1)

-- how many columns it has
abbrev pub width_of : Rect → ℕ
width_of area = count_between area.x1 area.x2

-- how many lines it has
abbrev pub height_of : Rect → ℕ
height_of area = count_between area.y1 area.y2

-- how many pixels it has
abbrev pub size_of : Rect → ℕ
size_of area = width_of area * height_of area

-- the pixels that both have
abbrev pub common : Rect → Rect → Rect
common a b =
    record { x1 = int_max a.x1 b.x1; y1 = int_max a.y1 b.y1; x2 = int_min a.x2 b.x2; y2 = int_min a.y2 b.y2 }

-- each pixel of the second is one of the first
abbrev pub Covers : Rect → Rect → Type 0
Covers a b = (x y : ℤ) → has b x y ≡ true → has a x y ≡ true

-- whether both corners of the second lie between those of the first
abbrev pub has_corners : Rect → Rect → Bool
has_corners a b = (le_z a.x1 b.x1 && le_z b.x2 a.x2) && (le_z a.y1 b.y1 && le_z b.y2 a.y2)

-- whether the second has a pixel, and all of its pixels are in the first
abbrev pub is_within : Rect → Rect → Bool
is_within a b = not (is_empty b) && has_corners a b

-- the least area with the pixels of both; that of an empty one and another is the other
abbrev pub joined : Rect → Rect → Rect
joined a b =
    if is_empty a then b
    else if is_empty b then a
    else record {
      x1 = int_min a.x1 b.x1;
      y1 = int_min a.y1 b.y1;
      x2 = int_max a.x2 b.x2;
      y2 = int_max a.y2 b.y2;
    }
