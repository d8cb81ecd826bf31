-- What a viewer makes of the bytes of a stream, which are all that it gets.
use Rattle.std.specs.Prelude.{ℕ, ◌+◌, ◌*◌, ◌/◌, ◌%◌, ◌==◌, nat_lt, if◌then◌else◌, ℤ, pos}
use Rattle.std.specs.Prelude.{List, [], ◌∷◌, ◌++◌, length, drop, map, replicate, fold, slice_index_or}
use Rattle.std.specs.List.{flat_map, range_with_len}
use Rattle.gui_base.specs.declared.color.Rgb565.{Rgb565}
use Rattle.gui_base.specs.Area.{Rect, area_at, has, nat_of, width_of, height_of}
use Rattle.gui_base.specs.Color.{black}
use Rattle.gui_base.specs.Ppm.{ppm}
use Rattle.gui_color.specs.Buffer.{Buffer, color_at}

-- the picture that a viewer has, and the frames that it kept
pub record Viewer : Type 0 where
  pub width : ℕ
  pub height : ℕ
  -- the colour of each pixel, in reading order
  pub pixels : List Rgb565
  -- the picture files of the frames so far, one after the other
  pub frames : List ℕ
  -- the bytes so far of a record that has more
  pub kept : List ℕ

-- before the first byte
abbrev pub first_viewer : Viewer
first_viewer = record { width = 0; height = 0; pixels = []; frames = []; kept = [] }

-- Records. Each begins with a byte that tells its kind: `S`, the sizes of the picture, two numbers; `A`, an
-- area, four numbers and then the colours of its pixels in reading order; `F`, a frame. A number or a colour
-- has two bytes, high byte first. Any other byte is a record by itself, which does nothing.

-- the byte `S`, which begins the sizes of the picture
abbrev pub sizes_kind : ℕ
sizes_kind = 83

-- the byte `A`, which begins an area
abbrev pub area_kind : ℕ
area_kind = 65

-- the byte `F`, which is a frame
abbrev pub frame_kind : ℕ
frame_kind = 70

-- a number of sixteen bits, high byte first
abbrev pub sixteen : ℕ → ℕ → ℕ
sixteen high low = high * 256 + low

-- the byte at a place of a record, from 0
abbrev pub byte_at : List ℕ → ℕ → ℕ
byte_at bytes i = slice_index_or bytes i 0

-- the number whose two bytes begin at a place of a record
abbrev pub number_at : List ℕ → ℕ → ℕ
number_at bytes i = sixteen (byte_at bytes i) (byte_at bytes (i + 1))

-- how many bytes a record has that begins so: that is known of an area once its numbers are
abbrev pub record_len : List ℕ → ℕ
record_len bytes =
    if byte_at bytes 0 == sizes_kind then 5
    else if byte_at bytes 0 == area_kind
    then if nat_lt (length bytes) 9 then 9 else 9 + 2 * (number_at bytes 5 * number_at bytes 7)
    else 1

-- the colours of these bytes
unfoldable pub colors_in : List ℕ → List Rgb565
colors_in [] = []
colors_in (high ∷ []) = []
colors_in (high ∷ low ∷ bytes) = record { 0 = sixteen high low } ∷ colors_in bytes

-- the pixels of a picture of these sizes in reading order, whose colours are these
abbrev pub picture_of : ℕ → ℕ → (ℤ → ℤ → Rgb565) → List Rgb565
picture_of width height color =
    map (λ i. color (pos (i % width)) (pos (i / width))) (range_with_len 0 (width * height))

-- all pixels of a picture of these sizes
abbrev pub panel_of : ℕ → ℕ → Rect
panel_of width height = area_at (pos 0) (pos 0) width height

-- a picture of these sizes, with the colours of an area written over it
abbrev pub painted : ℕ → ℕ → List Rgb565 → Rect → List Rgb565 → List Rgb565
painted width height pixels area colors =
    picture_of width height (λ x y.
    if has area x y then color_at area colors x y else color_at (panel_of width height) pixels x y)

-- What a whole record does.

-- a picture of new sizes, all black
abbrev pub takes_sizes : Viewer → List ℕ → Viewer
takes_sizes viewer bytes = record viewer {
  width = number_at bytes 1;
  height = number_at bytes 3;
  pixels = replicate (number_at bytes 1 * number_at bytes 3) black;
}

-- the area that a record tells, by its corner, its width and its height
abbrev pub area_said : List ℕ → Rect
area_said bytes =
    area_at (pos (number_at bytes 1)) (pos (number_at bytes 3)) (number_at bytes 5) (number_at bytes 7)

-- the picture with the colours of a record written over its area
abbrev pub takes_area : Viewer → List ℕ → Viewer
takes_area viewer bytes = record viewer {
  pixels = painted viewer.width viewer.height viewer.pixels (area_said bytes) (colors_in (drop 9 bytes));
}

-- the picture as it is, kept as the file of one frame more
abbrev pub takes_frame : Viewer → Viewer
takes_frame viewer =
    record viewer { frames = viewer.frames ++ ppm viewer.width viewer.height viewer.pixels }

-- what a viewer makes of a whole record, by its kind
abbrev pub takes : Viewer → List ℕ → Viewer
takes viewer bytes =
    if byte_at bytes 0 == sizes_kind then takes_sizes viewer bytes
    else if byte_at bytes 0 == area_kind then takes_area viewer bytes
    else if byte_at bytes 0 == frame_kind then takes_frame viewer
    else viewer

-- The bytes, one after the other: the kept ones with this one are a whole record, or are kept.

-- these bytes of a record are kept until it is whole
abbrev pub with_bytes : Viewer → List ℕ → Viewer
with_bytes viewer bytes =
    if nat_lt (length bytes) (record_len bytes)
    then record viewer { kept = bytes }
    else takes (record viewer { kept = [] }) bytes

-- a viewer that gets one byte more
abbrev pub with_byte : Viewer → ℕ → Viewer
with_byte viewer byte = with_bytes viewer (viewer.kept ++ byte ∷ [])

-- a viewer that goes on with these bytes
unfoldable pub viewing : Viewer → List ℕ → Viewer
viewing viewer bytes = fold with_byte viewer bytes

-- what a viewer makes of these bytes from the first on
abbrev pub replayed : List ℕ → Viewer
replayed bytes = viewing first_viewer bytes

-- What a panel writes.

abbrev pub two_bytes : ℕ → List ℕ
two_bytes n = n / 256 ∷ n % 256 ∷ []

abbrev pub color_bytes : List Rgb565 → List ℕ
color_bytes colors = flat_map (λ c. two_bytes c.0) colors

abbrev pub sizes_bytes : ℕ → ℕ → List ℕ
sizes_bytes width height = sizes_kind ∷ two_bytes width ++ two_bytes height

abbrev pub head_bytes : Rect → List ℕ
head_bytes area =
    area_kind ∷ two_bytes (nat_of area.x1) ++ two_bytes (nat_of area.y1)
    ++ two_bytes (width_of area) ++ two_bytes (height_of area)

abbrev pub area_bytes : Buffer → List ℕ
area_bytes buf = head_bytes buf.area ++ color_bytes buf.pixels

abbrev pub frame_bytes : List ℕ
frame_bytes = frame_kind ∷ []
