-- How a panel is turned on its device.
use Rattle.std.specs.Prelude.{ℕ, ◌-◌, ◌*◌, ◌/◌, ◌%◌, ◌==◌, if◌then◌else◌, List, map}
use Rattle.std.specs.Prelude.{ℤ, pos, ◌-ℤ◌, bytes_eq, codes, Some, None}
use Rattle.std.specs.declared.option.Option.{Option}
use Rattle.std.specs.List.{range_with_len}
use Rattle.gui_base.specs.declared.color.Rgb565.{Rgb565}
use Rattle.gui_base.specs.Area.{Rect, area_at}
use Rattle.gui_color.specs.Buffer.{color_at}
use Rattle.panel_dcs.specs.Transfers.{device_of}
use Rattle.panel_dcs.specs.declared.turn.Sizes.{Sizes}
use Rattle.panel_dcs.specs.declared.turn.Turn.{Turn}
use Rattle.panel_dcs.specs.declared.turn.Turn.TheVariants.{Upright, Quarter, Half, ThreeQuarters}

-- the turn of a number of quarters; every number from 3 on stands for three quarters
abbrev pub quarters : ℕ → Turn
quarters n = if n == 0 then Upright else if n == 1 then Quarter else if n == 2 then Half else ThreeQuarters

-- the number of a turn
abbrev pub quarters_of : Turn → ℕ
quarters_of Upright = 0
quarters_of Quarter = 1
quarters_of Half = 2
quarters_of ThreeQuarters = 3

-- how a panel is turned on its device, and its own sizes in pixels
pub record Turned : Type 0 where
  pub turn : Turn
  pub width : ℕ
  pub height : ℕ

-- the first of two where it stands on its feet or on its head, else the second
abbrev pub upright_or : {A : Type 0} → Turn → A → A → A
upright_or Upright a b = a
upright_or Quarter a b = b
upright_or Half a b = a
upright_or ThreeQuarters a b = b

-- how many columns its device has
abbrev pub columns_of : Turned → ℕ
columns_of t = upright_or t.turn t.width t.height

-- how many pages its device has
abbrev pub pages_of : Turned → ℕ
pages_of t = upright_or t.turn t.height t.width

-- a place counted from the other end of so many
abbrev pub back_from : ℕ → ℤ → ℤ
back_from n x = (pos n -ℤ pos 1) -ℤ x

-- the column of the device on which a pixel lies
abbrev pub column_by : Turn → Turned → ℤ → ℤ → ℤ
column_by Upright t x y = x
column_by Quarter t x y = back_from t.height y
column_by Half t x y = back_from t.width x
column_by ThreeQuarters t x y = y

-- the page of the device on which a pixel lies
abbrev pub page_by : Turn → Turned → ℤ → ℤ → ℤ
page_by Upright t x y = y
page_by Quarter t x y = x
page_by Half t x y = back_from t.height y
page_by ThreeQuarters t x y = back_from t.width x

-- the column of a pixel of this panel
abbrev pub column_at : Turned → ℤ → ℤ → ℤ
column_at t x y = column_by t.turn t x y

-- the page of a pixel of this panel
abbrev pub page_at : Turned → ℤ → ℤ → ℤ
page_at t x y = page_by t.turn t x y

-- the pixel of a column and a page
abbrev pub x_by : Turn → Turned → ℤ → ℤ → ℤ
x_by Upright t column page = column
x_by Quarter t column page = page
x_by Half t column page = back_from t.width column
x_by ThreeQuarters t column page = back_from t.width page

abbrev pub y_by : Turn → Turned → ℤ → ℤ → ℤ
y_by Upright t column page = page
y_by Quarter t column page = back_from t.height column
y_by Half t column page = back_from t.height page
y_by ThreeQuarters t column page = column

-- the colour of the pixel of a column and a page
abbrev pub color_on : Turned → (ℤ → ℤ → Rgb565) → ℤ → ℤ → Rgb565
color_on t color column page = color (x_by t.turn t column page) (y_by t.turn t column page)

-- the columns and pages of an area
abbrev pub area_by : Turn → Turned → Rect → Rect
area_by Upright t area = area
area_by Quarter t area = record {
  x1 = back_from t.height area.y2;
  y1 = area.x1;
  x2 = back_from t.height area.y1;
  y2 = area.x2;
}
area_by Half t area = record {
  x1 = back_from t.width area.x2;
  y1 = back_from t.height area.y2;
  x2 = back_from t.width area.x1;
  y2 = back_from t.height area.y1;
}
area_by ThreeQuarters t area = record {
  x1 = area.y1;
  y1 = back_from t.width area.x2;
  x2 = area.y2;
  y2 = back_from t.width area.x1;
}

-- the columns and pages of an area of this panel
abbrev pub turned_area : Turned → Rect → Rect
turned_area t area = area_by t.turn t area

abbrev pub panel_of : Turned → Rect
panel_of t = area_at (pos 0) (pos 0) t.width t.height

-- all columns and pages of the device
abbrev pub device : Turned → Rect
device t = device_of (columns_of t) (pages_of t)

-- the colour of the memory at the place of a pixel
abbrev pub color_behind : Turned → List Rgb565 → ℤ → ℤ → Rgb565
color_behind t memory x y = color_at (device t) memory (column_at t x y) (page_at t x y)

-- what the panel shows of a memory, line by line
abbrev pub shown : Turned → List Rgb565 → List Rgb565
shown t memory =
    map (λ i. color_behind t memory (pos (i % t.width)) (pos (i / t.width)))
    (range_with_len 0 (t.width * t.height))

-- one line of it
abbrev pub line_shown : Turned → List Rgb565 → ℕ → List Rgb565
line_shown t memory y = map (λ x. color_behind t memory (pos x) (pos y)) (range_with_len 0 t.width)

-- the lines from one on
abbrev pub lines_from : Turned → List Rgb565 → ℕ → List Rgb565
lines_from t memory y =
    map (λ i. color_behind t memory (pos (i % t.width)) (pos (i / t.width)))
    (range_with_len (y * t.width) ((t.height - y) * t.width))

-- the colours of a page of the device from a column on, by those of the pixels
abbrev pub row_colors : Turned → (ℤ → ℤ → Rgb565) → ℕ → ℕ → ℕ → List Rgb565
row_colors t color first count page =
    map (λ column. color_on t color (pos column) (pos page)) (range_with_len first count)

-- the number of quarters that a word says
abbrev pub turn_said : List ℕ → Option ℕ
turn_said word =
    if bytes_eq word (codes "0") then Some 0
    else if bytes_eq word (codes "1") then Some 1
    else if bytes_eq word (codes "2") then Some 2
    else if bytes_eq word (codes "3") then Some 3
    else None

abbrev pub turned : Sizes → Turned
turned sizes = record { turn = sizes.turn; width = sizes.width; height = sizes.height }
