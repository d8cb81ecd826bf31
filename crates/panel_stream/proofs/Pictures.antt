-- Pixels of a picture.
use Rattle.std.proofs.Common.{◌≡◌, ◌∙◌, sym, ap, refl, subst, ℕ, ◌+◌, ◌*◌, ◌/◌, ◌%◌, ◌<◌, ℤ, pos, ◌+ℤ◌, ◌-ℤ◌, ◌≤ℤ◌, true, if◌then◌else◌, List, length, get_or, arith}
use Rattle.std.proofs.lemmas.Grind.{rows}
use Rattle.std.proofs.lemmas.Int.{ints}
use Rattle.std.proofs.lemmas.List.FromFn.{length-map-range_with_len, get_or-map-range_with_len, fill_by_all}
use Rattle.gui_base.specs.declared.color.Rgb565.{Rgb565}
use Rattle.gui_base.specs.Area.{Rect, has, width_of}
use Rattle.gui_base.specs.Color.{black}
use Rattle.gui_base.proofs.Areas.{between_has}
use Rattle.gui_color.specs.Buffer.{distance, place, color_at}
use Rattle.gui_edge.specs.Panel.{Shows}
use Rattle.panel_stream.specs.Viewer.{picture_of, panel_of, painted}

panel_width : (width height : ℕ) → width_of (panel_of width height) ≡ width
panel_width width height =
    let e : (((pos 0 +ℤ pos width) -ℤ pos 1) -ℤ pos 0) +ℤ pos 1 ≡ pos width = omega (arith, ints) in
    rw e refl

place_is : (width height column line : ℕ) → place (panel_of width height) (pos column) (pos line) ≡ line * width + column
unfolding place
place_is width height column line =
    let down : distance (pos 0) (pos line) ≡ line = omega (arith, ints) in
    let along : distance (pos 0) (pos column) ≡ column = omega (arith, ints) in
    rw (down, along, panel_width width height) refl

cell_is : (width height : ℕ) (pixels : List Rgb565) (column line : ℕ) → color_at (panel_of width height) pixels (pos column) (pos line) ≡ get_or pixels (line * width + column) black
unfolding color_at
cell_is width height pixels column line = ap (λ (k : ℕ). get_or pixels k black) (place_is width height column line)

record IsPixel (width height : ℕ) (x y : ℤ) : Type 0 where
  column : ℕ
  line : ℕ
  x_is : x ≡ pos column
  y_is : y ≡ pos line
  few_columns : column < width
  few_lines : line < height

is_pixel : (width height : ℕ) (x y : ℤ) → has (panel_of width height) x y ≡ true → IsPixel width height x y
is_pixel width height x y h =
    let b = between_has (panel_of width height) x y h in
    let l : pos 0 ≤ℤ x = b.left in
    let u : pos 0 ≤ℤ y = b.top in
    let r : x ≤ℤ ((pos 0 +ℤ pos width) -ℤ pos 1) = b.right in
    let d : y ≤ℤ ((pos 0 +ℤ pos height) -ℤ pos 1) = b.bottom in
    let xs : x ≡ pos (distance (pos 0) x) = omega (arith, ints) in
    let ys : y ≡ pos (distance (pos 0) y) = omega (arith, ints) in
    record {
      column = distance (pos 0) x;
      line = distance (pos 0) y;
      x_is = xs;
      y_is = ys;
      few_columns = omega (arith, ints);
      few_lines = omega (arith, ints);
    }

within : (width height column line : ℕ) → column < width → line < height → line * width + column < width * height
within width height column line few_columns few_lines = grind (arith, rows)

color_is : (width height : ℕ) (color : ℤ → ℤ → Rgb565) (column line : ℕ) → column < width → line < height →
    color_at (panel_of width height) (picture_of width height color) (pos column) (pos line) ≡ color (pos column) (pos line)
color_is width height color column line few_columns few_lines =
    let in_row : (line * width + column) % width ≡ column = grind (arith, rows) in
    let in_column : (line * width + column) / width ≡ line = grind (arith, rows) in
    cell_is width height (picture_of width height color) column line
    ∙ get_or-map-range_with_len (λ (i : ℕ). color (pos (i % width)) (pos (i / width))) 0 (width * height) (line * width + column) (line * width + column) black (within width height column line few_columns few_lines) (omega arith)
    ∙ rw (in_row, in_column) refl

-- a picture has the colours that it was made of
pub picture_at : (width height : ℕ) (color : ℤ → ℤ → Rgb565) (x y : ℤ) → has (panel_of width height) x y ≡ true → color_at (panel_of width height) (picture_of width height color) x y ≡ color x y
picture_at width height color x y h =
    let p = is_pixel width height x y h in
    subst (λ (z : ℤ). color_at (panel_of width height) (picture_of width height color) z y ≡ color z y) (sym p.x_is)
    (subst (λ (z : ℤ). color_at (panel_of width height) (picture_of width height color) (pos p.column) z ≡ color (pos p.column) z) (sym p.y_is)
    (color_is width height color p.column p.line p.few_columns p.few_lines))

pub length-picture_of : (width height : ℕ) (color : ℤ → ℤ → Rgb565) → length (picture_of width height color) ≡ width * height
length-picture_of width height color = length-map-range_with_len _ 0 (width * height)

in_picture : (width height i : ℕ) → i < width * height → (i / width) * width + i % width ≡ i
in_picture width height i lt = grind (arith, rows)

-- pixels are the picture of their colours
pub picture_is : (width height : ℕ) (pixels : List Rgb565) → length pixels ≡ width * height → picture_of width height (λ x y. color_at (panel_of width height) pixels x y) ≡ pixels
picture_is width height pixels len =
    sym (fill_by_all (λ (i : ℕ). color_at (panel_of width height) pixels (pos (i % width)) (pos (i / width))) pixels (width * height) black len
    (λ k lt. sym (cell_is width height pixels (k % width) (k / width) ∙ ap (λ (n : ℕ). get_or pixels n black) (in_picture width height k lt))))

-- an area that was written over shows its colours
pub painted_shows : (width height : ℕ) (area : Rect) (pixels colors : List Rgb565) → length pixels ≡ width * height →
    Shows (panel_of width height) area (color_at area colors) pixels (painted width height pixels area colors)
painted_shows width height area pixels colors len = record {
  len = length-picture_of width height (λ x' y'. if has area x' y' then color_at area colors x' y' else color_at (panel_of width height) pixels x' y') ∙ sym len;
  each = λ x y i. picture_at width height (λ x' y'. if has area x' y' then color_at area colors x' y' else color_at (panel_of width height) pixels x' y') x y i;
}
