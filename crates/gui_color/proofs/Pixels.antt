-- What writing a part of a row leaves of each pixel of a draw buffer.
use Rattle.std.proofs.Common.{◌≡◌, ℕ, ◌+◌, ◌<◌, ◌≤◌, List, length, replicate, slice_index_or, Bool, true, false, if◌then◌else◌, ℤ, ◌≤ℤ◌, refl, sym, ap, subst, ◌∙◌, arith, inl, inr}
use Rattle.std.proofs.lemmas.List.{places}
use Rattle.std.proofs.lemmas.Int.{ints}
use Rattle.gui_base.specs.declared.color.Rgb565.{Rgb565}
use Rattle.gui_base.specs.Area.{has, count_between}
use Rattle.gui_base.specs.Color.{black}
use Rattle.gui_base.proofs.Areas.{between_has}
use Rattle.gui_color.specs.Buffer.{Buffer, IsWhole, HoldsRow, distance, place, color_at, pixel_at, row_of, with_row, row_area}
use Rattle.gui_color.proofs.Places.{place_fits, place_along, place_end, count_is, outside_row}
use Rattle.gui_color.proofs.Runs.{run_inside, run_before, run_after, part_at}

-- row y of the buffer has the columns from x1 to x2
pub record HasRow (buf : Buffer) (y x1 x2 : ℤ) : Type 0 where
  pub whole : IsWhole buf
  pub order : x1 ≤ℤ x2
  pub first : has buf.area x1 y ≡ true
  pub last : has buf.area x2 y ≡ true

-- the run of a row is in the list
run_end : (buf : Buffer) (y x1 x2 : ℤ) → HasRow buf y x1 x2 → place buf.area x1 y + count_between x1 x2 ≡ place buf.area x2 y + 1
run_end buf y x1 x2 h = rw (count_is x1 x2 h.order) (place_end buf.area x1 x2 y h.order h.first)

pub run_fits : (buf : Buffer) (y x1 x2 : ℤ) → HasRow buf y x1 x2 → place buf.area x1 y + count_between x1 x2 ≤ length buf.pixels
run_fits buf y x1 x2 h = omega (arith, run_end buf y x1 x2 h, place_fits buf.area x2 y h.last, h.whole)

pub place_in : (buf : Buffer) (y x1 x2 x : ℤ) → HasRow buf y x1 x2 → x1 ≤ℤ x → place buf.area x y ≡ place buf.area x1 y + distance x1 x
place_in buf y x1 x2 x h p = place_along buf.area x1 x y (between_has buf.area x1 y h.first).left p

distance_in : (x1 x2 x : ℤ) → x1 ≤ℤ x → x ≤ℤ x2 → distance x1 x < count_between x1 x2
distance_in x1 x2 x p q =
    let whole : x1 ≤ℤ x2 = omega (arith, ints) in
    rw (count_is x1 x2 whole) (omega (arith, ints))

-- the colours of a row are those of its pixels
pub slice_index_or-row_of : (buf : Buffer) (y x1 x2 x : ℤ) → HasRow buf y x1 x2 → x1 ≤ℤ x → x ≤ℤ x2 → slice_index_or (row_of buf y x1 x2) (distance x1 x) black ≡ pixel_at buf x y
unfolding row_of pixel_at color_at
slice_index_or-row_of buf y x1 x2 x h p q =
    part_at buf.pixels (place buf.area x1 y) (place buf.area x2 y + 1) (distance x1 x) black (omega (arith, run_end buf y x1 x2 h, distance_in x1 x2 x p q))
    ∙ ap (λ k. slice_index_or buf.pixels k black) (sym (place_in buf y x1 x2 x h p))

-- a pixel that was written over
pub pixel_at-with_row_in : (buf : Buffer) (y x1 x2 x : ℤ) (ws : List Rgb565) → HasRow buf y x1 x2 → length ws ≡ count_between x1 x2 → x1 ≤ℤ x → x ≤ℤ x2
    → pixel_at (with_row buf y x1 ws) x y ≡ slice_index_or ws (distance x1 x) black
unfolding pixel_at color_at
pixel_at-with_row_in buf y x1 x2 x ws h n p q =
    rw (place_in buf y x1 x2 x h p) (run_inside buf.pixels (place buf.area x1 y) ws (distance x1 x) black (omega (arith, n, distance_in x1 x2 x p q)) (omega (arith, run_fits buf y x1 x2 h, n)))

-- each other pixel stays as it was
pub pixel_at-with_row_out : (buf : Buffer) (y x1 x2 x v : ℤ) (ws : List Rgb565) → HasRow buf y x1 x2 → length ws ≡ count_between x1 x2
    → has buf.area x v ≡ true → has (row_area y x1 x2) x v ≡ false → pixel_at (with_row buf y x1 ws) x v ≡ pixel_at buf x v
unfolding pixel_at color_at
pixel_at-with_row_out buf y x1 x2 x v ws h n i o =
    let fits = run_fits buf y x1 x2 h in
    let end = run_end buf y x1 x2 h in
    elim (outside_row buf.area y x1 x2 x v h.last i o) [
      | inl before ↦ run_before buf.pixels (place buf.area x1 y) ws (place buf.area x v) black before (omega (arith, fits, n))
      | inr after ↦ run_after buf.pixels (place buf.area x1 y) ws (place buf.area x v) black (omega (arith, end, n, after)) (omega (arith, fits, n))
    ]

-- what is so of each column of a row is so of its pixels
in_row : (y x1 x2 x v : ℤ) (P : ℤ → Type 0) → (x1 ≤ℤ x → x ≤ℤ x2 → P y) → has (row_area y x1 x2) x v ≡ true → P v
in_row y x1 x2 x v P each e =
    let b = between_has (row_area y x1 x2) x v e in
    subst P (omega (arith, ints, b.top, b.bottom)) (each b.left b.right)

row_cases : (buf : Buffer) (y x1 x2 x v : ℤ) (ws : List Rgb565) → HasRow buf y x1 x2 → length ws ≡ count_between x1 x2 → has buf.area x v ≡ true → (inside : Bool) → has (row_area y x1 x2) x v ≡ inside
    → pixel_at (with_row buf y x1 ws) x v ≡ (if inside then slice_index_or ws (distance x1 x) black else pixel_at buf x v)
row_cases buf y x1 x2 x v ws h n i true e =
    in_row y x1 x2 x v (λ z. pixel_at (with_row buf y x1 ws) x z ≡ slice_index_or ws (distance x1 x) black) (pixel_at-with_row_in buf y x1 x2 x ws h n) e
row_cases buf y x1 x2 x v ws h n i false e = pixel_at-with_row_out buf y x1 x2 x v ws h n i e

pub holds_row : (buf : Buffer) (y x1 x2 : ℤ) → HasRow buf y x1 x2 → HoldsRow buf y x1 x2
holds_row buf y x1 x2 h = record {
  colors = λ x v. in_row y x1 x2 x v (λ z. slice_index_or (row_of buf y x1 x2) (distance x1 x) black ≡ pixel_at buf x z) (slice_index_or-row_of buf y x1 x2 x h);
  written = λ ws n x v i. row_cases buf y x1 x2 x v ws h n i (has (row_area y x1 x2) x v) refl;
}

-- a black buffer
pub pixel_at-black : (buf : Buffer) (n : ℕ) (x y : ℤ) → buf.pixels ≡ replicate n black → pixel_at buf x y ≡ black
unfolding pixel_at color_at
pixel_at-black buf n x y h = rw h (grind (arith, places))
