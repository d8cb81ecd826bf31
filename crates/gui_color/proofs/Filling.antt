-- Colours mixed over a part of a draw buffer.
use Rattle.std.proofs.Common.{◌≡◌, ◌∙◌, refl, sym, ap, subst, ℕ, ◌+◌, ◌-◌, ◌*◌, ◌^◌, ◌<◌, ◌≤◌, Bool, true, false, ◌&&◌, ◌||◌, if◌then◌else◌, List, length, map, slice_range, arith, ℤ, pos, negsuc, ◌≤ℤ◌, ◌+ℤ◌, ◌-ℤ◌}
use Rattle.std.proofs.lemmas.Int.{ints, by_lt_z}
use Rattle.std.proofs.lemmas.Nat.{mul-le}
use Rattle.std.proofs.lemmas.Bool.Decides.{nat_tests}
use Rattle.std.proofs.lemmas.List.{length-map, get_or-map}
use Rattle.std.specs.Int.Signed.{le_z}
use Rattle.gui_base.specs.declared.color.Rgb565.{Rgb565}
use Rattle.gui_base.specs.Area.{Rect, has, is_empty, width_of, height_of, size_of, count_between}
use Rattle.gui_base.specs.Color.{black, mix, parts}
use Rattle.gui_base.proofs.Areas.{between_has}
use Rattle.gui_color.specs.Buffer.{Buffer, IsWhole, IsMixed, distance, place, color_at, pixel_at, row_of, with_run, with_row, row_area}
use Rattle.gui_color.proofs.Places.{place_end, place_fits, count_is, distance_below, distance_sum, place_down}
use Rattle.gui_color.proofs.Pixels.{HasRow, holds_row}
use Rattle.gui_color.proofs.Runs.{length-part, run_inside, run_before, run_after, part_at}
use Rattle.gui_color.proofs.Mixes.{mix_none}

-- the first lines of an area
abbrev pub first_lines : Rect → ℕ → Rect
first_lines area n = record { x1 = area.x1; y1 = area.y1; x2 = area.x2; y2 = (area.y1 +ℤ pos n) -ℤ pos 1 }

-- one line of it
abbrev pub nth_line : Rect → ℕ → Rect
nth_line area n = row_area (area.y1 +ℤ pos n) area.x1 area.x2

pub lines_none : (area : Rect) (x y : ℤ) → has (first_lines area 0) x y ≡ false
lines_none area x y = grind (arith, ints, nat_tests)

line_more : (top y : ℤ) (n : ℕ) → (le_z top y && le_z y ((top +ℤ pos (n + 1)) -ℤ pos 1)) ≡ ((le_z top y && le_z y ((top +ℤ pos n) -ℤ pos 1)) || (le_z (top +ℤ pos n) y && le_z y (top +ℤ pos n)))
line_more top y n = grind (arith, ints, nat_tests)

either_line : (a b c d : Bool) → d ≡ (b || c) → (a && d) ≡ ((a && b) || (a && c))
either_line true b c d h = h
either_line false b c d h = refl

pub lines_more : (area : Rect) (n : ℕ) (x y : ℤ) → has (first_lines area (n + 1)) x y ≡ (has (first_lines area n) x y || has (nth_line area n) x y)
lines_more area n x y = either_line (le_z area.x1 x && le_z x area.x2) _ _ _ (line_more area.y1 y n)

pub lines_apart : (area : Rect) (n : ℕ) (x y : ℤ) → (has (first_lines area n) x y && has (nth_line area n) x y) ≡ false
lines_apart area n x y = grind (arith, ints, nat_tests)

pub lines_all : (area : Rect) (x y : ℤ) → has (first_lines area (height_of area)) x y ≡ has area x y
lines_all area x y = grind (arith, ints, nat_tests)

-- a part of an area that has a pixel
pub record HasPart (area part : Rect) : Type 0 where
  pub some : is_empty part ≡ false
  pub first : has area part.x1 part.y1 ≡ true
  pub last : has area part.x2 part.y2 ≡ true

in_columns : (area : Rect) (left right top bottom y : ℤ) → has area left top ≡ true → has area right bottom ≡ true → top ≤ℤ y → y ≤ℤ bottom → (has area left y ≡ true) × (has area right y ≡ true)
in_columns area left right top bottom y first last above below = (grind (arith, ints), grind (arith, ints))

sum_times : (a n w b : ℕ) → (a + n) * w + b ≡ (a * w + b) + n * w
sum_times a n w b = grind arith

-- one of its lines
module _ (area part : Rect) (n : ℕ) (inside : HasPart area part) (below : n < height_of part) where
  abbrev y : ℤ
  y = part.y1 +ℤ pos n

  order : part.x1 ≤ℤ part.x2
  order = let some = inside.some in grind (arith, ints)

  columns : (has area part.x1 y ≡ true) × (has area part.x2 y ≡ true)
  columns = let some = inside.some in in_columns area part.x1 part.x2 part.y1 part.y2 y inside.first inside.last (omega (arith, ints)) (grind (arith, ints))

  line_place : place area part.x1 y ≡ place area part.x1 part.y1 + n * width_of area
  unfolding place
  line_place =
      let top : area.y1 ≤ℤ part.y1 = (between_has area part.x1 part.y1 inside.first).top in
      let e : distance area.y1 y ≡ distance area.y1 part.y1 + n = omega (arith, ints) in
      rw e (sum_times (distance area.y1 part.y1) n (width_of area) (distance area.x1 part.x1))

  line_end : place area part.x1 y + width_of part ≡ place area part.x2 y + 1
  line_end = rw (count_is part.x1 part.x2 order) (place_end area part.x1 part.x2 y order columns.0)

  pub line_within : (from whole len : ℕ) → from ≡ place area part.x1 part.y1 → whole ≡ width_of area → len ≡ width_of part → (from + n * whole) + len ≤ size_of area
  line_within from whole len f w l =
      let last = place_fits area part.x2 y columns.1 in
      rw (f, w, l) (omega (arith, line_place, line_end, last))

-- so many pixels have numbers of 64 bits
size_fits : (w h : ℕ) → w < 2 ^ 32 → h ≤ 2 ^ 32 → w * h < 2 ^ 64
size_fits w h p q = omega (arith, mul-le w h (2 ^ 32 - 1) (2 ^ 32) (omega arith) q)

pub height_fits : (area : Rect) → negsuc 1073741823 ≤ℤ area.y1 → area.y2 ≤ℤ pos 1073741823 → height_of area ≤ 2 ^ 32
height_fits area top bottom = grind (arith, ints)

pub place_small : (area part : Rect) (n from whole len : ℕ) → HasPart area part → n < height_of part → from ≡ place area part.x1 part.y1 → whole ≡ width_of area → len ≡ width_of part → whole < 2 ^ 32 → height_of area ≤ 2 ^ 32 →
    from + n * whole < 2 ^ 64
place_small area part n from whole len inside below f w l narrow low =
    let within = line_within area part n inside below from whole len f w l in
    let thin : width_of area < 2 ^ 32 = rw (← w) narrow in
    let most = size_fits (width_of area) (height_of area) thin low in
    omega (arith, within, most)

-- nothing is mixed yet, and one line more
pub mixed_start : (buf : Buffer) (part : Rect) (fg : Rgb565) (opa : ℕ) → IsMixed buf buf (has (first_lines part 0)) fg opa
mixed_start buf part fg opa x y i = sym (ap (λ (t : Bool). if t then mix fg (pixel_at buf x y) opa else pixel_at buf x y) (lines_none part x y))

pub mixed_all : (old new : Buffer) (part : Rect) (n : ℕ) (fg : Rgb565) (opa : ℕ) → n ≡ height_of part → IsMixed old new (has (first_lines part n)) fg opa → IsMixed old new (has part) fg opa
mixed_all old new part n fg opa all h x y i =
    h x y i ∙ rw all (ap (λ (t : Bool). if t then mix fg (pixel_at old x y) opa else pixel_at old x y) (lines_all part x y))

both : (a b : Bool) (f : Rgb565 → Rgb565) (under was : Rgb565) → (a && b) ≡ false → was ≡ (if a then f under else under) → (if b then f was else was) ≡ (if (a || b) then f under else under)
both true true f under was apart h = cc
both true false f under was apart h = h
both false true f under was apart h = ap f h
both false false f under was apart h = h

mixed_both : (old mid new : Buffer) (a b : ℤ → ℤ → Bool) (fg : Rgb565) (opa : ℕ) → mid.area ≡ old.area → ((x y : ℤ) → (a x y && b x y) ≡ false) →
    IsMixed old mid a fg opa → IsMixed mid new b fg opa → IsMixed old new (λ x y. a x y || b x y) fg opa
mixed_both old mid new a b fg opa same apart h k x y i =
    k x y (subst (λ (area : Rect). has area x y ≡ true) (sym same) i)
    ∙ both (a x y) (b x y) (λ bg. mix fg bg opa) (pixel_at old x y) (pixel_at mid x y) (apart x y) (h x y i)

where_true : (t : Bool) (written over under : Rgb565) → (t ≡ true → written ≡ over) → (if t then written else under) ≡ (if t then over else under)
where_true true written over under h = h refl
where_true false written over under h = refl

-- the pixels of a row, mixed
mixed_row : (buf : Buffer) (y x1 x2 : ℤ) (fg : Rgb565) (opa : ℕ) → HasRow buf y x1 x2 → IsMixed buf (with_row buf y x1 (map (λ bg. mix fg bg opa) (row_of buf y x1 x2))) (has (row_area y x1 x2)) fg opa
unfolding row_of
mixed_row buf y x1 x2 fg opa h x v i =
    let row = row_of buf y x1 x2 in
    let holds = holds_row buf y x1 x2 h in
    let end : place buf.area x1 y + count_between x1 x2 ≡ place buf.area x2 y + 1 = rw (count_is x1 x2 h.order) (place_end buf.area x1 x2 y h.order h.first) in
    let inside = place_fits buf.area x2 y h.last in
    let whole : length buf.pixels ≡ size_of buf.area = h.whole in
    let long : length row ≡ count_between x1 x2 = length-part buf.pixels (place buf.area x1 y) (place buf.area x2 y + 1) (omega (arith, end)) (omega (arith, inside, whole)) ∙ omega (arith, end) in
    holds.written (map (λ bg. mix fg bg opa) row) (length-map row (λ bg. mix fg bg opa) ∙ long) x v i
    ∙ where_true (has (row_area y x1 x2) x v) _ _ (pixel_at buf x v) (λ t.
    let sides = between_has (row_area y x1 x2) x v t in
    let near : distance x1 x < length row = rw long (distance_below x1 x x2 sides.left sides.right) in
    get_or-map (λ bg. mix fg bg opa) row (distance x1 x) black black near ∙ ap (λ bg. mix fg bg opa) (holds.colors x v t))

-- the buffer with a colour mixed over so many pixels from a place on
abbrev pub with_mixed : Buffer → ℕ → ℕ → Rgb565 → ℕ → Buffer
with_mixed buf from len fg opa = record buf { pixels = with_run buf.pixels from (map (λ bg. mix fg bg opa) (slice_range buf.pixels from (from + len))) }

-- one line more
module _ (old mid : Buffer) (part : Rect) (n from whole len : ℕ) (fg : Rgb565) (opa : ℕ) (same : mid.area ≡ old.area) (full : IsWhole mid) (inside : HasPart old.area part) (below : n < height_of part)
    (f : from ≡ place old.area part.x1 part.y1) (w : whole ≡ width_of old.area) (l : len ≡ width_of part) where
  line_mixed : IsMixed mid (with_mixed mid (from + n * whole) len fg opa) (has (nth_line part n)) fg opa
  unfolding row_of
  line_mixed =
      let y = part.y1 +ℤ pos n in
      let h : HasPart mid.area part = subst (λ (area : Rect). HasPart area part) (sym same) inside in
      let start : from ≡ place mid.area part.x1 part.y1 = subst (λ (area : Rect). from ≡ place area part.x1 part.y1) (sym same) f in
      let wide : whole ≡ width_of mid.area = subst (λ (area : Rect). whole ≡ width_of area) (sym same) w in
      let sides = columns mid.area part n h below in
      let row : HasRow mid y part.x1 part.x2 = record { whole = full; order = order mid.area part n h below; first = sides.0; last = sides.1 } in
      rw (start, wide, l, ← line_place mid.area part n h below, line_end mid.area part n h below) (mixed_row mid y part.x1 part.x2 fg opa row)

  more : IsMixed old mid (has (first_lines part n)) fg opa → IsMixed old (with_mixed mid (from + n * whole) len fg opa) (has (first_lines part (n + 1))) fg opa
  more before x y i =
      mixed_both old mid _ (has (first_lines part n)) (has (nth_line part n)) fg opa same (lines_apart part n) before line_mixed x y i
      ∙ ap (λ (t : Bool). if t then mix fg (pixel_at old x y) opa else pixel_at old x y) (sym (lines_more part n x y))

  pub mixed_more : (row written : List Rgb565) → row ≡ slice_range mid.pixels (from + n * whole) ((from + n * whole) + len) → written ≡ map (λ bg. mix fg bg opa) row → IsMixed old mid (has (first_lines part n)) fg opa →
      IsMixed old (record mid { pixels = with_run mid.pixels (from + n * whole) written }) (has (first_lines part (n + 1))) fg opa
  mixed_more row written r w before = rw (w, r) (more before)

either : (t : Bool) (a b : Rgb565) → a ≡ b → (if t then a else b) ≡ b
either true a b h = h
either false a b h = refl

-- where nothing of the colour is mixed
pub mixed_none : (buf : Buffer) (test : ℤ → ℤ → Bool) (fg : Rgb565) (opa : ℕ) → parts opa ≡ 0 → IsMixed buf buf test fg opa
mixed_none buf test fg opa none x y i = sym (either (test x y) (mix fg (pixel_at buf x y) opa) (pixel_at buf x y) (mix_none fg (pixel_at buf x y) opa none))

run_sum : (a j w c d e p : ℕ) → e ≡ a + j → d ≡ 0 → p ≡ a * w + d → e * w + c ≡ p + (j * w + c)
run_sum a j w c d e p down none f = rw (down, f, none) (grind arith)

one_line : (n w : ℕ) → w * (n + 1) ≡ n * w + w
one_line n w = grind arith

lines_sum : (w h n len : ℕ) → h ≡ n + 1 → len ≡ w * h → len ≡ n * w + w
lines_sum w h n len e l = l ∙ rw e (one_line n w)

line_fits : (a b w h : ℕ) → a < h → b < w → a * w + b < w * h
line_fits a b w h p q = omega (arith, mul-le (a + 1) w h w (omega arith) (omega arith))

lines_past : (a b w h : ℕ) → h ≤ a → w * h ≤ a * w + b
lines_past a b w h p = omega (arith, mul-le h w a w p (omega arith))

tall : (area part : Rect) → HasPart area part → 0 < height_of part
tall area part inside = let some = inside.some in grind (arith, ints)

-- all lines of a part as wide as the area are within it
pub whole_within : (area part : Rect) (from len : ℕ) → HasPart area part → width_of part ≡ width_of area → from ≡ place area part.x1 part.y1 → len ≡ width_of part * height_of part → from + len ≤ size_of area
whole_within area part from len inside wide f l =
    let n : ℕ = height_of part - 1 in
    let some : 0 < height_of part = tall area part inside in
    let e : height_of part ≡ n + 1 = omega arith in
    let last = line_within area part n inside (omega arith) from (width_of area) (width_of area) f refl (sym wide) in
    let size : len ≡ n * width_of area + width_of area = lines_sum (width_of area) (height_of part) n len e (l ∙ ap (λ (k : ℕ). k * height_of part) wide) in
    omega (arith, last, size)

-- all lines of a part as wide as the area, which are one run
module _ (buf : Buffer) (part : Rect) (from len : ℕ) (fg : Rgb565) (opa : ℕ) (full : IsWhole buf) (inside : HasPart buf.area part) (wide : width_of part ≡ width_of buf.area)
    (f : from ≡ place buf.area part.x1 part.y1) (l : len ≡ width_of part * height_of part) where
  same_left : part.x1 ≡ buf.area.x1
  same_left =
      let some = inside.some in
      let first = between_has buf.area part.x1 part.y1 inside.first in
      let last = between_has buf.area part.x2 part.y2 inside.last in
      let left : buf.area.x1 ≤ℤ part.x1 = first.left in
      let right : part.x2 ≤ℤ buf.area.x2 = last.right in
      grind (arith, ints)

  same_right : part.x2 ≡ buf.area.x2
  same_right =
      let some = inside.some in
      let first = between_has buf.area part.x1 part.y1 inside.first in
      let last = between_has buf.area part.x2 part.y2 inside.last in
      let left : buf.area.x1 ≤ℤ part.x1 = first.left in
      let right : part.x2 ≤ℤ buf.area.x2 = last.right in
      grind (arith, ints)

  -- how many pixels of the run come before one of its pixels
  abbrev before : ℤ → ℤ → ℕ
  before x v = distance part.y1 v * width_of buf.area + distance buf.area.x1 x

  run_place : (x v : ℤ) → has buf.area x v ≡ true → part.y1 ≤ℤ v → place buf.area x v ≡ from + before x v
  unfolding place
  run_place x v i below =
      let top : buf.area.y1 ≤ℤ part.y1 = (between_has buf.area part.x1 part.y1 inside.first).top in
      let down = distance_sum buf.area.y1 part.y1 v top below in
      let none : distance buf.area.x1 part.x1 ≡ 0 = rw same_left (omega (arith, ints)) in
      run_sum (distance buf.area.y1 part.y1) (distance part.y1 v) (width_of buf.area) (distance buf.area.x1 x) (distance buf.area.x1 part.x1) (distance buf.area.y1 v) from down none f

  run_fits : from + len ≤ length buf.pixels
  run_fits = omega (arith, whole_within buf.area part from len inside wide f l, full)

  abbrev run : List Rgb565
  run = slice_range buf.pixels from (from + len)

  run_long : length run ≡ len
  run_long = length-part buf.pixels from (from + len) (omega arith) run_fits ∙ omega arith

  abbrev ws : List Rgb565
  ws = map (λ bg. mix fg bg opa) run

  ws_long : length ws ≡ len
  ws_long = length-map run (λ bg. mix fg bg opa) ∙ run_long

  run_in : (x v : ℤ) → has buf.area x v ≡ true → has part x v ≡ true → pixel_at (with_mixed buf from len fg opa) x v ≡ mix fg (pixel_at buf x v) opa
  unfolding pixel_at color_at
  run_in x v i t =
      let sides = between_has part x v t in
      let columns = between_has buf.area x v i in
      let near : before x v < len = rw l (rw wide (line_fits (distance part.y1 v) (distance buf.area.x1 x) (width_of buf.area) (height_of part) (distance_below part.y1 v part.y2 sides.top sides.bottom) (distance_below buf.area.x1 x buf.area.x2 columns.left columns.right))) in
      rw (run_place x v i sides.top)
      (run_inside buf.pixels from ws (before x v) black (omega (arith, near, ws_long)) (omega (arith, ws_long, run_fits))
      ∙ (get_or-map (λ bg. mix fg bg opa) run (before x v) black black (omega (arith, near, run_long))
      ∙ ap (λ bg. mix fg bg opa) (part_at buf.pixels from (from + len) (before x v) black (omega (arith, near)))))

  run_out : (x v : ℤ) → has buf.area x v ≡ true → has part x v ≡ false → pixel_at (with_mixed buf from len fg opa) x v ≡ pixel_at buf x v
  unfolding pixel_at color_at
  run_out x v i t =
      by_lt_z v part.y1
      (λ above. run_before buf.pixels from ws (place buf.area x v) black (rw f (place_down buf.area x v part.x1 part.y1 i above)) (omega (arith, ws_long, run_fits)))
      (λ below.
      let columns = between_has buf.area x v i in
      let left : part.x1 ≤ℤ x = rw same_left columns.left in
      let right : x ≤ℤ part.x2 = rw same_right columns.right in
      let far : height_of part ≤ distance part.y1 v = grind (arith, ints) in
      let past : len ≤ before x v = rw l (rw wide (lines_past (distance part.y1 v) (distance buf.area.x1 x) (width_of buf.area) (height_of part) far)) in
      run_after buf.pixels from ws (place buf.area x v) black (omega (arith, run_place x v i below, past, ws_long)) (omega (arith, ws_long, run_fits)))

  cases : (x v : ℤ) → has buf.area x v ≡ true → (t : Bool) → has part x v ≡ t → pixel_at (with_mixed buf from len fg opa) x v ≡ (if t then mix fg (pixel_at buf x v) opa else pixel_at buf x v)
  cases x v i true e = run_in x v i e
  cases x v i false e = run_out x v i e

  pub whole_mixed : (row written : List Rgb565) → row ≡ slice_range buf.pixels from (from + len) → written ≡ map (λ bg. mix fg bg opa) row → IsMixed buf (record buf { pixels = with_run buf.pixels from written }) (has part) fg opa
  whole_mixed row written r w = rw (w, r) (λ x v i. cases x v i (has part x v) refl)
