-- A viewer reads the area of an update, and the number of each of its pixels.
use Rattle.std.proofs.Common.{◌≡◌, ◌∙◌, sym, ap, refl, ℕ, zero, suc, ◌+◌, ◌*◌, ◌/◌, ◌%◌, ◌<◌, ℤ, pos, negsuc, ◌+ℤ◌, ◌-ℤ◌, ◌≤ℤ◌, true, List, ◌++◌, length, take, drop, arith}
use Rattle.std.specs.List.{flat_map, range_with_len}
use Rattle.std.proofs.lemmas.Grind.{rows}
use Rattle.std.proofs.lemmas.Int.{ints}
use Rattle.std.proofs.lemmas.List.{take_at, drop_at, drop-drop}
use Rattle.std.proofs.Math.Nat.{div-add-mod, mul_comm}
use Rattle.gui_base.specs.declared.color.Rgb565.{Rgb565}
use Rattle.gui_base.specs.Area.{Rect, nat_of, width_of, height_of, size_of}
use Rattle.gui_base.proofs.Areas.{between_has}
use Rattle.gui_color.specs.Buffer.{distance, place}
use Rattle.gui_color.proofs.Places.{place_fits, distance_below}
use Rattle.session_defs.specs.Formats.{bytes_each, number_bytes, number_of}
use Rattle.session_defs.specs.declared.Format.{Format}
use Rattle.session_defs.specs.Updates.{has_pixel, number_at, nth_pixel, update}
use Rattle.session_defs.specs.Viewer.{area_read, number_read, pixel_read}
use Rattle.session_defs.specs.Viewing.{IsOn}
use Rattle.session_defs.proofs.Numbers.{IsSized, length-number_bytes, number_is, number_fits}

pub nat_is : (z : ℤ) → pos 0 ≤ℤ z → pos (nat_of z) ≡ z
nat_is (pos n) h = refl
nat_is (negsuc n) h = absurd (omega (arith, ints))

abbrev pub corners : ℤ → ℤ → ℤ → ℤ → Rect
corners l t r m = record { x1 = l; y1 = t; x2 = r; y2 = m }

pub corners_are : (l t r m l' t' r' m' : ℤ) → l ≡ l' → t ≡ t' → r ≡ r' → m ≡ m' → corners l t r m ≡ corners l' t' r' m'
corners_are l t r m l' t' r' m' a b c d = rw (a, b, c, d) refl

whole : (n : ℕ) → n / 256 * 256 + n % 256 ≡ n
whole n = omega arith

end_by : (l n low many high : ℤ) → l ≡ low → n ≡ many → (low +ℤ many) -ℤ pos 1 ≡ high → (l +ℤ n) -ℤ pos 1 ≡ high
end_by l n low many high a b h = rw (a, b) h

pub end_is : (low high : ℤ) → pos 0 ≤ℤ low → low ≤ℤ high → (pos (nat_of low) +ℤ pos (nat_of ((high -ℤ low) +ℤ pos 1))) -ℤ pos 1 ≡ high
end_is low high h k =
    end_by (pos (nat_of low)) (pos (nat_of ((high -ℤ low) +ℤ pos 1))) low ((high -ℤ low) +ℤ pos 1) high
    (nat_is low h) (nat_is ((high -ℤ low) +ℤ pos 1) (omega (arith, ints))) (omega (arith, ints))

-- the area is read as it was written
pub area_is : (width : ℕ) (f : Format) (colors : List Rgb565) (area : Rect) → IsOn area → area_read (update width f colors area) ≡ area
area_is width f colors area on =
    rw (whole (nat_of area.x1), whole (nat_of area.y1), whole (width_of area), whole (height_of area))
    (corners_are _ _ _ _ area.x1 area.y1 area.x2 area.y2 (nat_is area.x1 on.left) (nat_is area.y1 on.top) (end_is area.x1 area.x2 on.left on.columns) (end_is area.y1 area.y2 on.top on.lines))

-- pieces of one length
piece_at : (f : ℕ → List ℕ) (n : ℕ) → ((k : ℕ) → length (f k) ≡ n) → (a count k : ℕ) → k < count → take n (drop (k * n) (flat_map f (range_with_len a count))) ≡ f (a + k)
piece_at f n each a zero k h = absurd (omega arith)
piece_at f n each a (suc count) zero h =
    let none : 0 * n ≡ 0 = omega arith in
    let here : a + 0 ≡ a = omega arith in
    rw (none, here) (take_at (f a) (flat_map f (range_with_len (a + 1) count)) n (each a))
piece_at f n each a (suc count) (suc k) h =
    let far : suc k * n ≡ n + k * n = omega arith in
    let on : a + suc k ≡ (a + 1) + k = omega arith in
    rw (far, on)
    (ap (take n) (sym (drop-drop (k * n) n (f a ++ flat_map f (range_with_len (a + 1) count))) ∙ ap (drop (k * n)) (drop_at (f a) (flat_map f (range_with_len (a + 1) count)) n (each a)))
    ∙ piece_at f n each (a + 1) count k (omega arith))

nth_by : (w d e n i width x y X Y : ℕ) → e < w → x + e ≡ X → y + d ≡ Y → Y * width + X ≡ i → (y + (d * w + e) / w) * width + (x + (d * w + e) % w) ≡ i
nth_by w d e n i width x y X Y below a b c =
    let q : (d * w + e) / w ≡ d = grind (arith, rows) in
    let r : (d * w + e) % w ≡ e = grind (arith, rows) in
    rw (q, r, a, b) c

from_start : (low z : ℤ) (n : ℕ) → pos 0 ≤ℤ low → low ≤ℤ z → z ≡ pos n → nat_of low + distance low z ≡ n
from_start low z n h k e =
    let a : pos (nat_of low) ≡ low = nat_is low h in
    omega (arith, ints)

-- the pixel that comes after as many as come before it
pub nth_is : (width : ℕ) (area : Rect) (i : ℕ) → IsOn area → has_pixel width area i ≡ true → nth_pixel width area (place area (pos (i % width)) (pos (i / width))) ≡ i
unfolding place
nth_is width area i on h =
    let b = between_has area (pos (i % width)) (pos (i / width)) h in
    nth_by (width_of area) (distance area.y1 (pos (i / width))) (distance area.x1 (pos (i % width))) 0 i width (nat_of area.x1) (nat_of area.y1) (i % width) (i / width)
    (distance_below area.x1 (pos (i % width)) area.x2 b.left b.right)
    (from_start area.x1 (pos (i % width)) (i % width) on.left b.left refl)
    (from_start area.y1 (pos (i / width)) (i / width) on.top b.top refl)
    (rw (mul_comm (i / width) width) (div-add-mod i width))

-- the number of a pixel is read as it was written
pub pixel_is : (width : ℕ) (f : Format) (colors : List Rgb565) (area : Rect) (i : ℕ) → IsSized f → IsOn area → has_pixel width area i ≡ true → pixel_read width f (update width f colors area) i ≡ number_at f colors i
pixel_is width f colors area i sized on h =
    let bytes = update width f colors area in
    let n = bytes_each f in
    let k = place area (pos (i % width)) (pos (i / width)) in
    let g : ℕ → List ℕ = λ j. number_bytes f (number_at f colors (nth_pixel width area j)) in
    let here : 0 + k ≡ k = omega arith in
    ap (λ (a : Rect). number_read f bytes (place a (pos (i % width)) (pos (i / width)))) (area_is width f colors area on)
    ∙ ap (λ (l : List ℕ). number_of f (take n l)) (sym (drop-drop (k * n) 16 bytes))
    ∙ ap (number_of f) (piece_at g n (λ j. length-number_bytes f _) 0 (size_of area) k (place_fits area _ _ h))
    ∙ ap (λ (j : ℕ). number_of f (g j)) here
    ∙ ap (λ (j : ℕ). number_of f (number_bytes f (number_at f colors j))) (nth_is width area i on h)
    ∙ number_is f (number_at f colors i) sized (number_fits f _ sized)
