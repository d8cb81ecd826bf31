-- Rows of bits and of texels over the lines of a part.
use Rattle.gui_draw.proofs.Common.{pos, ◌≡◌, ◌∙◌, refl, sym, ap, ℕ, ◌+◌, ◌*◌, ◌<◌, ◌≤◌, Bool, true, false, if◌then◌else◌, List, length, slice_index_or, slice_range, Some, None, arith, ℤ, ◌≤ℤ◌, ◌+ℤ◌, ints, Rgb565, Rect, has, width_of, height_of, black, Buffer, HoldsRow, distance, row_area, row_of, with_row, mask_bit, Dab, Coat, laid, only, within, plain, Draws, HasLine, line_of, sum_below, row_count, one_if_laid, one_if, masked, dots_in, HasDots}
use Rattle.gui_draw.proofs.Steps.{draws_row}
use Rattle.std.proofs.lemmas.Nat.{mul-le}
use Rattle.gui_base.proofs.Areas.{between_has}
use Rattle.gui_color.proofs.Places.{distance_is, distance_below}
use Rattle.std.proofs.lemmas.List.{length-take, length-drop}
use Rattle.gui_draw.specs.declared.dots.Dots.{Dots}
use Rattle.gui_draw.proofs.Counts.{sum_same}

below_top : (top : ℤ) (n : ℕ) → distance top (top +ℤ pos n) ≡ n
below_top top n = omega (arith, ints)

in_row : (y x1 x2 x v : ℤ) → has (row_area y x1 x2) x v ≡ true → (x1 ≤ℤ x) × (x ≤ℤ x2) × (y ≡ v)
in_row y x1 x2 x v i =
    let b = between_has (row_area y x1 x2) x v i in
    let top : y ≤ℤ v = b.top in
    let bottom : v ≤ℤ y = b.bottom in
    (b.left, b.right, omega (arith, ints))

-- one line of a part, each of whose colours is the coat over the old one
pub line_drawn : (buf : Buffer) (part : Rect) (line : ℕ) (ws : List Rgb565) (coat : Coat) (from to : ℕ) → HasLine buf.area part line → HoldsRow buf (part.y1 +ℤ pos line) part.x1 part.x2 → length ws ≡ width_of part →
    ((k : ℕ) → k < width_of part → slice_index_or ws k black ≡ laid (coat (part.x1 +ℤ pos k) (part.y1 +ℤ pos line)) (slice_index_or (row_of buf (part.y1 +ℤ pos line) part.x1 part.x2) k black)) →
    to ≡ from + row_count coat (part.y1 +ℤ pos line) part.x1 (width_of part) → Draws buf (with_row buf (part.y1 +ℤ pos line) part.x1 ws) from to (within (line_of part line) coat)
line_drawn buf part line ws coat from to has_it row long each counted =
    let y = part.y1 +ℤ pos line in
    draws_row buf y part.x1 part.x2 ws coat from to row has_it.order has_it.first has_it.last long
    (λ x v i.
    let sides = in_row y part.x1 part.x2 x v i in
    let near : distance part.x1 x < width_of part = distance_below part.x1 x part.x2 sides.0 sides.1 in
    let at : part.x1 +ℤ pos (distance part.x1 x) ≡ x = distance_is part.x1 x sides.0 in
    let same : y ≡ v = sides.2 in
    each (distance part.x1 x) near
    ∙ (ap (λ (z : ℤ). laid (coat z y) (slice_index_or (row_of buf y part.x1 part.x2) (distance part.x1 x) black)) at
    ∙ (ap (λ (z : ℤ). laid (coat x z) (slice_index_or (row_of buf y part.x1 part.x2) (distance part.x1 x) black)) same
    ∙ ap (λ (under : Rgb565). laid (coat x v) under) (row.colors x v i))))
    counted

-- the bits of line n of a part
abbrev pub bits_at : Dots → ℕ → List ℕ
bits_at dots n = slice_range dots.bytes.now ((dots.row + n) * dots.stride) ((dots.row + n) * dots.stride + dots.stride)

dot_is : (dots : Dots) (part : Rect) (line k : ℕ) → dots_in dots part (part.x1 +ℤ pos k) (part.y1 +ℤ pos line) ≡ mask_bit (bits_at dots line) (dots.column + k)
dot_is dots part line k = rw (below_top part.x1 k, below_top part.y1 line) refl

pub laid_if : (t : Bool) (fg under : Rgb565) (opa : ℕ) → masked t fg opa under ≡ laid (if t then Some (record { color = fg; opa = opa }) else None) under
laid_if true fg under opa = refl
laid_if false fg under opa = refl

pub count_if : (t : Bool) (d : Dab) → one_if t ≡ one_if_laid (if t then Some d else None)
count_if true d = refl
count_if false d = refl

dots_count : (dots : Dots) (part : Rect) (line : ℕ) (fg : Rgb565) (opa : ℕ) →
    sum_below (width_of part) (λ i. one_if (mask_bit (bits_at dots line) (dots.column + i))) ≡ row_count (only (dots_in dots part) (plain fg opa)) (part.y1 +ℤ pos line) part.x1 (width_of part)
unfolding row_count
dots_count dots part line fg opa =
    sum_same (width_of part) _ _ (λ i l.
    ap one_if (sym (dot_is dots part line i)) ∙ count_if (dots_in dots part (part.x1 +ℤ pos i) (part.y1 +ℤ pos line)) (record { color = fg; opa = opa }))

-- the bits of a line are there
pub bits_fit : (dots : Dots) (part : Rect) (line : ℕ) → HasDots dots part → line < height_of part → (dots.row + line) * dots.stride + dots.stride ≤ length dots.bytes.now
bits_fit dots part line h below =
    let last : (dots.row + line + 1) * dots.stride ≤ (dots.row + height_of part) * dots.stride = mul-le (dots.row + line + 1) dots.stride (dots.row + height_of part) dots.stride (omega arith) (omega arith) in
    omega (arith, h.rows, last)

pub bits_long : (dots : Dots) (part : Rect) (line : ℕ) → HasDots dots part → line < height_of part → length (bits_at dots line) ≡ dots.stride
bits_long dots part line h below =
    let fits = bits_fit dots part line h below in
    simp (length-take, length-drop) (omega arith)

pub dots_drawn : (buf : Buffer) (part : Rect) (line : ℕ) (ws : List Rgb565) (dots : Dots) (fg : Rgb565) (opa from to : ℕ) → HasLine buf.area part line → HoldsRow buf (part.y1 +ℤ pos line) part.x1 part.x2 →
    length ws ≡ width_of part →
    ((k : ℕ) → k < width_of part → slice_index_or ws k black ≡ masked (mask_bit (bits_at dots line) (dots.column + k)) fg opa (slice_index_or (row_of buf (part.y1 +ℤ pos line) part.x1 part.x2) k black)) →
    to ≡ from + sum_below (width_of part) (λ i. one_if (mask_bit (bits_at dots line) (dots.column + i))) →
    Draws buf (with_row buf (part.y1 +ℤ pos line) part.x1 ws) from to (within (line_of part line) (only (dots_in dots part) (plain fg opa)))
dots_drawn buf part line ws dots fg opa from to has_it row long mixed counted =
    let y = part.y1 +ℤ pos line in
    line_drawn buf part line ws (only (dots_in dots part) (plain fg opa)) from to has_it row long
    (λ k l.
    mixed k l
    ∙ (ap (λ (t : Bool). masked t fg opa (slice_index_or (row_of buf y part.x1 part.x2) k black)) (sym (dot_is dots part line k))
    ∙ laid_if (dots_in dots part (part.x1 +ℤ pos k) y) fg (slice_index_or (row_of buf y part.x1 part.x2) k black) opa))
    (counted ∙ ap (λ (n : ℕ). from + n) (dots_count dots part line fg opa))
