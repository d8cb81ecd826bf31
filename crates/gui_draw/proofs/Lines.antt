-- A part of a draw buffer, line by line.
use Rattle.gui_draw.proofs.Common.{pos, ◌≡◌, ◌∙◌, refl, sym, ap, ℕ, zero, suc, ◌+◌, ◌*◌, ◌<◌, ◌≤◌, Bool, true, false, ◌&&◌, if◌then◌else◌, Option, Some, None, arith, ℤ, ◌≤ℤ◌, ◌+ℤ◌, ints, nat_tests, Rgb565, Rect, has, is_empty, width_of, height_of, Dab, Coat, laid, within, plain, fill_coat, mix, Buffer, pixel_at, pixel_count, Draws, IsInside, IsPart, IsOutside, HasLine, line_of}
use Rattle.gui_base.specs.Area.{size_of}
use Rattle.gui_color.specs.Buffer.{IsMixed}
pub use Rattle.gui_color.proofs.Filling.{first_lines, lines_none, lines_more, lines_apart, lines_all}
use Rattle.gui_draw.proofs.Counts.{row_count_all, pixel_count_same, pixel_count_both, pixel_count_none, pixel_count_row}
use Rattle.gui_draw.proofs.Steps.{draws_none, draws_same, draws_both}

pub part_start : (buf : Buffer) (part : Rect) (coat : Coat) (steps : ℕ) → Draws buf buf steps steps (within (first_lines part 0) coat)
part_start buf part coat steps = draws_none buf steps _ (λ x y i. rw (lines_none part x y) refl)

pub part_more : (old mid new : Buffer) (part : Rect) (n : ℕ) (coat : Coat) (from via to : ℕ) → Draws old mid from via (within (first_lines part n) coat) →
    Draws mid new via to (within (line_of part n) coat) → Draws old new from to (within (first_lines part (n + 1)) coat)
part_more old mid new part n coat from via to h k =
    draws_same old new from to _ _ (λ x y i. ap (λ (t : Bool). if t then coat x y else None) (sym (lines_more part n x y)))
    (draws_both old mid new from via to (has (first_lines part n)) (has (line_of part n)) coat (λ x y i. lines_apart part n x y) h k)

pub part_all : (old new : Buffer) (part : Rect) (n : ℕ) (coat : Coat) (from to : ℕ) → n ≡ height_of part → Draws old new from to (within (first_lines part n) coat) → Draws old new from to (within part coat)
part_all old new part n coat from to all =
    draws_same old new from to _ _ (λ x y i. rw all (ap (λ (t : Bool). if t then coat x y else None) (lines_all part x y)))

in_columns : (area : Rect) (left right top bottom y : ℤ) → has area left top ≡ true → has area right bottom ≡ true → top ≤ℤ y → y ≤ℤ bottom → (has area left y ≡ true) × (has area right y ≡ true)
in_columns area left right top bottom y first last above below = (grind (arith, ints), grind (arith, ints))

pub has_line : (area part : Rect) (n : ℕ) → IsInside area part → n < height_of part → HasLine area part n
has_line area part n inside below =
    let some = inside.some in
    let columns = in_columns area part.x1 part.x2 part.y1 part.y2 (part.y1 +ℤ pos n) inside.first inside.last (omega (arith, ints)) (grind (arith, ints)) in
    record { below = below; order = grind (arith, ints); first = columns.0; last = columns.1 }

-- the part of an item that two meets give
in_all : (a b c d : Bool) → d ≡ ((a && b) && c) → (d ≡ true → a ≡ true) × (a ≡ true → d ≡ (b && c))
in_all true b c d h = (λ i. refl, λ i. h)
in_all false b c d h = (λ i. sym h ∙ i, λ i. cc)

pub part_is : (area clip item inner part : Rect) → ((x y : ℤ) → has inner x y ≡ (has area x y && has clip x y)) → ((x y : ℤ) → has part x y ≡ (has inner x y && has item x y)) → is_empty part ≡ false → IsPart area clip item part
part_is area clip item inner part first second some =
    let at = λ (x y : ℤ). in_all (has area x y) (has clip x y) (has item x y) (has part x y) (second x y ∙ ap (λ (t : Bool). t && has item x y) (first x y)) in record {
      inside = record { some = some; first = (at part.x1 part.y1).0 (grind (arith, ints)); last = (at part.x2 part.y2).0 (grind (arith, ints)) };
      pixels = λ x y i. (at x y).1 i;
    }

has_none : (part : Rect) (x y : ℤ) → is_empty part ≡ true → has part x y ≡ false
has_none part x y none = grind (arith, ints, nat_tests)

out_all : (a b c : Bool) → ((a && b) && c) ≡ false → a ≡ true → (b && c) ≡ false
out_all true b c h i = h
out_all false b c h i = cc

pub part_none : (area clip item inner part : Rect) → ((x y : ℤ) → has inner x y ≡ (has area x y && has clip x y)) → ((x y : ℤ) → has part x y ≡ (has inner x y && has item x y)) → is_empty part ≡ true → IsOutside area clip item
part_none area clip item inner part first second none = λ x y i.
    out_all (has area x y) (has clip x y) (has item x y) (sym (second x y ∙ ap (λ (t : Bool). t && has item x y) (first x y)) ∙ has_none part x y none) i

-- an item in a clip
clipped : (inside a b : Bool) (d : Option Dab) → inside ≡ (a && b) → (if inside then d else None) ≡ (if a then (if b then d else None) else None)
clipped inside true b d h = rw h refl
clipped inside false b d h = rw h refl

pub part_inside : (old new : Buffer) (clip item part : Rect) (coat : Coat) (from to : ℕ) → IsPart old.area clip item part → Draws old new from to (within part coat) → Draws old new from to (within clip (within item coat))
part_inside old new clip item part coat from to is =
    draws_same old new from to _ _ (λ x y i. clipped (has part x y) (has clip x y) (has item x y) (coat x y) (is.pixels x y i))

pub part_outside : (buf : Buffer) (clip item : Rect) (coat : Coat) (steps : ℕ) → IsOutside buf.area clip item → Draws buf buf steps steps (within clip (within item coat))
part_outside buf clip item coat steps out =
    draws_none buf steps _ (λ x y i. sym (clipped false (has clip x y) (has item x y) (coat x y) (sym (out x y i))))

-- a part that is filled
one_more : (area part : Rect) (fg : Rgb565) (opa n : ℕ) → IsInside area part → n < height_of part → pixel_count area (fill_coat (first_lines part (n + 1)) fg opa) ≡ pixel_count area (fill_coat (first_lines part n) fg opa) + width_of part
one_more area part fg opa n inside below =
    let line = has_line area part n inside below in
    let y = part.y1 +ℤ pos n in
    let all = pixel_count_row area y part.x1 part.x2 (plain fg opa) line.order line.first line.last ∙ row_count_all (plain fg opa) y part.x1 (width_of part) (λ i. refl) in
    pixel_count_same area _ _ (λ x v i. ap (λ (t : Bool). if t then plain fg opa x v else None) (lines_more part n x v))
    ∙ (pixel_count_both area (has (first_lines part n)) (has (line_of part n)) (plain fg opa) (λ x v i. lines_apart part n x v)
    ∙ ap (λ (k : ℕ). pixel_count area (fill_coat (first_lines part n) fg opa) + k) all)

one_row : (n w : ℕ) → (n + 1) * w ≡ n * w + w
one_row n w = grind arith

swapped : (a b : ℕ) → a * b ≡ b * a
swapped a b = grind arith

lines_counted : (area part : Rect) (fg : Rgb565) (opa : ℕ) → IsInside area part → (n : ℕ) → n ≤ height_of part → pixel_count area (fill_coat (first_lines part n) fg opa) ≡ n * width_of part
lines_counted area part fg opa inside zero h = pixel_count_none area _ (λ x y i. rw (lines_none part x y) refl) ∙ omega arith
lines_counted area part fg opa inside (suc n) h =
    let e : suc n ≡ n + 1 = omega arith in
    let more = one_more area part fg opa n inside (omega arith) in
    let before = lines_counted area part fg opa inside n (omega arith) in
    rw e (omega (arith, more, before, one_row n (width_of part)))

all_counted : (area part : Rect) (fg : Rgb565) (opa : ℕ) → IsInside area part → pixel_count area (fill_coat part fg opa) ≡ size_of part
all_counted area part fg opa inside =
    pixel_count_same area _ _ (λ x y i. ap (λ (t : Bool). if t then plain fg opa x y else None) (sym (lines_all part x y)))
    ∙ (lines_counted area part fg opa inside (height_of part) (omega arith) ∙ swapped (height_of part) (width_of part))

laid_where : (t : Bool) (fg under : Rgb565) (opa : ℕ) → (if t then mix fg under opa else under) ≡ laid (if t then Some (record { color = fg; opa = opa }) else None) under
laid_where true fg under opa = refl
laid_where false fg under opa = refl

pub filled : (old new : Buffer) (part : Rect) (fg : Rgb565) (opa from to : ℕ) → IsInside old.area part → new.area ≡ old.area → new.limit ≡ old.limit → IsMixed old new (has part) fg opa → to ≡ from + size_of part →
    Draws old new from to (fill_coat part fg opa)
filled old new part fg opa from to inside area limit mixed counted = record {
  area_stays = area;
  limit_stays = limit;
  pixels = λ x y i. mixed x y i ∙ laid_where (has part x y) fg (pixel_at old x y) opa;
  steps = counted ∙ ap (λ (n : ℕ). from + n) (sym (all_counted old.area part fg opa inside));
}
