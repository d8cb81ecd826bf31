-- Children with what was found for them.
use Rattle.std.proofs.Common.{◌≡◌, ◌∙◌, refl, ap, get_or, ℕ, max, List, Option, Some, None}
use Rattle.layout_defs.specs.declared.Course.{Course}
use Rattle.layout_defs.specs.declared.Course.TheVariants.{Free, Across, Down}
use Rattle.layout_defs.specs.Boxes.{Box, course_of, inset}
use Rattle.layout_defs.specs.Solving.{Wide, wide_box, taking_part, natural_size, kids_width, natural_width}
use Rattle.gui_boxes.specs.declared.entry.Entry.{Entry}
use Rattle.gui_boxes.specs.declared.layout_box.LayoutBox.{LayoutBox}
use Rattle.gui_boxes.specs.Views.{axis_of, box_of, box_or, box_at}
use Rattle.gui_boxes.specs.declared.measuring.Run.{Run}
use Rattle.gui_boxes.specs.Totals.{Sum, across_kid, run_across, sum_of, with_gaps}
use Rattle.gui_boxes.proofs.Sums.{together, together_is}
use Rattle.gui_boxes.specs.Settled.{Layout, known_at}
use Rattle.gui_boxes.specs.Sizings.{kid_by}
use Rattle.gui_boxes.specs.Tables.{IsEntry}

named_or : (h : ℕ) (o : Option LayoutBox) → record (box_or h o) { handle = h } ≡ box_or h o
named_or h None = refl
named_or h (Some b) = refl

-- a box has its own handle
pub named : (boxes : List (Option LayoutBox)) (h : ℕ) → record (box_at boxes h) { handle = h } ≡ box_at boxes h
named boxes h = named_or h (get_or boxes h None)

-- a child by its entry is the child that is told
pub kid_told : (l : Layout) (h : ℕ) (e : Entry) → IsEntry l h e → kid_by h e ≡ known_at (box_at l.boxes) l h
kid_told l h e is = rw (is.wanted, is.natural_width, is.width, is.natural_height, is.slot, named l.boxes h) refl

-- the width of those together
widths_are : (course : Course) (box : Box) (kids : List Wide) → together wide_box (λ (b : Box). b.across) (λ (k : Wide). k.natural) (run_across course) box.across.gap kids ≡ kids_width course box kids
widths_are Free box kids = refl
widths_are Across box kids = refl
widths_are Down box kids = refl

-- what is found of an object's natural width
pub width_found : (h : ℕ) (own : LayoutBox) (kids : List Wide) (row : Sum) (run : Run) (inside n : ℕ) →
    run ≡ run_across (course_of own.flow) → row ≡ sum_of across_kid (run_across (course_of own.flow)) kids → inside ≡ with_gaps run own.across.gap row →
    n ≡ natural_size own.across.size (inset (axis_of own.across)) (max own.own_width inside) → n ≡ natural_width (box_of h own) kids
width_found h own kids row run inside n is_run is_row is_inside is =
    let course = course_of own.flow in
    let all : inside ≡ kids_width course (box_of h own) (taking_part wide_box kids) =
    is_inside ∙ (ap (λ (r : Run). with_gaps r own.across.gap row) is_run
    ∙ (together_is wide_box (λ (b : Box). b.across) (λ (k : Wide). k.natural) (run_across course) own.across.gap kids row is_row
    ∙ widths_are course (box_of h own) (taking_part wide_box kids))) in
    is ∙ ap (λ m. natural_size own.across.size (inset (axis_of own.across)) (max own.own_width m)) all
