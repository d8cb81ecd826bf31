-- Children with their natural heights.
use Rattle.std.proofs.Common.{◌≡◌, ◌∙◌, refl, sym, ap, subst, ℕ, max, Option, List, [], ◌∷◌, length, map, Bool, true, false, arith}
use Rattle.layout_defs.specs.declared.Course.{Course}
use Rattle.layout_defs.specs.declared.Course.TheVariants.{Free, Across, Down}
use Rattle.layout_defs.specs.Boxes.{Box, course_of, inner, inset, wraps, is_reversed}
use Rattle.layout_defs.specs.Flex.{spanned, thickness, tracks}
use Rattle.layout_defs.specs.Solving.{Tall, tall_box, taking_part, in_order, natural_size, kids_height, natural_height}
use Rattle.gui_boxes.specs.declared.layout_box.LayoutBox.{LayoutBox}
use Rattle.gui_boxes.specs.Views.{axis_of, box_of, box_at}
use Rattle.gui_boxes.specs.Totals.{Sum, down_kid, run_down, sum_of, with_gaps}
use Rattle.gui_boxes.proofs.Sums.{together, together_is, count_is}

-- the height of those together that stand in no row
heights_are : (course : Course) (box : Box) (room : ℕ) (kids : List Tall) → (course ≡ Across → ⊥) → together tall_box (λ (b : Box). b.down) (λ (k : Tall). k.natural_height) (run_down course) box.down.gap kids ≡ kids_height course box room kids
heights_are Free box room kids other = refl
heights_are Across box room kids other = absurd (other refl)
heights_are Down box room kids other = refl

pub column_is : (course : Course) (box : Box) (room : ℕ) (kids : List Tall) (row : Sum) → (course ≡ Across → ⊥) → row ≡ sum_of down_kid (run_down course) kids → with_gaps (run_down course) box.down.gap row ≡ kids_height course box room (taking_part tall_box kids)
column_is course box room kids row other is =
    together_is tall_box (λ (b : Box). b.down) (λ (k : Tall). k.natural_height) (run_down course) box.down.gap kids row is ∙ heights_are course box room (taking_part tall_box kids) other

-- no child is as high as nothing
none_high : (course : Course) (box : Box) (room : ℕ) → kids_height course box room [] ≡ 0
none_high Free box room = refl
none_high Across box room = turned (is_reversed box.flow)
  where
    turned : (back : Bool) → spanned box.down.gap (map thickness (tracks (wraps box.flow) room box.across.gap (in_order back []))) ≡ 0
    turned true = omega arith
    turned false = omega arith
none_high Down box room = omega arith

no_items : {A : Type 0} (xs : List A) → length xs ≡ 0 → xs ≡ []
no_items [] is = refl
no_items (x ∷ xs) is = cc

-- where none takes part
pub none_is : (course : Course) (box : Box) (room : ℕ) (kids : List Tall) (row : Sum) → row ≡ sum_of down_kid (run_down course) kids → row.count ≡ 0 → kids_height course box room (taking_part tall_box kids) ≡ 0
none_is course box room kids row is none =
    let count : length (taking_part tall_box kids) ≡ 0 = sym (count_is tall_box (λ (b : Box). b.down) (λ (k : Tall). k.natural_height) (run_down course) kids row is) ∙ none in
    ap (kids_height course box room) (no_items (taking_part tall_box kids) count) ∙ none_high course box room

-- what is found of an object's natural height
pub height_found : (boxes : List (Option LayoutBox)) (h width : ℕ) (own : LayoutBox) (kids : List Tall) (inside n : ℕ) →
    box_of h own ≡ box_at boxes h → inside ≡ kids_height (course_of own.flow) (box_of h own) (inner (axis_of own.across) width) (taking_part tall_box kids) →
    n ≡ natural_size own.down.size (inset (axis_of own.down)) (max own.own_height inside) → n ≡ natural_height (box_at boxes h) width kids
height_found boxes h width own kids inside n is_box is_inside is =
    subst (λ (b : Box). n ≡ natural_height b width kids) is_box (is ∙ ap (λ m. natural_size own.down.size (inset (axis_of own.down)) (max own.own_height m)) is_inside)
