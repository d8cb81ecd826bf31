-- An object moves its children no further than may be stored.
use Rattle.std.proofs.Common.{◌≡◌, sym, subst, ℕ, ◌≤◌, Bool, true, inl, inr, ℤ, pos, negsuc, Option, Some, None, arith}
use Rattle.std.specs.Prelude.{IfSome, option_map}
use Rattle.std.proofs.lemmas.Bool.{and_parts, cases_Bool}
use Rattle.std.proofs.lemmas.Int.{ints}
use Rattle.gui_base.specs.Area.{nat_of}
use Rattle.gui_base.specs.Forest.{Forest, Empty, Tree, all_by, has_by, map_forest}
use Rattle.gui_base.specs.Intervals.{is_counted, is_within}
use Rattle.gui_base.specs.declared.intervals.TheConstants.{HANDLE, SCROLL}
use Rattle.layout_defs.specs.Boxes.{Box}
use Rattle.layout_defs.specs.Laws.{row_by, is_placed_at}
use Rattle.layout_defs.specs.Solving.{Placed, Span, offset_at, offset_of}
use Rattle.layout_defs.proofs.Boxes.{solved_keeps_boxes}
use Rattle.run_defs.specs.Dragging.{pair_of}
use Rattle.run_defs.specs.Dragging as dragging
use Rattle.scene_defs.specs.Place.{box_of, boxes_of, offset, solved_of}
use Rattle.scene_defs.specs.Row.{is_row}
use Rattle.scene_defs.specs.Scene.{Object, Scene}
use Rattle.scene_defs.specs.Valid.{IsValid, in_order}
use Rattle.scene_defs.proofs.InRange.{numbers_of}

-- what is asked for is at most 8191
abbrev IsLow : Box → Type 0
IsLow box = (box.across.scroll ≤ 8191) × (box.down.scroll ≤ 8191)

abbrev placed_box : Placed → Box
placed_box p = p.tall.box

abbrev Each : {A : Type 0} → (A → Type 0) → Forest A → Type 0
Each P Empty = Unit {0}
Each P (Tree a cs rest) = P a × Each P cs × Each P rest

stored : (n : ℤ) → is_within SCROLL n ≡ true → nat_of n ≤ 8191
stored (pos n) e = grind (arith, ints, e)
stored (negsuc n) e = omega arith

object_low : (scene : Scene) (object : Object) → in_order scene.images object ≡ true → IsLow (box_of scene object)
object_low scene object e =
    let row = (and_parts (is_counted HANDLE object.handle) _ e).1 in
    let numbers = numbers_of object.row (and_parts (is_row object.row) _ row).0 in
    (stored object.row.scroll_x numbers.scroll_x, stored object.row.scroll_y numbers.scroll_y)

boxes_low : (scene : Scene) (f : Forest Object) → all_by (in_order scene.images) f ≡ true → Each IsLow (map_forest (box_of scene) f)
boxes_low scene Empty e = tt
boxes_low scene (Tree object cs rest) e =
    let here = and_parts (in_order scene.images object) _ e in
    let below = and_parts (all_by (in_order scene.images) cs) _ here.1 in
    (object_low scene object here.0, boxes_low scene cs below.0, boxes_low scene rest below.1)

placed_low : (f : Forest Placed) → Each IsLow (map_forest placed_box f) → Each (λ p. IsLow (placed_box p)) f
placed_low Empty low = tt
placed_low (Tree p cs rest) low = (low.0, placed_low cs low.1, placed_low rest low.2)

found_low : (test : Placed → Bool) (f : Forest Placed) → Each (λ p. IsLow (placed_box p)) f → IfSome (row_by test f) (λ p. IsLow (placed_box p))
found_low test Empty low = tt
found_low test (Tree p cs rest) low = elim (cases_Bool (test p)) [
  | inl is ↦ rw is low.0
  | inr isnt ↦ elim (cases_Bool (has_by test cs)) [
    | inl inner ↦ rw (isnt, inner) (found_low test cs low.1)
    | inr outer ↦ rw (isnt, outer) (found_low test rest low.2)
  ]
]

abbrev pub IsSmall : ℕ × ℕ → Type 0
IsSmall n = (n.0 ≤ 8191) × (n.1 ≤ 8191)

moved_small : (box : Box) (reach : Span) → IsLow box → IsSmall (pair_of (Some (offset_of box reach)))
moved_small box reach low = elim (cases_Bool box.scrollable) [
  | inl can ↦ let a = low.0 in let b = low.1 in rw can (omega arith, omega arith)
  | inr cannot ↦ rw cannot (omega arith, omega arith)
]

some_small : (o : Option Placed) → IfSome o (λ p. IsLow (placed_box p)) → IsSmall (pair_of (option_map offset_at o))
some_small None low = (omega arith, omega arith)
some_small (Some p) low = moved_small (placed_box p) p.reach low

pub offset_small : (scene : Scene) (h : ℕ) → IsValid scene → IsSmall (dragging.offset_of scene h)
unfolding offset
offset_small scene h valid =
    let boxes : map_forest placed_box (solved_of scene) ≡ boxes_of scene = solved_keeps_boxes scene.limits.width scene.limits.height (boxes_of scene) in
    let low = boxes_low scene scene.trees valid.rows.numbers in
    some_small (row_by (is_placed_at h) (solved_of scene)) (found_low (is_placed_at h) (solved_of scene) (placed_low (solved_of scene) (subst (Each IsLow) (sym boxes) low)))
