-- What a slice and what is left after it have together.
use Rattle.std.proofs.Common.{◌≡◌, ◌∙◌, refl, sym, ap, subst, ℕ, ◌+◌, ◌/◌, ◌<◌, ◌≤◌, ◌==◌, ℤ, Bool, true, false, ◌||◌, List, [], ◌∷◌, arith, inl, inr, Some}
use Rattle.std.proofs.Math.Nat.{mul-le-mul_right, div-mul-le_self}
use Rattle.std.proofs.lemmas.Int.{ints}
use Rattle.std.proofs.lemmas.Bool.{cases_Bool, eqb-true, eqb-false}
use Rattle.std.proofs.lemmas.List.Sums.{sum_by-cons}
use Rattle.gui_base.specs.Area.{Rect, has, is_empty, width_of, height_of, size_of, is_within}
use Rattle.gui_damage.specs.Pending.{Pending, IsPending, covered, total}
use Rattle.gui_base.specs.Lines.{top_lines, lines_below}
use Rattle.gui_damage.specs.Slices.{slice_lines, slice_of, left_after, Takes, HasLine}
use Rattle.gui_damage.proofs.Lines.{in_order, count_is, size_pos, height_top, height_below}
use Rattle.gui_damage.proofs.Listed.{within, within_top}
use Rattle.gui_damage.proofs.Slices.{one_line, first_within, first_some, without_first, with_below, left_whole, left_below}

-- a pixel of an area is in its first lines or below them
split_lines : (area : Rect) (lines : ℕ) (x y : ℤ) → has area x y ≡ true → has (top_lines area lines) x y ≡ false → has (lines_below area lines) x y ≡ true
split_lines area lines x y h k = grind (arith, ints)

size_split : (area : Rect) (lines : ℕ) → is_empty area ≡ false → lines < height_of area → size_of area ≡ size_of (top_lines area lines) + size_of (lines_below area lines)
size_split area lines some h =
    let top = height_top area lines in
    let below = height_below area lines some h in
    let both : height_of area ≡ height_of (top_lines area lines) + height_of (lines_below area lines) = omega arith in
    grind (arith, both)

-- all lines of an area
pub top_all : (area : Rect) → is_empty area ≡ false → top_lines area (height_of area) ≡ area
top_all area some =
    let order = in_order area some in
    ap (λ (y : ℤ). record area { y2 = y }) (omega (arith, ints, count_is area.y1 area.y2 order.down))

or_after : (a b : Bool) → (a || b) ≡ true → b ≡ false → a ≡ true
or_after true b h k = refl
or_after false b h k = cc

both_false : (a b : Bool) → (a || b) ≡ false → (a ≡ false) × (b ≡ false)
both_false true b h = cc
both_false false b h = (refl, h)

module _ (panel : Rect) (limit : ℕ) (first : Rect) (rest : List Rect) (p : IsPending (record { panel = panel; areas = first ∷ rest })) (wide : width_of first ≤ limit) where
  abbrev lines : ℕ
  lines = slice_lines limit first

  inside : is_within panel (top_lines first lines) ≡ true
  inside = within_top panel first lines (first_within panel first rest p) (one_line panel first limit (first_within panel first rest p) wide) (omega arith)

  some_of : 0 < size_of (top_lines first lines)
  some_of =
      let sizes = size_pos (top_lines first lines) (within panel (top_lines first lines) inside).some in
      let least = mul-le-mul_right (height_of (top_lines first lines)) (sizes.0) in
      omega (arith, least, sizes.1)

  small_of : size_of (top_lines first lines) ≤ limit
  small_of =
      let few : lines ≤ limit / width_of first = omega arith in
      let wide_enough = mul-le-mul_right (width_of first) few in
      rw (height_top first lines) (omega (arith, wide_enough, div-mul-le_self limit (width_of first)))

  taken_whole : lines ≡ height_of first → Takes panel limit (first ∷ rest) rest (top_lines first lines)
  taken_whole all =
      let is : top_lines first lines ≡ first = ap (top_lines first) all ∙ top_all first (first_some panel first rest p) in record {
        inside = inside;
        small = small_of;
        some = some_of;
        each = λ x y h k. subst (λ (area : Rect). has area x y ≡ true) (sym is) (or_after (has first x y) (covered rest x y) h k);
        sizes = sum_by-cons size_of first rest ∙ ap (λ n. n + total rest) (ap size_of (sym is));
        fewer = omega arith;
        pending = without_first panel first rest p;
      }

  taken_top : lines < height_of first → Takes panel limit (first ∷ rest) (lines_below first lines ∷ rest) (top_lines first lines)
  taken_top below = record {
    inside = inside;
    small = small_of;
    some = some_of;
    each = λ x y h k.
        let no = both_false (has (lines_below first lines) x y) (covered rest x y) k in
        let yes = or_after (has first x y) (covered rest x y) h no.1 in
        elim (cases_Bool (has (top_lines first lines) x y)) [
          | inl e ↦ e
          | inr e ↦ absurd (true_is (split_lines first lines x y yes e) no.0)
        ];
    sizes = omega (arith, sum_by-cons size_of first rest, sum_by-cons size_of (lines_below first lines) rest, size_split first lines (first_some panel first rest p) below);
    fewer = omega arith;
    pending = with_below panel first rest p lines below;
  } where
    true_is : {b : Bool} → b ≡ true → b ≡ false → ⊥
    true_is e f = cc

  pub takes_first : Takes panel limit (first ∷ rest) (left_after limit (first ∷ rest)) (top_lines first lines)
  takes_first = elim (cases_Bool (lines == height_of first)) [
    | inl e ↦ let all = eqb-true lines (height_of first) e in subst (λ (left : List Rect). Takes panel limit (first ∷ rest) left (top_lines first lines)) (sym (left_whole limit first rest all)) (taken_whole all)
    | inr e ↦ let short = eqb-false lines (height_of first) e in subst (λ (left : List Rect). Takes panel limit (first ∷ rest) left (top_lines first lines)) (sym (left_below limit first rest short)) (taken_top (omega arith))
  ]

same_some : (a b : Rect) → Some a ≡ Some b → a ≡ b
same_some a b h = cc

pub takes : (p : Pending) (limit : ℕ) (slice : Rect) → IsPending p → HasLine limit p.areas → Some slice ≡ slice_of limit p.areas → Takes p.panel limit p.areas (left_after limit p.areas) slice
takes p limit slice h wide e = go p.areas h wide e where
  go : (areas : List Rect) → IsPending (record { panel = p.panel; areas = areas }) → HasLine limit areas → Some slice ≡ slice_of limit areas → Takes p.panel limit areas (left_after limit areas) slice
  go [] h wide e = cc
  go (first ∷ rest) h wide e = subst (Takes p.panel limit (first ∷ rest) (left_after limit (first ∷ rest))) (sym (same_some slice (top_lines first (slice_lines limit first)) e)) (takes_first p.panel limit first rest h wide)
