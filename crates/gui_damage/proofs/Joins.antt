-- Pairs of areas, and lists in which one was joined.
use Rattle.std.proofs.Common.{◌≡◌, ◌∙◌, refl, sym, ap, subst, ℕ, zero, suc, ◌+◌, ◌<◌, ◌≤◌, ℤ, Bool, true, false, not, ◌&&◌, ◌||◌, List, [], ◌∷◌, ◌++◌, length, get_or, set, drop, take, remove, map, arith}
use Rattle.std.specs.List.{list_any, list_all}
use Rattle.std.specs.List.Sorted.{IsPermutation}
use Rattle.std.specs.Int.{int_max, int_min}
use Rattle.std.proofs.lemmas.List.{get_or-map, map-append, take-map, drop-map, map-set}
use Rattle.std.proofs.lemmas.List.Sorted.{IsPermutation-refl, IsPermutation-sym, IsPermutation-trans, IsPermutation-cons, IsPermutation-middle, IsPermutation-remove, list_any-IsPermutation, length_permutation, sum_by-IsPermutation}
use Rattle.std.proofs.lemmas.List.Sums.{sum_by-cons}
use Rattle.std.proofs.lemmas.Bool.{ltb-true, or_right}
use Rattle.std.proofs.lemmas.Int.{ints}
use Rattle.gui_base.proofs.Areas.{hull_first, hull_second, hull_joined, Covers-around, around_corners}
use Rattle.gui_damage.proofs.Lines.{in_order, not_empty}
use Rattle.gui_base.specs.Area.{Rect, has, is_empty, size_of, common, joined, Covers, has_corners, is_within}
use Rattle.gui_damage.specs.Damage.{rects_of}
use Rattle.gui_damage.specs.Joining.{joined_at, IsPair, JoinsPair, JoinsPairs, none, one_more, KeepsPixels}
use Rattle.gui_base.specs.Rounding.{Rounding, IsRounding}
use Rattle.gui_damage.specs.Pending.{covered, total}
use Rattle.gui_base.specs.declared.area.Area.{Area}
use Rattle.gui_base.specs.Corners.{rect_of}
use Rattle.gui_damage.proofs.Listed.{within, is_within-of, and_both, and_first, and_second, not_true}

-- an area that was read from the list, among their corners
pub rect_at : (areas : List Area) (i : ℕ) (area : Area) (d : Rect) → i < length areas → area ≡ get_or areas i area → get_or (rects_of areas) i d ≡ rect_of area
rect_at areas i area d h e = get_or-map rect_of areas i area d h ∙ sym (ap rect_of e)

-- A list with two elements a and b of which y takes the place: what else it has, before and after.
record Replaces {X : Type 0} (xs : List X) (a b y : X) (ys : List X) : Type 0 where
  others : List X
  before : IsPermutation xs (a ∷ b ∷ others)
  after : IsPermutation (y ∷ others) ys

replaces : {X : Type 0} (xs : List X) (i j : ℕ) (a b y : X) → i < j → j < length xs → a ≡ get_or xs i a → b ≡ get_or xs j b → Replaces xs a b y (remove (set xs i y) j)
replaces [] i j a b y later below first second = absurd (omega arith)
replaces (x ∷ xs) i zero a b y later below first second = absurd (omega arith)
replaces (x ∷ xs) zero (suc j) a b y later below first second = record {
  others = remove xs j;
  before = subst (λ z. IsPermutation (x ∷ xs) (z ∷ b ∷ remove xs j)) (sym first) (IsPermutation-cons x xs (b ∷ remove xs j) (IsPermutation-remove xs j b (omega arith) second));
  after = IsPermutation-refl (y ∷ remove xs j);
}
replaces (x ∷ xs) (suc i) (suc j) a b y later below first second =
    let rest = replaces xs i j a b y (omega arith) (omega arith) first second in
    let ys = remove (set xs i y) j in
    record {
      others = x ∷ rest.others;
      before = IsPermutation-trans _ _ _ (IsPermutation-cons x xs (a ∷ b ∷ rest.others) rest.before) (IsPermutation-sym _ _ (IsPermutation-middle (a ∷ b ∷ []) x rest.others));
      after = IsPermutation-trans _ _ _ (IsPermutation-middle (y ∷ []) x rest.others) (IsPermutation-cons x (y ∷ rest.others) ys rest.after);
    }

module _ {X : Type 0} (p : X → Bool) where
  all_as_any : (xs : List X) → list_all p xs ≡ not (list_any (λ x. not (p x)) xs)
  all_as_any [] = refl
  all_as_any (x ∷ xs) = elim (p x) as (λ b. (b && list_all p xs) ≡ not (not b || list_any (λ x. not (p x)) xs)) [ true ↦ all_as_any xs | false ↦ refl ]

  all_permuted : (xs ys : List X) → IsPermutation xs ys → list_all p xs ≡ true → list_all p ys ≡ true
  all_permuted xs ys h all = all_as_any ys ∙ (ap not (sym (list_any-IsPermutation (λ x. not (p x)) xs ys h)) ∙ (sym (all_as_any xs) ∙ all))

-- the least area with the pixels of two that are not empty
abbrev hull : Rect → Rect → Rect
hull a b = record { x1 = int_min a.x1 b.x1; y1 = int_min a.y1 b.y1; x2 = int_max a.x2 b.x2; y2 = int_max a.y2 b.y2 }

pub within_joined : (panel a b : Rect) → is_within panel a ≡ true → is_within panel b ≡ true → is_within panel (joined a b) ≡ true
within_joined panel a b h k =
    let p = within panel a h in
    let q = within panel b k in
    let pa = p.around in
    let qa = q.around in
    let o = in_order a p.some in
    let r = in_order b q.some in
    let al = pa.left in let ar = pa.right in let at = pa.top in let ab = pa.bottom in
    let bl = qa.left in let br = qa.right in let bt = qa.top in let bb = qa.bottom in
    let oa = o.across in let od = o.down in let ra = r.across in let rd = r.down in
    subst (λ (area : Rect). is_within panel area ≡ true) (hull_joined a b p.some q.some) (is_within-of panel (hull a b) (record {
      some = not_empty (hull a b) (record { across = grind (arith, ints); down = grind (arith, ints) });
      around = record { left = grind (arith, ints); right = grind (arith, ints); top = grind (arith, ints); bottom = grind (arith, ints) };
    }))

pub rects-joined_at : (areas : List Area) (i j : ℕ) (area : Area) → rects_of (remove (set areas i area) j) ≡ joined_at (rects_of areas) i j (rect_of area)
rects-joined_at areas i j area =
    map-append rect_of (take j (set areas i area)) (drop (suc j) (set areas i area))
    ∙ (ap (λ (front : List Rect). front ++ map rect_of (drop (suc j) (set areas i area))) (sym (take-map rect_of j (set areas i area)))
    ∙ (ap (λ (back : List Rect). take j (map rect_of (set areas i area)) ++ back) (sym (drop-map rect_of (suc j) (set areas i area)))
    ∙ ap (λ (xs : List Rect). remove xs j) (map-set rect_of areas i area)))

-- two areas of which one pixel is common have pixels
pub both_some : (a b : Rect) → is_empty (common a b) ≡ false → (is_empty a ≡ false) × (is_empty b ≡ false)
both_some a b h = (grind (arith, ints), grind (arith, ints))

or_either : (a b c d e : Bool) → (a ≡ true → d ≡ true) → (b ≡ true → d ≡ true) → (a || (b || c)) ≡ true → c ≡ e → (d || e) ≡ true
or_either true b c d e p q h k = rw (p refl) refl
or_either false true c d e p q h k = rw (q refl) refl
or_either false false c d e p q h k = or_right d e (sym k ∙ h)

module _ (round : Rect → Rect) (old new : List Rect) (h : JoinsPair round old new) where
  -- one join
  abbrev join : Rect
  join = round (joined h.first h.second)

  some : (is_empty h.first ≡ false) × (is_empty h.second ≡ false)
  some = both_some h.first h.second (not_true _ (and_first _ _ h.joins))

  smaller_join : size_of join < size_of h.first + size_of h.second
  smaller_join = ltb-true (size_of join) (size_of h.first + size_of h.second) (and_second _ _ h.joins)

  join_holds : Covers join (joined h.first h.second)
  join_holds = Covers-around join (joined h.first h.second) (around_corners join (joined h.first h.second) h.holds)

  pub pair_length : length new + 1 ≡ length old
  pair_length = omega (arith, length_permutation _ _ h.listed, length_permutation _ _ h.replaced)

  pair_total : total new ≤ total old
  pair_total =
      let before = sum_by-IsPermutation size_of _ _ h.listed in
      let after = sum_by-IsPermutation size_of _ _ h.replaced in
      omega (arith, smaller_join, before, after, sum_by-cons size_of h.first (h.second ∷ h.others), sum_by-cons size_of h.second h.others, sum_by-cons size_of join h.others)

  pair_covers : (x y : ℤ) → covered old x y ≡ true → covered new x y ≡ true
  pair_covers x y t =
      let test = λ (area : Rect). has area x y in
      let is = hull_joined h.first h.second some.0 some.1 in
      let first = subst (λ (area : Rect). Covers area h.first) is (hull_first h.first h.second) in
      let second = subst (λ (area : Rect). Covers area h.second) is (hull_second h.first h.second) in
      sym (list_any-IsPermutation test _ _ h.replaced)
      ∙ or_either (test h.first) (test h.second) (list_any test h.others) (test join) (list_any test h.others) (λ k. join_holds x y (first x y k)) (λ k. join_holds x y (second x y k)) (sym (list_any-IsPermutation test _ _ h.listed) ∙ t) refl

-- the two areas, and what else was listed
pub pair_parts : (round : Rect → Rect) (old new : List Rect) (h : JoinsPair round old new) (panel : Rect) → list_all (is_within panel) old ≡ true →
    (is_within panel h.first ≡ true) × (is_within panel h.second ≡ true) × (list_all (is_within panel) h.others ≡ true)
pair_parts round old new h panel each =
    let all = all_permuted (is_within panel) _ _ h.listed each in
    (and_first _ _ all, and_first _ _ (and_second _ _ all), and_second _ _ (and_second _ _ all))

pub pair_within : (rules : Rounding) (old new : List Rect) → IsRounding rules → JoinsPair rules.round old new → list_all (is_within rules.panel) old ≡ true → list_all (is_within rules.panel) new ≡ true
pair_within rules old new is h each =
    let parts = pair_parts rules.round old new h rules.panel each in
    let join = is.inside (joined h.first h.second) (within_joined rules.panel h.first h.second parts.0 parts.1) in
    all_permuted (is_within rules.panel) _ _ h.replaced (and_both _ _ join parts.2)

pub keeps_pixels : (round : Rect → Rect) (old new : List Rect) → JoinsPairs round old new → KeepsPixels old new
keeps_pixels round old _ none = record { covers = λ x y h. h; smaller = omega arith; fewer = omega arith; none_lost = λ h. h }
keeps_pixels round old new (one_more {between} pairs pair) =
    let before = keeps_pixels round old between pairs in
    record {
      covers = λ x y h. pair_covers round between new pair x y (before.covers x y h);
      smaller = let s = before.smaller in omega (arith, pair_total round between new pair);
      fewer = let f = before.fewer in omega (arith, pair_length round between new pair);
      none_lost = λ h. let l = length_permutation _ _ pair.replaced in omega arith;
    }

-- the areas at i and j, where they are to be joined, gave way to the rounding of their join
pub joins_pair : (round : Rect → Rect) (areas : List Rect) (i j : ℕ) (a b : Rect) → IsPair round areas i j → ((d : Rect) → get_or areas i d ≡ a) → ((d : Rect) → get_or areas j d ≡ b) →
    has_corners (round (joined a b)) (joined a b) ≡ true → JoinsPair round areas (joined_at areas i j (round (joined a b)))
joins_pair round areas i j a b pair first second holds =
    let r = replaces areas i j a b (round (joined a b)) pair.later pair.within (sym (first a)) (sym (second b)) in
    record { first = a; second = b; others = r.others; listed = r.before; joins = rw (first a, second a) at (pair.joins a); holds = holds; replaced = r.after }
