-- Walks that remember the last cover, and that wait for it.
use Rattle.std.proofs.Common.{◌≡◌, ◌∙◌, refl, sym, ap, ℕ, ◌+◌, ◌≤◌, Bool, true, false, ◌||◌, ◌&&◌, ◌==◌, cond, if◌then◌else◌, Option, Some, None, List, [], ◌∷◌, ◌++◌, fold, sum_by, option_map, inl, inr, eq-eqb, arith}
use Rattle.std.specs.List.{list_any}
use Rattle.std.proofs.lemmas.Bool.{cases_Bool}
use Rattle.std.proofs.lemmas.List.Sums.{sum_by-cons, sum_by-append}
use Rattle.gui_base.specs.Area.{Rect}
use Rattle.gui_base.specs.Forest.{Forest, Empty, Tree, preorder, count}
use Rattle.scene_defs.specs.Scene.{Scene, handles_of}
use Rattle.scene_defs.specs.Items.{items}
use Rattle.scene_defs.specs.Shown.{Seen, painted}
use Rattle.scene_defs.specs.Walk.{IsShowable}
use Rattle.cover_defs.specs.Cover.{hides, sees_all, is_cover, last_by, from_last, cover, uncovered}
use Rattle.cover_defs.specs.Walks.{remembered, is_own, from_handle}
use Rattle.cover_defs.specs.Laws.{RememberedIsLast, WaitedIsUncovered}
use Rattle.cover_defs.proofs.Counts.{of_seen, own_number, painted_few}
use Rattle.cover_defs.proofs.Covers.{last_by-none, from_last-none}

abbrev one_if : Bool → ℕ
one_if b = cond b 1 0

-- how often an object stands by itself among what is painted
abbrev times : ℕ → List Seen → ℕ
times h = sum_by (of_seen (λ k. one_if (k == h)))

one_own : (is_bars : Bool) (k h : ℕ) → own_number (λ k. one_if (k == h)) is_bars k ≡ one_if (if is_bars then false else (k == h))
one_own true k h = refl
one_own false k h = refl

times-next : (h : ℕ) (s : Seen) (list : List Seen) → times h (s ∷ list) ≡ one_if (is_own h s) + times h list
times-next h s list = sum_by-cons (of_seen (λ k. one_if (k == h))) s list ∙ ap (λ (n : ℕ). n + times h list) (one_own s.is_bars s.handle h)

counted : (f : Forest ℕ) (h : ℕ) → sum_by (λ k. one_if (k == h)) (preorder f) ≡ count f h
counted Empty h = refl
counted (Tree k cs rest) h =
    sum_by-cons (λ k. one_if (k == h)) k (preorder cs ++ preorder rest)
    ∙ ap (λ (n : ℕ). one_if (k == h) + n) (sum_by-append (λ k. one_if (k == h)) (preorder cs) (preorder rest) ∙ rw (counted cs h, counted rest h) refl)

-- it stands once where all that is shown stands once
painted_once : (scene : Scene) (h : ℕ) → IsShowable scene → times h (painted scene) ≤ 1
painted_once scene h showable = omega (arith, painted_few scene (λ k. one_if (k == h)) showable, counted (handles_of scene.trees) h, showable.once h)

module _ (scene : Scene) (part : Rect) where
  abbrev test : Seen → Bool
  test s = is_cover scene part s

  abbrev or_last : Option Seen → Option ℕ → Option ℕ
  or_last None last = last
  or_last (Some s) last = Some s.handle

  first_alone : (a b : Bool) → (a || b) ≡ true → b ≡ false → a ≡ true
  first_alone true b is none = refl
  first_alone false b is none = cc

  any_last : (xs : List Seen) → list_any test xs ≡ true → (s : Seen) × (last_by test xs ≡ Some s)
  any_last [] any = cc
  any_last (s ∷ xs) any = elim (cases_Bool (list_any test xs)) [
    | inl later ↦ let r = any_last xs later in (r.0, rw later r.1)
    | inr none ↦ let is = first_alone (test s) (list_any test xs) any none in (s, rw (none, is) refl)
  ]

  first : (s : Seen) (last : Option ℕ) → remembered scene part last s ≡ or_last (if test s then Some s else None) last
  first s last = elim (cases_Bool (test s)) [ inl is ↦ rw is refl | inr isnt ↦ rw isnt refl ]

  remembers : (xs : List Seen) (last : Option ℕ) → fold (remembered scene part) last xs ≡ or_last (last_by test xs) last
  remembers [] last = refl
  remembers (s ∷ xs) last = elim (cases_Bool (list_any test xs)) [
    | inl any ↦ let r = any_last xs any in remembers xs (remembered scene part last s) ∙ rw (any, r.1) refl
    | inr none ↦ remembers xs (remembered scene part last s) ∙ rw (none, last_by-none test xs none) (first s last)
  ]

  or_none : (found : Option Seen) → or_last found None ≡ option_map (λ s. s.handle) found
  or_none None = refl
  or_none (Some s) = refl

  own_if : (is_bars rest : Bool) (h : ℕ) → (if is_bars then false else rest) ≡ true → (if is_bars then false else (h == h)) ≡ true
  own_if true rest h is = cc
  own_if false rest h is = eq-eqb h h refl

  -- a cover stands by itself
  own_cover : (t s : Seen) → test t ≡ true → t ≡ s → is_own s.handle t ≡ true
  own_cover t s is same = ap (λ (z : Seen). is_own z.handle t) (sym same) ∙ own_if t.is_bars (sees_all t.visible part && list_any (hides part) (items scene t.handle)) t.handle is

  -- the last that passes a test is among them
  is_among : (list : List Seen) (s : Seen) → last_by test list ≡ Some s → 1 ≤ times s.handle list
  is_among [] s is = cc
  is_among (t ∷ list) s is = elim (cases_Bool (list_any test list)) [
    | inl later ↦ omega (arith, is_among list s (sym (ap (λ (b : Bool). if b then last_by test list else if test t then Some t else None) later) ∙ is), times-next s.handle t list)
    | inr none ↦ elim (cases_Bool (test t)) [
      | inl passes ↦
          let same : t ≡ s = let e = rw (none, passes) at is in cc in
          let own : is_own s.handle t ≡ true = own_cover t s passes same in
          let one : one_if (is_own s.handle t) ≡ 1 = rw own refl in
          omega (arith, one, times-next s.handle t list)
      | inr fails ↦ let e = rw (none, fails) at is in cc
    ]
  ]

  one_alone : (b : Bool) (n : ℕ) → one_if b + n ≤ 1 → 1 ≤ n → b ≡ false
  one_alone true n few some = absurd (omega (arith, few, some))
  one_alone false n few some = refl

  -- where a handle stands once, what follows the last that passes begins with it
  from_alone : (list : List Seen) (s : Seen) → last_by test list ≡ Some s → times s.handle list ≤ 1 → from_handle (Some s.handle) list ≡ from_last test list
  from_alone [] s is once = cc
  from_alone (t ∷ list) s is once = elim (cases_Bool (list_any test list)) [
    | inl later ↦
        let inner = sym (ap (λ (b : Bool). if b then last_by test list else if test t then Some t else None) later) ∙ is in
        let other : is_own s.handle t ≡ false = one_alone (is_own s.handle t) (times s.handle list) (omega (arith, times-next s.handle t list, once)) (is_among list s inner) in
        rw (other, later) (from_alone list s inner (omega (arith, times-next s.handle t list, once)))
    | inr none ↦ elim (cases_Bool (test t)) [
      | inl passes ↦
          let same : t ≡ s = let e = rw (none, passes) at is in cc in
          let own : is_own s.handle t ≡ true = own_cover t s passes same in
          rw (own, none) refl
      | inr fails ↦ let e = rw (none, fails) at is in cc
    ]
  ]

  none_passes : (list : List Seen) → last_by test list ≡ None → from_last test list ≡ list
  none_passes list is = go (list_any test list) refl where
    go : (any : Bool) → list_any test list ≡ any → from_last test list ≡ list
    go true any = let some = (any_last list any).1 in let two : Some (any_last list any).0 ≡ None = sym some ∙ is in cc
    go false none = from_last-none test list none

pub remembered_is_last : RememberedIsLast
remembered_is_last scene part = remembers scene part (painted scene) None ∙ or_none scene part (last_by (is_cover scene part) (painted scene))

pub waited_is_uncovered : WaitedIsUncovered
waited_is_uncovered scene part showable = go (last_by (is_cover scene part) (painted scene)) refl where
  go : (found : Option Seen) → last_by (is_cover scene part) (painted scene) ≡ found → from_handle (cover scene part) (painted scene) ≡ uncovered scene part
  go None e = rw e (sym (none_passes scene part (painted scene) e))
  go (Some s) e = rw e (from_alone scene part (painted scene) s e (painted_once scene s.handle showable))
