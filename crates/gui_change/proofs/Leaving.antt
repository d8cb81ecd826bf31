-- What is painted where a tree goes.
use Rattle.std.proofs.Common.{◌≡◌, ◌∙◌, refl, sym, ap, subst, ℕ, true, false, eqb, ◌||◌, List, [], ◌∷◌, ◌++◌, append_assoc, inl, inr, arith}
use Rattle.std.proofs.lemmas.Bool.{cases_Bool, both_ways, eqb-true, false≢true, false_from_ne_true, or_from}
use Rattle.std.proofs.lemmas.Bool.Decides.{nat_tests}
use Rattle.gui_base.specs.Forest.{Forest, Empty, Tree, StandsOnce, and_then, cut, has, tree_at}
use Rattle.gui_base.specs.declared.Handle.{Handle}
use Rattle.gui_base.proofs.Forests.{map-cut_by}
use Rattle.gui_tree.proofs.Parts.{IsDistinct, distinct_once}
use Rattle.scene_defs.specs.declared.Change.TheVariants as change
use Rattle.scene_defs.specs.Change.{scene_after}
use Rattle.scene_defs.specs.Scene.{Scene, handle_of, handles_of}
use Rattle.scene_defs.specs.Shown.{Entry as Painted, bars_over, entries, entries_in, own}
use Rattle.scene_defs.specs.Valid.{IsValid}
use Rattle.gui_change.specs.Fronts.{names}
use Rattle.gui_change.specs.Goes.{Goes, TakesOut}
use Rattle.gui_change.proofs.Fronted.{shown-handles, three_of}
use Rattle.gui_change.proofs.Fronting.{cut-off, names-append, names-entries, root-in, root_of}
use Rattle.gui_change.proofs.Orders.{shown_once}

root-none : (f : Forest ℕ) (r : ℕ) → has f r ≡ false → root_of f r ≡ Empty
root-none Empty r out = refl
root-none (Tree k cs rest) r out = grind (arith, nat_tests, out, root-none rest r)

module _ (h : ℕ) where
  -- More that is painted before and after.
  prefix : (xs old new : List Painted) → names h xs ≡ false → TakesOut h old new → TakesOut h (xs ++ old) (xs ++ new)
  prefix xs old new none g = record {
    before = xs ++ g.before;
    inside = g.inside;
    after = g.after;
    first = names-append h xs g.before ∙ or_from (names h xs) (names h g.before) none g.first;
    whole = g.whole;
    was = ap (λ es. xs ++ es) g.was ∙ sym (append_assoc xs g.before (own h ∷ (g.inside ++ (bars_over h ∷ g.after))));
    is = ap (λ es. xs ++ es) g.is ∙ sym (append_assoc xs g.before g.after);
  }

  suffix : (ys old new : List Painted) → TakesOut h old new → TakesOut h (old ++ ys) (new ++ ys)
  suffix ys old new g = record {
    before = g.before;
    inside = g.inside;
    after = g.after ++ ys;
    first = g.first;
    whole = g.whole;
    was =
        ap (λ es. es ++ ys) g.was
        ∙ (append_assoc g.before (own h ∷ (g.inside ++ (bars_over h ∷ g.after))) ys
        ∙ ap (λ es. g.before ++ (own h ∷ es)) (append_assoc g.inside (bars_over h ∷ g.after) ys));
    is = ap (λ es. es ++ ys) g.is ∙ append_assoc g.before g.after ys;
  }

  takes : (f : Forest ℕ) → IsDistinct f → has f h ≡ true → TakesOut h (entries_in f) (entries_in (cut f h))
  takes Empty d there = absurd (false≢true there)
  takes (Tree k cs rest) d there = elim (cases_Bool (eqb k h)) [
    | inl top ↦
        let same : k ≡ h = eqb-true k h top in
        let trees : cut (Tree k cs rest) h ≡ rest = rw top (cut-off rest h (subst (λ (j : ℕ). has rest j ≡ false) same d.2)) in
        record {
          before = [];
          inside = entries_in cs;
          after = entries_in rest;
          first = refl;
          whole = names-entries h cs ∙ subst (λ (j : ℕ). has cs j ≡ false) same d.1;
          was = ap (λ (j : ℕ). own j ∷ (entries_in cs ++ (bars_over j ∷ entries_in rest))) same;
          is = ap entries_in trees;
        }
    | inr lower ↦
        let own_off : names h (own k ∷ []) ≡ false = or_from (eqb k h) false lower refl in
        let bars_off : names h (bars_over k ∷ []) ≡ false = or_from (eqb k h) false lower refl in
        elim (cases_Bool (has cs h)) [
          | inl under ↦
              let trees : cut (Tree k cs rest) h ≡ Tree k (cut cs h) rest = rw lower (ap (Tree k (cut cs h)) (cut-off rest h (d.0 h under))) in
              let later = bars_over k ∷ entries_in rest in
              subst (λ u. TakesOut h (entries_in (Tree k cs rest)) (entries_in u)) (sym trees)
              (prefix (own k ∷ []) (entries_in cs ++ later) (entries_in (cut cs h) ++ later) own_off (suffix later (entries_in cs) (entries_in (cut cs h)) (takes cs d.3 under)))
          | inr off ↦
              let late : has rest h ≡ true = rw (lower, off) at there in
              let trees : cut (Tree k cs rest) h ≡ Tree k cs (cut rest h) = rw lower (ap (λ u. Tree k u (cut rest h)) (cut-off cs h off)) in
              let new = entries_in (cut rest h) in
              subst (λ u. TakesOut h (entries_in (Tree k cs rest)) (entries_in u)) (sym trees)
              (prefix (own k ∷ []) (entries_in cs ++ (bars_over k ∷ entries_in rest)) (entries_in cs ++ (bars_over k ∷ new)) own_off
              (prefix (entries_in cs) (bars_over k ∷ entries_in rest) (bars_over k ∷ new) (names-entries h cs ∙ off)
              (prefix (bars_over k ∷ []) (entries_in rest) new bars_off (takes rest d.4 late))))
        ]
  ]

  -- it goes from any of some trees
  pub goes : (f : Forest ℕ) → IsDistinct f → Goes h (entries_in f) (entries_in (cut f h))
  goes f d = elim (cases_Bool (has f h)) [
    | inl there ↦ inr (takes f d there)
    | inr off ↦ inl (record { none = names-entries h f ∙ off; same = ap entries_in (cut-off f h off) })
  ]

  -- one after another
  cut-and_then : (a b : Forest ℕ) → cut (and_then a b) h ≡ and_then (cut a h) (cut b h)
  cut-and_then Empty b = refl
  cut-and_then (Tree k cs rest) b = elim (cases_Bool (eqb k h)) [
    | inl top ↦ rw top (cut-and_then rest b)
    | inr lower ↦ rw lower (ap (Tree k (cut cs h)) (cut-and_then rest b))
  ]

  root-cut : (f : Forest ℕ) (r : ℕ) → IsDistinct f → root_of (cut f h) r ≡ cut (root_of f r) h
  root-cut Empty r d = refl
  root-cut (Tree k cs rest) r d = elim (cases_Bool (eqb k h)) [
    | inl top ↦
        let out : has rest h ≡ false = subst (λ (j : ℕ). has rest j ≡ false) (eqb-true k h top) d.2 in
        elim (cases_Bool (eqb k r)) [
          | inl same ↦
              let none : has rest r ≡ false = subst (λ (j : ℕ). has rest j ≡ false) (eqb-true k r same) d.2 in
              rw (top, same) (rw top (ap (λ u. root_of u r) (cut-off rest h out) ∙ root-none rest r none))
          | inr other ↦ rw (top, other) (ap (λ u. root_of u r) (cut-off rest h out) ∙ sym (cut-off (root_of rest r) h (root-in rest r h out)))
        ]
    | inr lower ↦ elim (cases_Bool (eqb k r)) [
      | inl same ↦ rw (lower, same) (rw lower refl)
      | inr other ↦ rw (lower, other) (root-cut rest r d.4)
    ]
  ]

  -- so it is with the trees that are shown
  pub three-cut : (f : Forest ℕ) (a : ℕ) → IsDistinct f → three_of (cut f h) a ≡ cut (three_of f a) h
  three-cut f a d =
      let x = root_of f a in
      let y = root_of f 1 in
      let z = root_of f 2 in
      rw (root-cut f a d, root-cut f 1 d, root-cut f 2 d)
      (ap (and_then (cut x h)) (sym (cut-and_then y z)) ∙ sym (cut-and_then x (and_then y z)))

-- nothing of the tree at h is left
tree-in : (f : Forest ℕ) (h k : ℕ) → has (tree_at f h) k ≡ true → (has f h ≡ true) × (has f k ≡ true)
tree-in Empty h k is = cc
tree-in (Tree j cs rest) h k is = grind (arith, nat_tests, is, tree-in cs h k, tree-in rest h k)

pub cut-apart : (f : Forest ℕ) (h k : ℕ) → IsDistinct f → has (tree_at f h) k ≡ true → has (cut f h) k ≡ false
cut-apart Empty h k d is = refl
cut-apart (Tree j cs rest) h k d is = elim (cases_Bool (eqb j h)) [
  | inl top ↦
      let out : has rest h ≡ false = subst (λ (i : ℕ). has rest i ≡ false) (eqb-true j h top) d.2 in
      let own : has (Tree j cs Empty) k ≡ true = rw top at is in
      rw top (ap (λ u. has u k) (cut-off rest h out) ∙ grind (arith, nat_tests, own, d.0 k, d.2))
  | inr lower ↦ elim (cases_Bool (has cs h)) [
    | inl under ↦
        let part : has (tree_at cs h) k ≡ true = rw (lower, under) at is in
        let inner : has cs k ≡ true = (tree-in cs h k part).1 in
        let here = cut-apart cs h k d.3 part in
        let other : eqb j k ≡ false = false_from_ne_true (eqb j k) (λ e. both_ways (has cs k) (subst (λ (i : ℕ). has cs i ≡ false) (eqb-true j k e) d.1) inner) in
        rw lower (or_from (eqb j k) (has (cut cs h) k || has (cut rest h) k) other (or_from (has (cut cs h) k) (has (cut rest h) k) here (ap (λ u. has u k) (cut-off rest h (d.0 h under)) ∙ d.0 k inner)))
    | inr off ↦
        let part : has (tree_at rest h) k ≡ true = rw (lower, off) at is in
        let inner : has rest k ≡ true = (tree-in rest h k part).1 in
        let here = cut-apart rest h k d.4 part in
        let other : eqb j k ≡ false = false_from_ne_true (eqb j k) (λ e. both_ways (has rest k) (subst (λ (i : ℕ). has rest i ≡ false) (eqb-true j k e) d.2) inner) in
        let out : has cs k ≡ false = false_from_ne_true (has cs k) (λ i. both_ways (has rest k) (d.0 k i) inner) in
        rw lower (or_from (eqb j k) (has (cut cs h) k || has (cut rest h) k) other (or_from (has (cut cs h) k) (has (cut rest h) k) (ap (λ u. has u k) (cut-off cs h off) ∙ out) here))
  ]
]

-- What is painted after a change by which a tree went.
module _ (scene : Scene) (valid : IsValid scene) (h : Handle) where
  abbrev after : Scene
  after = scene_after scene (change.Delete h)

  pub trees-cut : handles_of after.trees ≡ cut (handles_of scene.trees) h.0
  trees-cut = map-cut_by handle_of (λ j. eqb j h.0) scene.trees

  pub entries-left : Goes h.0 (entries scene) (entries after)
  entries-left =
      let f = handles_of scene.trees in
      let t = three_of f scene.active in
      let once : StandsOnce t = subst StandsOnce (shown-handles scene) (shown_once scene valid) in
      let old : entries scene ≡ entries_in t = ap entries_in (shown-handles scene) in
      let new : entries after ≡ entries_in (cut t h.0) =
      ap entries_in (shown-handles after)
      ∙ (ap (λ (u : Forest ℕ). entries_in (three_of u scene.active)) trees-cut
      ∙ ap entries_in (three-cut h.0 f scene.active (distinct_once f valid.trees.once))) in
      subst (λ es. Goes h.0 es (entries after)) (sym old) (subst (λ es. Goes h.0 (entries_in t) es) (sym new) (goes h.0 t (distinct_once t once)))
