-- Closed trees some of which are let go, and objects above others.
use Rattle.std.proofs.Common.{◌≡◌, ◌∙◌, ◌<◌, ◌≤◌, refl, sym, ap, subst, ℕ, zero, suc, Bool, true, false, eqb, eq-eqb, ◌+◌, ◌⊎◌, inl, inr, List, [], ◌∷◌, cond, length, Option, Some, None, option_map, arith}
use Rattle.std.proofs.lemmas.Bool.{both_ways, cases_Bool, eqb-true, false≢true, false_from_ne_true, or_cases, or_left, or_right}
use Rattle.gui_base.specs.Forest.{Forest, StandsOnce, has, parent_of, path_of, tree_at}
use Rattle.gui_base.specs.declared.Handle.{Handle}
use Rattle.gui_tree.specs.Handles.{as_handle}
use Rattle.gui_tree.proofs.Below.{own_tree}
use Rattle.gui_tree.proofs.Parts.{distinct_once}
use Rattle.gui_boxes.specs.Listing.{times}
use Rattle.gui_boxes.specs.Touched.{IsClosed}
use Rattle.gui_layout.specs.Calm.{is_up}
use Rattle.gui_layout.specs.Moved.{AreClosed}
use Rattle.gui_layout.specs.Tops.{in_trees_at}
use Rattle.gui_layout.proofs.Climbing.{is_above, up_none, up_some}
use Rattle.gui_layout.proofs.ClosedUp.{closed_in}
use Rattle.gui_layout.proofs.Readying.{child-in}

-- each of these trees is closed
pub closed-at : (f : Forest ℕ) (t : ℕ → Bool) (us : List Handle) (u : ℕ) → StandsOnce f → AreClosed f t us → 0 < times us u → IsClosed t (tree_at f u)
closed-at f t us u once are some = closed_in f are.looked t u once are.higher are.closed (λ k i. are.inside u k some i)

-- and they are so still where one is let go
pub closed-cleared : (f : Forest ℕ) (t v : ℕ → Bool) (us : List Handle) (u : ℕ) → StandsOnce f → ((k : ℕ) → has (tree_at f u) k ≡ true → v k ≡ false) → ((k : ℕ) → has (tree_at f u) k ≡ false → v k ≡ t k) → AreClosed f t us → AreClosed f v us
closed-cleared f t v us u once cleared others are = record {
  looked = are.looked;
  inside = are.inside;
  higher = are.higher;
  closed = λ k p there seen on parent.
      let out : has (tree_at f u) k ≡ false = false_from_ne_true (has (tree_at f u) k) (λ i. false≢true (sym (cleared k i) ∙ on)) in
      let up : t p ≡ true = are.closed k p there seen (sym (others k out) ∙ on) parent in
      let away : has (tree_at f u) p ≡ false = false_from_ne_true (has (tree_at f u) p) (λ i. both_ways (has (tree_at f u) k) out (child-in u k p None f (distinct_once f once) there parent i (λ e. absurd (no_parent p e)))) in
      others p away ∙ up;
}
  where
    no_parent : (p : ℕ) → None ≡ Some p → ⊥
    no_parent p e = cc

-- one of these trees, in which an object lies
pub record InTree (f : Forest ℕ) (us : List Handle) (k : ℕ) : Type 0 where
  pub top : ℕ
  pub listed : 0 < times us top
  pub inside : has (tree_at f top) k ≡ true

pub tree-of : (f : Forest ℕ) (us : List Handle) (k : ℕ) → in_trees_at f us k ≡ true → InTree f us k
tree-of f [] k is = absurd (false≢true is)
tree-of f (u ∷ us) k is = elim (or_cases (has (tree_at f u.0) k) (in_trees_at f us k) is) [
  | inl own ↦ record {
    top = u.0;
    listed = let first : times (u ∷ us) u.0 ≡ 1 + times us u.0 = ap (λ b. cond b 1 0 + times us u.0) (eq-eqb u.0 u.0 refl) in omega arith;
    inside = own;
  }
  | inr later ↦
      let o = tree-of f us k later in
      record { top = o.top; listed = let some = o.listed in omega arith; inside = o.inside }
]

pub in-tree : (f : Forest ℕ) (us : List Handle) (u k : ℕ) → 0 < times us u → has (tree_at f u) k ≡ true → in_trees_at f us k ≡ true
in-tree f [] u k some i = absurd (omega arith)
in-tree f (v ∷ us) u k some i = elim (cases_Bool (eqb v.0 u)) [
  | inl is ↦ or_left (has (tree_at f v.0) k) (in_trees_at f us k) (subst (λ j. has (tree_at f j) k ≡ true) (sym (eqb-true v.0 u is)) i)
  | inr isnt ↦
      let same : times (v ∷ us) u ≡ 0 + times us u = ap (λ b. cond b 1 0 + times us u) isnt in
      or_right (has (tree_at f v.0) k) (in_trees_at f us k) (in-tree f us u k (omega arith) i)
]

no_parent : (p : ℕ) → None ≡ Some p → ⊥
no_parent p e = cc

-- an object lies in the tree of each that stands above it
up-within : (n : ℕ) (f : Forest ℕ) (h k : ℕ) (o : Option ℕ) → parent_of f h ≡ o → length (path_of f h) ≤ n → StandsOnce f → has f h ≡ true → is_up f k h ≡ true → has (tree_at f k) h ≡ true
up-within n f h k None none few once is up =
    let same : eqb h k ≡ true = up_none f h k once is (sym (ap (option_map as_handle) none)) up in
    subst (λ j. has (tree_at f j) h ≡ true) (eqb-true h k same) (own_tree f h is)
up-within zero f h k (Some p) some few once is up =
    let above = is_above f h (as_handle p) once is (sym (ap (option_map as_handle) some)) in
    let higher = above.higher in
    absurd (omega arith)
up-within (suc m) f h k (Some p) some few once is up =
    let step = sym (ap (option_map as_handle) some) in
    let above = is_above f h (as_handle p) once is step in
    let higher = above.higher in
    let shorter : length (path_of f p) ≤ m = omega (arith, higher, few) in
    let either : (eqb h k ≡ true) ⊎ (is_up f k p ≡ true) = or_cases (eqb h k) (is_up f k p) (sym (up_some f h k (as_handle p) once is step) ∙ up) in
    elim either [
      | inl same ↦ subst (λ j. has (tree_at f j) h ≡ true) (eqb-true h k same) (own_tree f h is)
      | inr low ↦ child-in k h p None f (distinct_once f once) is above.parent (up-within m f p k (parent_of f p) refl shorter once above.there low) (λ e. absurd (no_parent p e))
    ]

pub up-inside : (f : Forest ℕ) (h k : ℕ) → StandsOnce f → has f h ≡ true → is_up f k h ≡ true → has (tree_at f k) h ≡ true
up-inside f h k once is up = up-within (length (path_of f h)) f h k (parent_of f h) refl (omega arith) once is up
