-- What keeps its order where trees are edited.
use Rattle.std.proofs.Common.{◌≡◌, ◌∙◌, sym, ap, ℕ, zero, suc, Bool, true, false, cond, eqb, ◌||◌, List, [], ◌∷◌, ◌++◌, append_assoc, refl, arith, inl, inr, eq-eqb}
use Rattle.std.specs.List.{filter}
use Rattle.std.proofs.lemmas.Bool.{cases_Bool, or_left, or_right, eqb-true}
use Rattle.std.proofs.lemmas.Bool.Decides.{nat_tests}
use Rattle.std.proofs.lemmas.List.Elements.{filter-append}
use Rattle.gui_base.specs.Forest.{Forest, Empty, Tree, and_then, put_at, leaf, cut_by, tree_by, with_children_by, added_by, moved_by, moved_last_by}
use Rattle.scene_defs.specs.Scene.{Object, is_at, handles_of}
use Rattle.scene_defs.specs.Shown.{Entry, own, bars_over, entries_in}
use Rattle.scene_defs.specs.Visible.{root_tree}
use Rattle.scene_defs.proofs.Distinct.{there, IsDistinct, three}
use Rattle.scene_defs.proofs.Totals.{cut-off}

-- Edits of trees, which are undone by a cut. The test tells the tree that is moved.
module _ {A : Type 0} (test : A → Bool) where
  cut-cut : (f : Forest A) → cut_by test (cut_by test f) ≡ cut_by test f
  cut-cut Empty = refl
  cut-cut (Tree row cs rest) = grind (arith, cut-cut cs, cut-cut rest)

  cut-and_then : (f g : Forest A) → cut_by test (and_then f g) ≡ and_then (cut_by test f) (cut_by test g)
  cut-and_then Empty g = refl
  cut-and_then (Tree row cs rest) g = grind (arith, cut-and_then rest g)

  then-empty : (f : Forest A) → and_then f Empty ≡ f
  then-empty Empty = refl
  then-empty (Tree row cs rest) = ap (Tree row cs) (then-empty rest)

  cut-put_at : (n : ℕ) (t f : Forest A) → cut_by test t ≡ Empty → cut_by test (put_at n t f) ≡ cut_by test f
  cut-put_at zero t f gone = cut-and_then t f ∙ ap (λ e. and_then e (cut_by test f)) gone
  cut-put_at (suc n) t Empty gone = gone
  cut-put_at (suc n) t (Tree row cs rest) gone = rw (cut-put_at n t rest gone) refl

  cut-tree : (f : Forest A) → cut_by test (tree_by test f) ≡ Empty
  cut-tree Empty = refl
  cut-tree (Tree row cs rest) = grind (arith, cut-tree cs, cut-tree rest)

  cut-children : (above : A → Bool) (g : Forest A → Forest A) → ((cs : Forest A) → cut_by test (g cs) ≡ cut_by test cs) → (f : Forest A) → cut_by test (with_children_by above g f) ≡ cut_by test f
  cut-children above g same Empty = refl
  cut-children above g same (Tree row cs rest) = grind (arith, same cs, cut-children above g same cs, cut-children above g same rest)

  -- what is added last
  pub cut-last : (f : Forest A) (row : A) → test row ≡ true → cut_by test (and_then f (leaf row)) ≡ cut_by test f
  cut-last f row is = cut-and_then f (leaf row) ∙ rw is (then-empty (cut_by test f))

  pub cut-added : (above : A → Bool) (row : A) (f : Forest A) → test row ≡ true → cut_by test (added_by above row f) ≡ cut_by test f
  cut-added above row f is = cut-children above (λ cs. and_then cs (leaf row)) (λ cs. cut-last cs row is) f

  pub cut-moved : (above : A → Bool) (n : ℕ) (f : Forest A) → cut_by test (moved_by test above n f) ≡ cut_by test f
  cut-moved above n f = cut-children above (put_at n (tree_by test f)) (λ cs. cut-put_at n (tree_by test f) cs (cut-tree f)) (cut_by test f) ∙ cut-cut f

  pub cut-moved_last : (above : A → Bool) (f : Forest A) → cut_by test (moved_last_by test above f) ≡ cut_by test f
  cut-moved_last above f =
      cut-children above (λ cs. and_then cs (tree_by test f)) (λ cs. cut-and_then cs (tree_by test f) ∙ ap (and_then (cut_by test cs)) (cut-tree f) ∙ then-empty (cut_by test cs)) (cut_by test f)
      ∙ cut-cut f

  pub cut-deleted : (f : Forest A) → cut_by test (cut_by test f) ≡ cut_by test f
  cut-deleted = cut-cut

-- The order of what is left: an entry goes with its object.
abbrev pub entries_of : Forest Object → List Entry
entries_of f = entries_in (handles_of f)

abbrev pub at : (ℕ → Bool) → Entry → Bool
at q e = q e.handle

pub filter-none : (q : ℕ → Bool) (f : Forest Object) → ((k : ℕ) → there f k ≡ true → q k ≡ false) → filter (at q) (entries_of f) ≡ []
filter-none q Empty none = refl
filter-none q (Tree object cs rest) none =
    let top : q object.handle ≡ false = none object.handle (or_left _ _ (eq-eqb object.handle object.handle refl)) in
    let inner = filter-none q cs (λ k i. none k (or_right _ _ (or_left _ _ i))) in
    let later = filter-none q rest (λ k i. none k (or_right _ _ (or_right _ _ i))) in
    rw (top, filter-append (at q) (entries_of cs) (bars_over object.handle ∷ entries_of rest), inner, top, later) refl

-- what is cut out is left out
filter-cut : (q : ℕ → Bool) (f : Forest Object) (h : ℕ) → IsDistinct f → ((k : ℕ) → there (tree_by (is_at h) f) k ≡ true → q k ≡ false) →
    filter (at q) (entries_of f) ≡ filter (at q) (entries_of (cut_by (is_at h) f))
filter-cut q Empty h d none = refl
filter-cut q (Tree object cs rest) h d none = elim (cases_Bool (is_at h object)) [
  | inl top ↦
      let out : there rest h ≡ false = ap (there rest) (sym (eqb-true object.handle h top)) ∙ d.2 in
      rw top (filter-top (λ k i. none k (rw top i)) ∙ ap (λ f. filter (at q) (entries_of f)) (sym (cut-off rest h out)))
  | inr lower ↦ rw lower (ap (λ es. cond (q object.handle) (own object.handle ∷ es) es) (
      filter-append (at q) (entries_of cs) (bars_over object.handle ∷ entries_of rest)
      ∙ elim (cases_Bool (there cs h)) [
        | inl below ↦
            let out = d.0 h below in
            let inner = filter-cut q cs h d.3 (λ k i. none k (rw (lower, below) i)) in
            rw (cut-off rest h out, inner) refl
        | inr beside ↦
            let later = filter-cut q rest h d.4 (λ k i. none k (rw (lower, beside) i)) in
            rw (cut-off cs h beside, later) refl
      ]
      ∙ sym (filter-append (at q) (entries_of (cut_by (is_at h) cs)) (bars_over object.handle ∷ entries_of (cut_by (is_at h) rest)))))
]
  where
    filter-top : ((k : ℕ) → (eqb object.handle k || (there cs k || false)) ≡ true → q k ≡ false) → filter (at q) (entries_of (Tree object cs rest)) ≡ filter (at q) (entries_of rest)
    filter-top none =
        let top : q object.handle ≡ false = none object.handle (or_left _ _ (eq-eqb object.handle object.handle refl)) in
        let inner = filter-none q cs (λ k i. none k (or_right _ _ (or_left _ _ i))) in
        rw (top, filter-append (at q) (entries_of cs) (bars_over object.handle ∷ entries_of rest), inner, top) refl

-- roots of what is left
root-gone : (f : Forest Object) (h : ℕ) → root_tree (cut_by (is_at h) f) h ≡ Empty
root-gone Empty h = refl
root-gone (Tree object cs rest) h = grind (arith, nat_tests, root-gone rest h)

root-cut : (f : Forest Object) (h a : ℕ) → root_tree (cut_by (is_at h) f) a ≡ cut_by (is_at h) (root_tree f a)
root-cut Empty h a = refl
root-cut (Tree object cs rest) h a = elim (cases_Bool (is_at h object)) [
  | inl is ↦ elim (cases_Bool (is_at a object)) [
    | inl top ↦
        let same : a ≡ h = sym (eqb-true _ _ top) ∙ eqb-true _ _ is in
        rw (is, top, same, root-gone rest h) (rw is refl)
    | inr below ↦ rw (is, below) (root-cut rest h a)
  ]
  | inr isnt ↦ elim (cases_Bool (is_at a object)) [
    | inl top ↦ rw (isnt, top) (rw isnt refl)
    | inr below ↦ rw (isnt, below) (root-cut rest h a)
  ]
]

three-cut : (f : Forest Object) (a h : ℕ) → three (cut_by (is_at h) f) a ≡ cut_by (is_at h) (three f a)
three-cut f a h =
    rw (
      cut-and_then (is_at h) (root_tree f a) (and_then (root_tree f 1) (root_tree f 2)),
      cut-and_then (is_at h) (root_tree f 1) (root_tree f 2),
      root-cut f h a,
      root-cut f h 1,
      root-cut f h 2,
    )
    refl

-- two forests that differ in the tree at h alone keep the order of all else
pub order-kept : (q : ℕ → Bool) (f g : Forest Object) (a h : ℕ) → IsDistinct (three f a) → IsDistinct (three g a) → cut_by (is_at h) f ≡ cut_by (is_at h) g →
    ((k : ℕ) → there (tree_by (is_at h) (three f a)) k ≡ true → q k ≡ false) →
    ((k : ℕ) → there (tree_by (is_at h) (three g a)) k ≡ true → q k ≡ false) →
    filter (at q) (entries_of (three f a)) ≡ filter (at q) (entries_of (three g a))
order-kept q f g a h df dg same first second =
    let cuts : cut_by (is_at h) (three f a) ≡ cut_by (is_at h) (three g a) = sym (three-cut f a h) ∙ ap (λ t. three t a) same ∙ three-cut g a h in
    filter-cut q (three f a) h df first ∙ ap (λ t. filter (at q) (entries_of t)) cuts ∙ sym (filter-cut q (three g a) h dg second)

pub entries-then : (f g : Forest Object) → entries_of (and_then f g) ≡ entries_of f ++ entries_of g
entries-then Empty g = refl
entries-then (Tree object cs rest) g =
    ap (λ l. own object.handle ∷ l) (ap (λ l. entries_of cs ++ (bars_over object.handle ∷ l)) (entries-then rest g)
    ∙ sym (append_assoc (entries_of cs) (bars_over object.handle ∷ entries_of rest) (entries_of g)))
