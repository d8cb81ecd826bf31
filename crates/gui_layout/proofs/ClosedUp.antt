-- Touched objects below touched ones.
use Rattle.std.proofs.Common.{◌≡◌, ◌∙◌, refl, sym, ap, subst, ℕ, ◌<◌, Bool, true, false, eqb, eq-eqb, ◌&&◌, inl, inr, List, length, get_or, set, Option, Some, None}
use Rattle.std.proofs.lemmas.Bool.{and_from, and_parts, both_ways, cases_Bool, eqb-true, false≢true, false_from_ne_true, or_from, or_left, or_right}
use Rattle.std.proofs.lemmas.List.{get_or-set_other, get_or-set_same}
use Rattle.gui_base.specs.Forest.{Forest, Empty, Tree, StandsOnce, has, has_by, parent_by, parent_of, tree_at}
use Rattle.gui_tree.proofs.Parts.{IsDistinct, distinct_once, here}
use Rattle.gui_boxes.specs.Touched.{IsClosed}
use Rattle.gui_boxes.proofs.Touched.{closed_agree}
use Rattle.gui_layout.specs.Calm.{IsClosedBut, IsClosedUp}

abbrev ClosedBy : (ℕ → Bool) → Option ℕ → Forest ℕ → Type 0
ClosedBy t above f = (k p : ℕ) → has f k ≡ true → t k ≡ true → parent_by (λ j. eqb j k) above f ≡ Some p → t p ≡ true

-- all is closed where parents of touched objects are touched, and below a parent that is not nothing is
record Closes (t : ℕ → Bool) (above : Option ℕ) (f : Forest ℕ) : Type 0 where
  closed : IsClosed t f
  none : (a : ℕ) → above ≡ Some a → t a ≡ false → has_by t f ≡ false

closes : (t : ℕ → Bool) (above : Option ℕ) (f : Forest ℕ) → IsDistinct f → ClosedBy t above f → Closes t above f
closes t above Empty distinct up = record { closed = tt; none = λ a e is. refl }
closes t above (Tree h cs rest) distinct up =
    let not_top : (g : Forest ℕ) → has g h ≡ false → (k : ℕ) → has g k ≡ true → eqb h k ≡ false =
    λ g out k i. false_from_ne_true (eqb h k) (λ e. both_ways _ out (subst (λ m. has g m ≡ true) (sym (eqb-true h k e)) i)) in
    let below : ClosedBy t (Some h) cs =
    λ k p i is parent. up k p (or_right _ _ (or_left _ _ i)) is (rw (not_top cs distinct.1 k i, i) parent) in
    let beside : ClosedBy t above rest =
    λ k p i is parent. up k p (or_right _ _ (or_right _ _ i)) is (rw (not_top rest distinct.2 k i, false_from_ne_true (has cs k) (λ j. both_ways _ (distinct.0 k j) i)) parent) in
    let low = closes t (Some h) cs distinct.3 below in
    let later = closes t above rest distinct.4 beside in
    record {
      closed = (λ none. low.none h refl none, low.closed, later.closed);
      none = λ a e out.
          let top : t h ≡ false = false_from_ne_true (t h) (λ is. false≢true (sym out ∙ up h a (here h cs rest) is (rw (eq-eqb h h refl) e))) in
          or_from _ _ top (or_from _ _ (low.none h refl top) (later.none a e out));
    }

closed_all : (f : Forest ℕ) (t : ℕ → Bool) → StandsOnce f → ClosedBy t None f → IsClosed t f
closed_all f t once up = (closes t None f (distinct_once f once) up).closed

-- and so is each tree
pub closed_tree : (t : ℕ → Bool) (f : Forest ℕ) (h : ℕ) → IsClosed t f → IsClosed t (tree_at f h)
closed_tree t Empty h closed = tt
closed_tree t (Tree k cs rest) h closed = elim (cases_Bool (eqb k h)) [
  | inl is ↦ rw is (closed.0, closed.1, tt)
  | inr other ↦ elim (cases_Bool (has cs h)) [
    | inl below ↦ rw (other, below) (closed_tree t cs h closed.1)
    | inr out ↦ rw (other, out) (closed_tree t rest h closed.2)
  ]
]

-- an object is touched
module _ (ts : List Bool) (h : ℕ) (short : h < length ts) where
  abbrev pub was : ℕ → Bool
  was k = get_or ts k false

  abbrev pub now : ℕ → Bool
  now k = get_or (set ts h true) k false

  pub now_own : now h ≡ true
  now_own = get_or-set_same ts h true false short

  pub now_other : (k : ℕ) → eqb k h ≡ false → now k ≡ was k
  now_other k out = get_or-set_other ts h k true false (λ e. both_ways _ out (eq-eqb k h e))

  pub now_more : (k : ℕ) → was k ≡ true → now k ≡ true
  now_more k is = elim (cases_Bool (eqb k h)) [
    | inl same ↦ subst (λ m. now m ≡ true) (sym (eqb-true k h same)) now_own
    | inr other ↦ now_other k other ∙ is
  ]

  -- what was closed but for it is closed but for its parent
  pub now_closed : (f : Forest ℕ) (s : ℕ → Bool) → IsClosedBut f s was h → (k p : ℕ) → has f k ≡ true → s k ≡ true → now k ≡ true → parent_of f k ≡ Some p → (eqb k h ≡ true → now p ≡ true) → now p ≡ true
  now_closed f s but k p i looked is parent own = elim (cases_Bool (eqb k h)) [
    | inl same ↦ own same
    | inr other ↦ elim (cases_Bool (eqb p h)) [
      | inl top ↦ subst (λ m. now m ≡ true) (sym (eqb-true p h top)) now_own
      | inr out ↦ now_more p (but k p i looked (sym (now_other k other) ∙ is) parent out)
    ]
  ]

-- all is closed where that which was left out is touched
pub closed_own : (f : Forest ℕ) (s t : ℕ → Bool) (h : ℕ) → IsClosedBut f s t h → t h ≡ true → IsClosedUp f s t
closed_own f s t h but own k p i looked is parent = elim (cases_Bool (eqb p h)) [
  | inl top ↦ subst (λ m. t m ≡ true) (sym (eqb-true p h top)) own
  | inr out ↦ but k p i looked is parent out
]

-- A tree of which all is looked at is closed, where what is looked at holds with each object its parent.
module _ (f : Forest ℕ) (s t : ℕ → Bool) where
  abbrev both : ℕ → Bool
  both k = s k && t k

  whole : (k : ℕ) → s k ≡ true → both k ≡ t k
  whole k is = ap (λ b. b && t k) is

  both_by : ((k p : ℕ) → has f k ≡ true → s k ≡ true → parent_of f k ≡ Some p → s p ≡ true) → IsClosedUp f s t → ClosedBy both None f
  both_by higher up k p there is parent =
      let parts : (s k ≡ true) × (t k ≡ true) = and_parts (s k) (t k) is in
      and_from (s p) (t p) (higher k p there parts.0 parent) (up k p there parts.0 parts.1 parent)

  pub closed_in : (u : ℕ) → StandsOnce f → ((k p : ℕ) → has f k ≡ true → s k ≡ true → parent_of f k ≡ Some p → s p ≡ true) → IsClosedUp f s t → ((k : ℕ) → has (tree_at f u) k ≡ true → s k ≡ true) → IsClosed t (tree_at f u)
  closed_in u once higher up looked =
      closed_agree both t (tree_at f u) (λ k i. sym (whole k (looked k i))) (closed_tree both f u (closed_all f both once (both_by higher up)))
