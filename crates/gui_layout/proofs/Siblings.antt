-- A child that is changed alone, and its parent.
use Rattle.std.proofs.Common.{◌≡◌, ◌∙◌, ◌<◌, ◌+◌, ◌⊎◌, refl, sym, ap, subst, ℕ, Bool, true, false, cond, eqb, eq-eqb, [], ◌∷◌, Option, Some, None, inl, inr, arith}
use Rattle.std.proofs.lemmas.Bool.{cases_Bool, both_ways, eqb-true, false_from_ne_true, false≢true, or_left, or_right}
use Rattle.gui_base.specs.Forest.{Forest, Empty, Tree, StandsOnce, children_of, has, parent_by, parent_of, tree_at}
use Rattle.gui_base.specs.declared.Handle.{Handle}
use Rattle.gui_tree.proofs.Below.{own_tree}
use Rattle.gui_tree.proofs.Parts.{IsDistinct, distinct_once}
use Rattle.gui_tree.proofs.Paths.{children_gone}
use Rattle.layout_defs.specs.Boxes.{Box}
use Rattle.scene_defs.specs.Scene.{Scene, handles_of}
use Rattle.gui_layout.specs.declared.places.Places.{Places}
use Rattle.gui_boxes.specs.Around.{IsFlatWithout, flat_of, without}
use Rattle.gui_boxes.specs.Listing.{times}
use Rattle.gui_layout.specs.Marked.{is_root}
use Rattle.gui_layout.specs.Scenes.{scene_box}
use Rattle.gui_layout.specs.SettledBut.{AreRightBut, AreRightButChanged, nobody}
use Rattle.gui_layout.specs.Solved.{layout_of}
use Rattle.gui_layout.specs.Tops.{ScrollsAt, in_trees_at}
use Rattle.gui_layout.proofs.Overs.{kid-top, root-in}
use Rattle.gui_boxes.proofs.InTrees.{tree-there}
use Rattle.gui_layout.proofs.Settling.{is_at, parent-in, parent-out}
use Rattle.gui_layout.proofs.Without.{flat-alike, left-root}

-- One handle alone.
pub one-times : (h : Handle) → 0 < times (h ∷ []) h.0
one-times h = let one : times (h ∷ []) h.0 ≡ 1 + 0 = ap (λ b. cond b 1 0 + 0) (eq-eqb h.0 h.0 refl) in omega (arith, one)

pub one-only : (h : Handle) (j : ℕ) → 0 < times (h ∷ []) j → h.0 ≡ j
one-only h j some = elim (cases_Bool (eqb h.0 j)) [
  | inl is ↦ eqb-true h.0 j is
  | inr isnt ↦ absurd (let none : times (h ∷ []) j ≡ 0 = ap (λ b. cond b 1 0 + 0) isnt in omega (arith, none, some))
]

-- A child of its parent.
with-kids : (j k : ℕ) (f : Forest ℕ) → is_root j (children_of f k) ≡ true → has f k ≡ true
with-kids j k f kid = elim (cases_Bool (has f k)) [
  | inl there ↦ there
  | inr gone ↦ absurd (false≢true (ap (is_root j) (sym (children_gone f k gone)) ∙ kid))
]

other-top : (t j : ℕ) (f : Forest ℕ) → has f t ≡ false → has f j ≡ true → eqb t j ≡ false
other-top t j f out there = false_from_ne_true (eqb t j) (λ e. both_ways (has f t) out (subst (λ i. has f i ≡ true) (sym (eqb-true t j e)) there))

parent-kid : (j k : ℕ) (above : Option ℕ) (f : Forest ℕ) → IsDistinct f → parent_by (is_at j) above f ≡ Some k → ((above ≡ Some k) × (is_root j f ≡ true)) ⊎ (is_root j (children_of f k) ≡ true)
parent-kid j k above Empty distinct is = cc
parent-kid j k above (Tree t cs rest) distinct is = elim (cases_Bool (eqb t j)) [
  | inl top ↦ inl (rw top at is, or_left (eqb t j) (is_root j rest) top)
  | inr lower ↦ elim (cases_Bool (has cs j)) [
    | inl inner ↦ elim (parent-kid j k (Some t) cs distinct.3 (rw (lower, inner) at is)) [
      | inl here ↦
          let same : t ≡ k = let e = here.0 in cc in
          let at_k : eqb t k ≡ true = eq-eqb t k same in
          inr (rw at_k here.1)
      | inr deep ↦
          let below : has cs k ≡ true = with-kids j k cs deep in
          let other : eqb t k ≡ false = other-top t k cs distinct.1 below in
          inr (rw (other, below) deep)
    ]
    | inr out ↦ elim (parent-kid j k above rest distinct.4 (rw (lower, out) at is)) [
      | inl here ↦ inl (here.0, or_right (eqb t j) (is_root j rest) here.1)
      | inr late ↦
          let later : has rest k ≡ true = with-kids j k rest late in
          let other : eqb t k ≡ false = other-top t k rest distinct.2 later in
          let off : has cs k ≡ false = false_from_ne_true (has cs k) (λ i. both_ways (has rest k) (distinct.0 k i) later) in
          inr (rw (other, off) late)
    ]
  ]
]

none-above : {k : ℕ} → None ≡ Some k → ⊥
none-above e = cc

pub parent-child : (f : Forest ℕ) (j k : ℕ) → StandsOnce f → parent_of f j ≡ Some k → is_root j (children_of f k) ≡ true
parent-child f j k once is = elim (parent-kid j k None f (distinct_once f once) is) [
  | inl here ↦ absurd (none-above here.0)
  | inr child ↦ child
]

-- what lies around a child that has this parent
pub record StandsIn (f : Forest ℕ) (u q : ℕ) : Type 0 where
  pub out : has (tree_at f u) q ≡ false
  pub inside : (k : ℕ) → has (tree_at f u) k ≡ true → has (tree_at f q) k ≡ true
  pub there : has f q ≡ true
  pub other : eqb q u ≡ false

pub around : (f : Forest ℕ) (u q : ℕ) → StandsOnce f → has f u ≡ true → parent_of f u ≡ Some q → StandsIn f u q
around f u q once is up =
    let distinct = distinct_once f once in
    let out = parent-out u q None f distinct is up (λ e. absurd (none-above e)) in
    record {
      out = out;
      inside = inside;
      there = tree-there q u f (inside u (own_tree f u is));
      other = false_from_ne_true (eqb q u) (λ e. both_ways (has (tree_at f u) q) out (subst (λ j. has (tree_at f u) j ≡ true) (sym (eqb-true q u e)) (own_tree f u is)));
    }
  where
    inside : (k : ℕ) → has (tree_at f u) k ≡ true → has (tree_at f q) k ≡ true
    inside k i = elim (parent-in u q k None f (distinct_once f once) i up) [ inl e ↦ absurd (none-above e) | inr j ↦ j ]

-- Where it alone is solved, its siblings reach as far as they did.
pub without-kept : (scene : Scene) (old mid : Places) (s m c n : ℕ → Bool) (h : Handle) (q : ℕ) → StandsOnce (handles_of scene.trees) → ScrollsAt old mid scene n (h ∷ []) → has (handles_of scene.trees) h.0 ≡ true → parent_of (handles_of scene.trees) h.0 ≡ Some q →
    AreRightBut old scene s m c → AreRightButChanged mid scene s nobody → s q ≡ true → ((j : ℕ) → is_root j (children_of (handles_of scene.trees) q) ≡ true → s j ≡ true) →
    ((j : ℕ) → eqb j h.0 ≡ false → m j ≡ false) → IsFlatWithout (handles_of scene.trees) (layout_of old) h.0 q → IsFlatWithout (handles_of scene.trees) (layout_of mid) h.0 q
without-kept scene old mid s m c n h q once scrolls is up was now looked kids_looked un left =
    let f = handles_of scene.trees in
    let at = around f h.0 q once is up in
    let beside : (j : ℕ) → has (tree_at f h.0) j ≡ false → in_trees_at f (h ∷ []) j ≡ false = λ j out. rw out refl in
    let was_box = was.boxes q at.there looked (un q at.other) in
    let now_box = now.boxes q at.there looked refl in
    let kid : (j : ℕ) → is_root j (without h.0 (children_of f q)) ≡ true → (is_root j (children_of f q) ≡ true) × (eqb j h.0 ≡ false) = left-root h.0 (children_of f q) in
    let in_f : (j : ℕ) → is_root j (without h.0 (children_of f q)) ≡ true → has f j ≡ true = λ j i. root-in f j q (kid j i).0 in
    let out : (j : ℕ) → is_root j (without h.0 (children_of f q)) ≡ true → has (tree_at f h.0) j ≡ false =
    λ j i. false_from_ne_true (has (tree_at f h.0) j) (λ e. both_ways (eqb j h.0) (kid j i).1 (eq-eqb j h.0 (sym (kid-top f h.0 j q (distinct_once f once) (kid j i).0 e at.out)))) in
    let same : flat_of (layout_of mid) q (without h.0 (children_of f q)) ≡ flat_of (layout_of old) q (without h.0 (children_of f q)) =
    flat-alike (scene_box scene) (layout_of old) (layout_of mid) q (without h.0 (children_of f q)) was_box now_box (scrolls.known q at.there (beside q at.out))
    (λ j i. was.boxes j (in_f j i) (kids_looked j (kid j i).0) (un j (kid j i).1)) (λ j i. now.boxes j (in_f j i) (kids_looked j (kid j i).0) refl) (λ j i. scrolls.known j (in_f j i) (beside j (out j i))) in
    record {
      still = ap (λ (b : Box). b.scrollable) now_box ∙ (sym (ap (λ (b : Box). b.scrollable) was_box) ∙ left.still);
      read = scrolls.kept q at.there (beside q at.out) ∙ (left.read ∙ sym same);
    }
