-- A tree is solved, and its marks are let go: what is left is ready as before.
use Rattle.std.proofs.Common.{◌≡◌, ◌∙◌, refl, sym, ap, subst, ℕ, Bool, true, false, eqb, eq-eqb, ◌||◌, ◌⊎◌, inl, inr, Option, Some, None, List, ◌∷◌}
use Rattle.std.proofs.lemmas.Bool.{both_ways, cases_Bool, eqb-true, false≢true, false_from_ne_true, or_cases, or_left, or_right}
use Rattle.gui_base.specs.Forest.{Forest, Empty, Tree, StandsOnce, children_of, has, has_by, map_forest, parent_by, parent_of, roots, tree_at}
use Rattle.gui_tree.proofs.Below.{own_tree}
use Rattle.gui_tree.proofs.Parts.{IsDistinct, distinct_once}
use Rattle.layout_defs.specs.Boxes.{Box}
use Rattle.gui_boxes.specs.Scrolls.{scrolled_at}
use Rattle.gui_boxes.specs.Settled.{Known, Layout, known_at}
use Rattle.gui_boxes.specs.Touched.{is_touched}
use Rattle.gui_boxes.proofs.InTrees.{tree-in, tree-there}
use Rattle.gui_layout.specs.Calm.{IsClosedUp, IsReady, MovesTouched}
use Rattle.gui_layout.specs.Marked.{AllFitBut, is_root, marked_trees}
use Rattle.gui_layout.specs.Scrolled.{IsScrolledIn, scrolled_known}
use Rattle.gui_layout.proofs.Marking.{marked-has}
use Rattle.gui_layout.proofs.Overs.{kid-parent, root-in}
use Rattle.gui_layout.proofs.Settling.{parent-in}

-- a parent that is there is above all of them or one of them
parent-there : (k p : ℕ) (above : Option ℕ) (f : Forest ℕ) → IsDistinct f → has f k ≡ true → parent_by (λ j. eqb j k) above f ≡ Some p → (above ≡ Some p) ⊎ (has f p ≡ true)
parent-there k p above f distinct is parent =
    let step : (above ≡ Some p) ⊎ (has (tree_at f p) k ≡ true) = parent-in k p k above f distinct (own_tree f k is) parent in
    elim step [ inl e ↦ inl e | inr i ↦ inr (tree-there p k f i) ]

-- what stands above an object of the marked trees is one of theirs
pub marked-up : (w : ℕ → Bool) (k p : ℕ) (g : Forest ℕ) → IsDistinct g → has g k ≡ true → has (marked_trees w g) k ≡ true → parent_by (λ j. eqb j k) None g ≡ Some p → has (marked_trees w g) p ≡ true
marked-up w k p Empty distinct there is up = absurd (false≢true there)
marked-up w k p (Tree t cs rest) distinct there is up = elim (cases_Bool (eqb t k)) [
  | inl top ↦ absurd (no_parent (rw top at up))
  | inr other ↦ elim (cases_Bool (has cs k)) [
    | inl low ↦ elim (cases_Bool (w t || has_by w cs)) [
      | inl some ↦
          let parent : parent_by (λ j. eqb j k) (Some t) cs ≡ Some p = rw (other, low) at up in
          let above : (Some t ≡ Some p) ⊎ (has cs p ≡ true) = parent-there k p (Some t) cs distinct.3 low parent in
          rw some (elim above [ inl e ↦ or_left _ _ (eq-eqb t p (same e)) | inr i ↦ or_right _ _ (or_left _ _ i) ])
      | inr none ↦ absurd (both_ways (has rest k) (distinct.0 k low) (marked-has w k rest (rw none at is)))
    ]
    | inr out ↦
        let beside : has rest k ≡ true = rw (other, out) at there in
        let parent : parent_by (λ j. eqb j k) None rest ≡ Some p = rw (other, out) at up in
        elim (cases_Bool (w t || has_by w cs)) [
          | inl some ↦
              let inner : has (Tree t cs (marked_trees w rest)) k ≡ true = rw some at is in
              let later : has (marked_trees w rest) k ≡ true = rw (other, out) at inner in
              rw some (or_right _ _ (or_right _ _ (marked-up w k p rest distinct.4 beside later parent)))
          | inr none ↦ rw none (marked-up w k p rest distinct.4 beside (rw none at is) parent)
        ]
  ]
]
  where
    no_parent : None ≡ Some p → ⊥
    no_parent e = cc

    same : Some t ≡ Some p → t ≡ p
    same e = cc

-- a child of an object of a tree lies in it
pub child-in : (u k p : ℕ) (above : Option ℕ) (f : Forest ℕ) → IsDistinct f → has f k ≡ true → parent_by (λ j. eqb j k) above f ≡ Some p → has (tree_at f u) p ≡ true → (above ≡ Some p → has f p ≡ false) → has (tree_at f u) k ≡ true
child-in u k p above Empty distinct is parent inside out = absurd (false≢true is)
child-in u k p above (Tree h cs rest) distinct is parent inside out =
    let there : has (Tree h cs rest) p ≡ true = tree-in u p (Tree h cs rest) inside in
    elim (cases_Bool (eqb h k)) [
      | inl top ↦ absurd (both_ways (has (Tree h cs rest) p) (out (rw top at parent)) there)
      | inr other ↦ elim (cases_Bool (has cs k)) [
        | inl low ↦
            let up : parent_by (λ j. eqb j k) (Some h) cs ≡ Some p = rw (other, low) at parent in
            let below_out : Some h ≡ Some p → has cs p ≡ false = λ e. let same : h ≡ p = cc in subst (λ m. has cs m ≡ false) same distinct.1 in
            elim (cases_Bool (eqb h u)) [
              | inl own ↦ rw own (or_right (eqb h k) _ (or_left (has cs k) _ low))
              | inr isnt ↦ elim (cases_Bool (has cs u)) [
                | inl deep ↦ rw (isnt, deep) (child-in u k p (Some h) cs distinct.3 low up (rw (isnt, deep) at inside) below_out)
                | inr away ↦
                    let far : has rest p ≡ true = tree-in u p rest (rw (isnt, away) at inside) in
                    let step : (Some h ≡ Some p) ⊎ (has cs p ≡ true) = parent-there k p (Some h) cs distinct.3 low up in
                    elim step [
                      | inl e ↦ let same : h ≡ p = cc in absurd (both_ways (has rest p) (subst (λ m. has rest m ≡ false) same distinct.2) far)
                      | inr i ↦ absurd (both_ways (has rest p) (distinct.0 p i) far)
                    ]
              ]
            ]
        | inr gone ↦
            let later : has rest k ≡ true = rw (other, gone) at is in
            let up : parent_by (λ j. eqb j k) above rest ≡ Some p = rw (other, gone) at parent in
            let beside : has rest p ≡ true =
            (let step : (above ≡ Some p) ⊎ (has rest p ≡ true) = parent-there k p above rest distinct.4 later up in
            elim step [ inl e ↦ absurd (both_ways (has (Tree h cs rest) p) (out e) there) | inr i ↦ i ]) in
            elim (cases_Bool (eqb h u)) [
              | inl own ↦
                  let within : (eqb h p ≡ true) ⊎ ((has cs p || false) ≡ true) = or_cases (eqb h p) (has cs p || false) (rw own at inside) in
                  elim within [
                    | inl e ↦ absurd (both_ways (has rest p) (subst (λ m. has rest m ≡ false) (eqb-true h p e) distinct.2) beside)
                    | inr low ↦
                        let inner : (has cs p ≡ true) ⊎ (false ≡ true) = or_cases (has cs p) false low in
                        elim inner [ inl i ↦ absurd (both_ways (has rest p) (distinct.0 p i) beside) | inr i ↦ absurd (false≢true i) ]
                  ]
              | inr isnt ↦ elim (cases_Bool (has cs u)) [
                | inl deep ↦ absurd (both_ways (has rest p) (distinct.0 p (tree-in u p cs (rw (isnt, deep) at inside))) beside)
                | inr away ↦ rw (isnt, away) (child-in u k p above rest distinct.4 later up (rw (isnt, away) at inside) (λ e. absurd (both_ways (has (Tree h cs rest) p) (out e) there)))
              ]
            ]
      ]
    ]

roots-same : (a b : ℕ → Known) (g : Forest ℕ) → ((j : ℕ) → is_root j g ≡ true → b j ≡ a j) → roots (map_forest b g) ≡ roots (map_forest a g)
roots-same a b Empty same = refl
roots-same a b (Tree h cs rest) same =
    ap (λ (k : Known). k ∷ roots (map_forest b rest)) (same h (or_left _ _ (eq-eqb h h refl))) ∙ ap (λ (ks : List Known). a h ∷ ks) (roots-same a b rest (λ j i. same j (or_right _ _ i)))

-- where what is known of an object and of its children is the same, it is told as right how far it scrolls them
scrolled-same : (a b : Layout) (box : ℕ → Box) (f : Forest ℕ) (k : ℕ) → known_at box b k ≡ known_at box a k → scrolled_at b.scrolls k ≡ scrolled_at a.scrolls k → ((j : ℕ) → is_root j (children_of f k) ≡ true → known_at box b j ≡ known_at box a j) →
    IsScrolledIn (known_at box a) a.scrolls f k → IsScrolledIn (known_at box b) b.scrolls f k
scrolled-same a b box f k own stays kids is =
    stays
    ∙ (is ∙ (ap (λ (w : Known). scrolled_known w (roots (map_forest (known_at box a) (children_of f k)))) (sym own)
    ∙ ap (scrolled_known (known_at box b k)) (sym (roots-same (known_at box a) (known_at box b) (children_of f k) kids))))

module _ (box : ℕ → Box) (f : Forest ℕ) (once : StandsOnce f) (a b : Layout) (s r m n : ℕ → Bool) (u : ℕ) (moves : MovesTouched box a b (tree_at f u)) (top : is_touched a u ≡ true)
    (closed : (t : ℕ → Bool) → IsClosedUp f t (is_touched a) → IsClosedUp f t (is_touched b)) (own : (k : ℕ) → has (tree_at f u) k ≡ true → n k ≡ false)
    (others : (k : ℕ) → has (tree_at f u) k ≡ false → n k ≡ m k) (fewer : (k : ℕ) → r k ≡ true → s k ≡ true)
    (lower : (j k : ℕ) → s k ≡ true → is_root j (children_of f k) ≡ true → s j ≡ true) where
  distinct : IsDistinct f
  distinct = distinct_once f once

  -- what is not touched was not
  before : (k : ℕ) → is_touched b k ≡ false → is_touched a k ≡ false
  before k none = false_from_ne_true (is_touched a k) (λ is. false≢true (sym none ∙ moves.more k is))

  pub ready-then : IsReady box a f s m → AllFitBut r n (known_at box b) f → ((k : ℕ) → has (tree_at f u) k ≡ true → IsScrolledIn (known_at box b) b.scrolls f k) → IsReady box b f r n
  ready-then was fit scrolled = record {
    fit = fit;
    closed = λ k p there looked is parent. closed s was.closed k p there (fewer k looked) is parent;
    marked = λ k there is.
        let out : has (tree_at f u) k ≡ false = false_from_ne_true (has (tree_at f u) k) (λ i. false≢true (sym (own k i) ∙ is)) in
        moves.more k (was.marked k there (sym (others k out) ∙ is));
    scrolled = λ k there looked none. elim (cases_Bool (has (tree_at f u) k)) [
      | inl i ↦ scrolled k i
      | inr out ↦ kept k there (fewer k looked) none was
    ];
  }
    where
      kept : (k : ℕ) → has f k ≡ true → s k ≡ true → is_touched b k ≡ false → IsReady box a f s m → IsScrolledIn (known_at box b) b.scrolls f k
      kept k there looked calm was =
          scrolled-same a b box f k (moves.known k calm) (moves.scrolls k calm) (λ j kid. moves.known j (kid_calm j kid)) (was.scrolled k there looked (before k calm))
        where
          kid_calm : (j : ℕ) → is_root j (children_of f k) ≡ true → is_touched b j ≡ false
          kid_calm j kid =
              let parent : parent_of f j ≡ Some k = kid-parent f None j k distinct kid in
              false_from_ne_true (is_touched b j) (λ is. false≢true (sym calm ∙ closed s was.closed j k (root-in f j k kid) (lower j k looked kid) is parent))
