-- What is touched while trees are solved one after another.
use Rattle.std.proofs.Common.{◌≡◌, ◌∙◌, ◌++◌, refl, sym, ap, subst, ℕ, Bool, true, false, eqb, ◌||◌, ◌⊎◌, inl, inr, List, [], ◌∷◌, Option, Some, None, arith}
use Rattle.std.proofs.lemmas.Bool.{both_ways, cases_Bool, eqb-true, false≢true, false_from_ne_true, or_cases, or_left}
use Rattle.gui_base.specs.Forest.{Forest, Empty, Tree, StandsOnce, has, parent_by, tree_at}
use Rattle.gui_base.specs.declared.Handle.{Handle}
use Rattle.gui_tree.proofs.Parts.{IsDistinct, distinct_once}
use Rattle.layout_defs.specs.Boxes.{Box}
use Rattle.gui_boxes.specs.Settled.{Known, Layout, known_at}
use Rattle.gui_boxes.specs.Scrolls.{Scrolled, scrolled_at}
use Rattle.gui_boxes.specs.Standing.{Standing}
use Rattle.gui_boxes.specs.Touched.{IsClosed, is_touched, standing_at}
use Rattle.gui_boxes.proofs.InTrees.{tree-in}
use Rattle.gui_boxes.proofs.Touched.{none_in}
use Rattle.gui_layout.specs.Calm.{MovesTouched}
use Rattle.gui_layout.specs.Moved.{Propagates}
use Rattle.gui_layout.proofs.Tops.{in-first, in-second, listed-either, only-top}

-- The parent of a touched object of closed trees is touched, or stands above all of them.
up-closed : (t : ℕ → Bool) (k p : ℕ) (above : Option ℕ) (g : Forest ℕ) → IsClosed t g → has g k ≡ true → t k ≡ true → parent_by (λ j. eqb j k) above g ≡ Some p → (above ≡ Some p) ⊎ (t p ≡ true)
up-closed t k p above Empty closed i on up = absurd (false≢true i)
up-closed t k p above (Tree h cs rest) closed i on up = elim (cases_Bool (eqb h k)) [
  | inl top ↦ inl (rw top at up)
  | inr other ↦ elim (cases_Bool (has cs k)) [
    | inl low ↦
        let step : (Some h ≡ Some p) ⊎ (t p ≡ true) = up-closed t k p (Some h) cs closed.1 low on (rw (other, low) at up) in
        elim step [
          | inl e ↦
              let same : h ≡ p = cc in
              inr (elim (cases_Bool (t h)) [ inl is ↦ subst (λ j. t j ≡ true) same is | inr none ↦ absurd (false≢true (sym (none_in t cs (closed.0 none) k low) ∙ on)) ])
          | inr j ↦ inr j
        ]
    | inr out ↦ up-closed t k p above rest closed.2 (rw (other, out) at i) on (rw (other, out) at up)
  ]
]

-- in a closed tree it is touched, but for the parent of the top
tree-closed : (t : ℕ → Bool) (u k p : ℕ) (above : Option ℕ) (f : Forest ℕ) → IsDistinct f → IsClosed t (tree_at f u) → has (tree_at f u) k ≡ true → eqb u k ≡ false → t k ≡ true → parent_by (λ j. eqb j k) above f ≡ Some p → t p ≡ true
tree-closed t u k p above Empty distinct closed i other on up = absurd (false≢true i)
tree-closed t u k p above (Tree h cs rest) distinct closed i other on up = elim (cases_Bool (eqb h u)) [
  | inl top ↦
      let whole : IsClosed t (Tree h cs Empty) = rw top at closed in
      let isnt : eqb h k ≡ false = subst (λ v. eqb v k ≡ false) (sym (eqb-true h u top)) other in
      let inside : (eqb h k || (has cs k || false)) ≡ true = rw top at i in
      let within : (has cs k || false) ≡ true = rw isnt at inside in
      let either : (has cs k ≡ true) ⊎ (false ≡ true) = or_cases (has cs k) false within in
      elim either [
        | inl low ↦
            let step : (Some h ≡ Some p) ⊎ (t p ≡ true) = up-closed t k p (Some h) cs whole.1 low on (rw (isnt, low) at up) in
            elim step [
              | inl e ↦
                  let same : h ≡ p = cc in
                  elim (cases_Bool (t h)) [ inl is ↦ subst (λ j. t j ≡ true) same is | inr none ↦ absurd (false≢true (sym (none_in t cs (whole.0 none) k low) ∙ on)) ]
              | inr j ↦ j
            ]
        | inr none ↦ absurd (false≢true none)
      ]
  | inr isnt ↦ elim (cases_Bool (has cs u)) [
    | inl below ↦
        let inner : has (tree_at cs u) k ≡ true = rw (isnt, below) at i in
        let low : has cs k ≡ true = tree-in u k cs inner in
        let off : eqb h k ≡ false = false_from_ne_true (eqb h k) (λ e. both_ways (has cs h) distinct.1 (subst (λ m. has cs m ≡ true) (sym (eqb-true h k e)) low)) in
        tree-closed t u k p (Some h) cs distinct.3 (rw (isnt, below) at closed) inner other on (rw (off, low) at up)
    | inr away ↦
        let inner : has (tree_at rest u) k ≡ true = rw (isnt, away) at i in
        let beside : has rest k ≡ true = tree-in u k rest inner in
        let off : eqb h k ≡ false = false_from_ne_true (eqb h k) (λ e. both_ways (has rest h) distinct.2 (subst (λ m. has rest m ≡ true) (sym (eqb-true h k e)) beside)) in
        let out : has cs k ≡ false = false_from_ne_true (has cs k) (λ j. both_ways (has rest k) (distinct.0 k j) beside) in
        tree-closed t u k p above rest distinct.4 (rw (isnt, away) at closed) inner other on (rw (off, out) at up)
  ]
]

abbrev stood : Known → Scrolled → Standing
stood i s = record { width = i.width; slot = i.slot; scrolled = s }

-- an object of which the same is known stands as before
pub standing-same : (box : ℕ → Box) (old new : Layout) (k : ℕ) → known_at box new k ≡ known_at box old k → scrolled_at new.scrolls k ≡ scrolled_at old.scrolls k → standing_at new k ≡ standing_at old k
standing-same box old new k known scrolls =
    ap (λ (i : Known). stood i (scrolled_at new.scrolls k)) known ∙ ap (stood (known_at box old k)) scrolls

module _ (box : ℕ → Box) (f : Forest ℕ) (s : ℕ → Bool) where
  pub propagates-none : (l : Layout) → Propagates box f s l l []
  propagates-none l = record {
    more = λ k is. is;
    inside = λ k off on. absurd (false≢true (sym off ∙ on));
    closed = λ r up. up;
    known = λ k none. refl;
    scrolls = λ k none. refl;
    reported = refl;
    tops = λ u some. absurd (omega arith);
    looked = λ u k some i. absurd (omega arith);
  }

  -- one tree is solved, and its top was touched
  pub propagates-one : StandsOnce f → (a b : Layout) (u : Handle) → MovesTouched box a b (tree_at f u.0) → is_touched a u.0 ≡ true → ((k : ℕ) → has (tree_at f u.0) k ≡ true → s k ≡ true) → Propagates box f s a b (u ∷ [])
  propagates-one once a b u moves top looked = record {
    more = moves.more;
    inside = λ k off on. elim (cases_Bool (has (tree_at f u.0) k)) [
      | inl i ↦ or_left (has (tree_at f u.0) k) false i
      | inr out ↦ absurd (false≢true (sym (moves.others k out ∙ off) ∙ on))
    ];
    closed = λ r up k p there seen on parent. elim (cases_Bool (has (tree_at f u.0) k)) [
      | inl i ↦ elim (cases_Bool (eqb u.0 k)) [
        | inl is ↦ moves.more p (up k p there seen (subst (λ j. is_touched a j ≡ true) (eqb-true u.0 k is) top) parent)
        | inr other ↦ tree-closed (is_touched b) u.0 k p None f (distinct_once f once) moves.closed i other on parent
      ]
      | inr out ↦ moves.more p (up k p there seen (sym (moves.others k out) ∙ on) parent)
    ];
    known = moves.known;
    scrolls = moves.scrolls;
    reported = moves.reported;
    tops = λ j some. subst (λ i. is_touched b i ≡ true) (only-top u j some) (moves.more u.0 top);
    looked = λ j k some i. looked k (subst (λ v. has (tree_at f v) k ≡ true) (sym (only-top u j some)) i);
  }

  -- and then others are
  pub propagates-then : (r : ℕ → Bool) → ((k : ℕ) → r k ≡ true → s k ≡ true) → (a b c : Layout) (us vs : List Handle) → Propagates box f s a b us → Propagates box f r b c vs → Propagates box f s a c (us ++ vs)
  propagates-then r fewer a b c us vs first later =
      let before : (k : ℕ) → is_touched c k ≡ false → is_touched b k ≡ false = λ k none. false_from_ne_true (is_touched b k) (λ is. false≢true (sym none ∙ later.more k is)) in
      record {
        more = λ k is. later.more k (first.more k is);
        inside = λ k off on. elim (cases_Bool (is_touched b k)) [
          | inl is ↦ in-first f us vs k (first.inside k off is)
          | inr none ↦ in-second f us vs k (later.inside k none on)
        ];
        closed = λ t up. later.closed t (first.closed t up);
        known = λ k none. later.known k none ∙ first.known k (before k none);
        scrolls = λ k none. later.scrolls k none ∙ first.scrolls k (before k none);
        reported = later.reported ∙ first.reported;
        tops = λ u some. elim (listed-either us vs u some) [ inl i ↦ later.more u (first.tops u i) | inr i ↦ later.tops u i ];
        looked = λ u k some i. elim (listed-either us vs u some) [ inl j ↦ first.looked u k j i | inr j ↦ fewer k (later.looked u k j i) ];
      }
