-- A tree of which what is not touched is right, since nothing in it is marked.
use Rattle.std.proofs.Common.{◌≡◌, ◌∙◌, refl, sym, ap, subst, ℕ, Bool, true, false, not, eqb, ◌||◌, inl, inr, map, Some}
use Rattle.std.proofs.lemmas.Bool.{cases_Bool, false≢true, false_from_ne_true, or_from, or_left, or_parts, or_right}
use Rattle.gui_base.specs.Forest.{Forest, Empty, Tree, StandsOnce, children_of, has, has_by, parent_of, roots, tree_at}
use Rattle.gui_tree.proofs.Parts.{IsDistinct, IsPart, distinct_once, found, here, part_below, part_beside, there}
use Rattle.layout_defs.specs.Boxes.{Box}
use Rattle.gui_boxes.specs.Scrolls.{scrolled_at, scrolled_in}
use Rattle.gui_boxes.specs.Settled.{EachKids, Fits, Known, Layout, known, known_at, tall_of}
use Rattle.gui_boxes.specs.Slots.{slot_at, tall_at, talls}
use Rattle.gui_boxes.specs.Touched.{HoldsScrollsIf, IfTouched, IsClosed, is_touched}
use Rattle.gui_boxes.proofs.Fitting.{tall_roots}
use Rattle.gui_boxes.proofs.InTrees.{tree-in}
use Rattle.gui_layout.specs.Calm.{IsCalm, IsReady}
use Rattle.gui_layout.specs.Marked.{AllFitBut, is_any_root}
use Rattle.gui_layout.specs.Scrolled.{IsScrolledIn}
use Rattle.gui_layout.proofs.ClosedUp.{closed_in}
use Rattle.gui_layout.proofs.Marking.{left-fits}

module _ (box : ℕ → Box) (l : Layout) (s m t : ℕ → Bool) where
  abbrev know : ℕ → Known
  know = known_at box l

  none-root : (f : Forest ℕ) → ((k : ℕ) → has f k ≡ true → m k ≡ true → t k ≡ true) → has_by t f ≡ false → is_any_root m f ≡ false
  none-root Empty marked none = refl
  none-root (Tree h cs rest) marked none =
      let p : (t h ≡ false) × ((has_by t cs || has_by t rest) ≡ false) = or_parts _ _ none in
      let q : (has_by t cs ≡ false) × (has_by t rest ≡ false) = or_parts _ _ p.1 in
      or_from _ _ (false_from_ne_true (m h) (λ is. false≢true (sym p.0 ∙ marked h (here h cs rest) is))) (none-root rest (λ k i. marked k (or_right _ _ (or_right _ _ i))) q.1)

  -- objects fit that are not touched
  calm-fit : (f : Forest ℕ) → AllFitBut s m know f → ((k : ℕ) → has f k ≡ true → s k ≡ true) → IsClosed t f → ((k : ℕ) → has f k ≡ true → m k ≡ true → t k ≡ true) → EachKids (IfTouched (λ k. not (t k)) Fits) (known box l f)
  calm-fit Empty fit looked closed marked = tt
  calm-fit (Tree h cs rest) fit looked closed marked =
      let below : (k : ℕ) → has cs k ≡ true → has (Tree h cs rest) k ≡ true = λ k i. or_right _ _ (or_left _ _ i) in
      let beside : (k : ℕ) → has rest k ≡ true → has (Tree h cs rest) k ≡ true = λ k i. or_right _ _ (or_right _ _ i) in
      let own : not (t h) ≡ true → Fits (know h) (roots (known box l cs)) =
      λ is.
      let none : t h ≡ false = false_from_ne_true (t h) (λ on. false≢true (sym (ap not on) ∙ is)) in
      let unmarked : m h ≡ false = false_from_ne_true (m h) (λ on. false≢true (sym none ∙ marked h (here h cs rest) on)) in
      left-fits know m h cs (none-root cs (λ k i. marked k (below k i)) (closed.0 none)) (fit.0 (looked h (here h cs rest)) unmarked) in
      (own, calm-fit cs fit.1 (λ k i. looked k (below k i)) closed.1 (λ k i. marked k (below k i)), calm-fit rest fit.2 (λ k i. looked k (beside k i)) closed.2 (λ k i. marked k (beside k i)))

  fit-tree : (f : Forest ℕ) (u : ℕ) → AllFitBut s m know f → AllFitBut s m know (tree_at f u)
  fit-tree Empty u fit = tt
  fit-tree (Tree k cs rest) u fit = elim (cases_Bool (eqb k u)) [
    | inl is ↦ rw is (fit.0, fit.1, tt)
    | inr other ↦ elim (cases_Bool (has cs u)) [
      | inl inside ↦ rw (other, inside) (fit-tree cs u fit.1)
      | inr out ↦ rw (other, out) (fit-tree rest u fit.2)
    ]
  ]

  -- how far one scrolls its children is told right
  calm-one : (f : Forest ℕ) (h : ℕ) (cs rest : Forest ℕ) → IsPart f (Tree h cs rest) → IsDistinct f → (t h ≡ false → IsScrolledIn know l.scrolls f h) → not (t h) ≡ true →
      scrolled_at l.scrolls h ≡ scrolled_in (tall_at box l.widths l.natural_heights h) (slot_at l.slots h) (roots (talls box l.widths l.natural_heights cs))
  calm-one f h cs rest part distinct told is =
      let none : t h ≡ false = false_from_ne_true (t h) (λ on. false≢true (sym (ap not on) ∙ is)) in
      let kids : children_of f h ≡ cs = (found part distinct).children in
      told none
      ∙ ap (scrolled_in (tall_at box l.widths l.natural_heights h) (slot_at l.slots h)) (ap (λ (g : Forest ℕ). map tall_of (roots (known box l g))) kids ∙ sym (tall_roots box l cs))

  calm-scrolls : (f g : Forest ℕ) → IsPart f g → IsDistinct f → ((k : ℕ) → has g k ≡ true → t k ≡ false → IsScrolledIn know l.scrolls f k) → HoldsScrollsIf (λ k. not (t k)) box l.widths l.natural_heights l.slots l.scrolls g
  calm-scrolls f Empty part distinct told = tt
  calm-scrolls f (Tree h cs rest) part distinct told = (
    calm-one f h cs rest part distinct (told h (here h cs rest)),
    calm-scrolls f cs (part_below part) distinct (λ k i. told k (or_right _ _ (or_left _ _ i))),
    calm-scrolls f rest (part_beside part) distinct (λ k i. told k (or_right _ _ (or_right _ _ i))),
  )

-- the tree of an object is calm
pub calm-at : (box : ℕ → Box) (l : Layout) (f : Forest ℕ) (s m : ℕ → Bool) (u : ℕ) → StandsOnce f → has f u ≡ true → ((k p : ℕ) → has f k ≡ true → s k ≡ true → parent_of f k ≡ Some p → s p ≡ true) → ((k : ℕ) → has (tree_at f u) k ≡ true → s k ≡ true) → IsReady box l f s m → IsCalm box l (tree_at f u)
calm-at box l f s m u once is higher looked ready =
    let t = is_touched l in
    let closed = closed_in f s t u once higher ready.closed looked in
    let distinct = distinct_once f once in
    let at = there f u is in
    let tree : tree_at f u ≡ Tree u at.children Empty = (found at.part distinct).tree in
    let told : (k : ℕ) → has (Tree u at.children Empty) k ≡ true → t k ≡ false → IsScrolledIn (known_at box l) l.scrolls f k =
    λ k i none.
    let j : has (tree_at f u) k ≡ true = subst (λ (g : Forest ℕ). has g k ≡ true) (sym tree) i in
    ready.scrolled k (tree-in u k f j) (looked k j) none in
    record {
      closed = closed;
      fit = calm-fit box l s m t (tree_at f u) (fit-tree box l s m t f u ready.fit) looked closed (λ k i. ready.marked k (tree-in u k f i));
      scrolled =
          subst (HoldsScrollsIf (λ k. not (t k)) box l.widths l.natural_heights l.slots l.scrolls) (sym tree) (
            calm-one box l s m t f u at.children at.rest at.part distinct (told u (here u at.children Empty)),
            calm-scrolls box l s m t f at.children (part_below at.part) distinct (λ k i. told k (or_right _ _ (or_left _ _ i))),
            tt,
          );
    }

-- Trees of which all is touched are calm.
all-closed : (t : ℕ → Bool) (g : Forest ℕ) → ((k : ℕ) → has g k ≡ true → t k ≡ true) → IsClosed t g
all-closed t Empty all = tt
all-closed t (Tree h cs rest) all = (
  λ none. absurd (false≢true (sym none ∙ all h (here h cs rest))),
  all-closed t cs (λ k i. all k (or_right _ _ (or_left _ _ i))),
  all-closed t rest (λ k i. all k (or_right _ _ (or_right _ _ i))),
)

not_touched : (t : ℕ → Bool) (h : ℕ) → t h ≡ true → not (t h) ≡ true → ⊥
not_touched t h on is = false≢true (sym (ap not on) ∙ is)

all-fit-if : (box : ℕ → Box) (l : Layout) (t : ℕ → Bool) (g : Forest ℕ) → ((k : ℕ) → has g k ≡ true → t k ≡ true) → EachKids (IfTouched (λ k. not (t k)) Fits) (known box l g)
all-fit-if box l t Empty all = tt
all-fit-if box l t (Tree h cs rest) all = (
  λ is. absurd (not_touched t h (all h (here h cs rest)) is),
  all-fit-if box l t cs (λ k i. all k (or_right _ _ (or_left _ _ i))),
  all-fit-if box l t rest (λ k i. all k (or_right _ _ (or_right _ _ i))),
)

all-scrolls-if : (box : ℕ → Box) (l : Layout) (t : ℕ → Bool) (g : Forest ℕ) → ((k : ℕ) → has g k ≡ true → t k ≡ true) → HoldsScrollsIf (λ k. not (t k)) box l.widths l.natural_heights l.slots l.scrolls g
all-scrolls-if box l t Empty all = tt
all-scrolls-if box l t (Tree h cs rest) all = (
  λ is. absurd (not_touched t h (all h (here h cs rest)) is),
  all-scrolls-if box l t cs (λ k i. all k (or_right _ _ (or_left _ _ i))),
  all-scrolls-if box l t rest (λ k i. all k (or_right _ _ (or_right _ _ i))),
)

pub calm-touched : (box : ℕ → Box) (l : Layout) (g : Forest ℕ) → ((k : ℕ) → has g k ≡ true → is_touched l k ≡ true) → IsCalm box l g
calm-touched box l g all = record { closed = all-closed (is_touched l) g all; fit = all-fit-if box l (is_touched l) g all; scrolled = all-scrolls-if box l (is_touched l) g all }
