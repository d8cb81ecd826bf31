-- Passes that visit touched objects alone.
use Rattle.std.proofs.Common.{◌≡◌, ◌∙◌, refl, sym, ap, subst, ℕ, Bool, true, false, eqb, ◌||◌, List, get_or, set, length, ◌<◌, eq-eqb, inl, inr, ◌⊎◌}
use Rattle.std.proofs.lemmas.Bool.{false≢true, both_ways, cases_Bool, eqb-true, false_from_ne_true, or_cases, or_from, or_left, or_parts, or_right}
use Rattle.std.proofs.lemmas.List.{get_or-set_other, get_or-set_same}
use Rattle.gui_base.specs.Forest.{Forest, Empty, Tree, has, has_by, leaf, children_of, tree_at}
use Rattle.gui_tree.proofs.Below.{tree_is}
use Rattle.gui_tree.proofs.Parts.{IsDistinct, here}
use Rattle.gui_boxes.specs.Settled.{Known, Layout, EachKids}
use Rattle.gui_boxes.specs.Kids.{told_trees}
use Rattle.gui_boxes.specs.Touched.{AtRoots, IfTouched, IsClosed, KeepsCalm, Touches}
use Rattle.gui_boxes.proofs.Passes.{Pass}

-- a pass that sees to touched objects
abbrev pub touched_pass : {V : Type 0} → (ℕ → Bool) → Pass V → Pass V
touched_pass t p = record p { fit = IfTouched t p.fit }

-- where none is touched, it has nothing to see to
pub calm_fit : (t : ℕ → Bool) (P : Known → List Known → Type 0) (l : Layout) (f : Forest ℕ) → has_by t f ≡ false → EachKids (IfTouched t P) (told_trees l f)
calm_fit t P l Empty none = tt
calm_fit t P l (Tree h cs rest) none =
    let p : (t h ≡ false) × ((has_by t cs || has_by t rest) ≡ false) = or_parts _ _ none in
    let q : (has_by t cs ≡ false) × (has_by t rest ≡ false) = or_parts _ _ p.1 in
    (λ is. absurd (false≢true (sym p.0 ∙ is)), calm_fit t P l cs q.0, calm_fit t P l rest q.1)

-- the tree of an object that is not touched
pub calm_tree : (t : ℕ → Bool) (P : Known → List Known → Type 0) (l : Layout) (h : ℕ) (cs : Forest ℕ) → IsClosed t (Tree h cs Empty) → t h ≡ false → EachKids (IfTouched t P) (told_trees l (Tree h cs Empty))
calm_tree t P l h cs closed none = (λ is. absurd (false≢true (sym none ∙ is)), calm_fit t P l cs (closed.0 none), tt)

module _ (t : ℕ → Bool) (f : Forest ℕ) (h : ℕ) (there : has f h ≡ true) (closed : IsClosed t (tree_at f h)) where
  pub closed_whole : IsClosed t (Tree h (children_of f h) Empty)
  closed_whole = subst (IsClosed t) (tree_is f h there) closed

  -- the children of an object are closed where its tree is
  pub closed_kids : IsClosed t (children_of f h)
  closed_kids = closed_whole.1

  -- nothing is to be seen to in the tree of an object that is not touched
  pub calm_at : (P : Known → List Known → Type 0) (l : Layout) → t h ≡ false → EachKids (IfTouched t P) (told_trees l (tree_at f h))
  calm_at P l none = subst (λ (g : Forest ℕ). EachKids (IfTouched t P) (told_trees l g)) (sym (tree_is f h there)) (calm_tree t P l h (children_of f h) closed_whole none)

-- where none is touched, no object is
pub none_in : (t : ℕ → Bool) (f : Forest ℕ) → has_by t f ≡ false → (k : ℕ) → has f k ≡ true → t k ≡ false
none_in t Empty none k i = absurd (false≢true i)
none_in t (Tree h cs rest) none k i =
    let p : (t h ≡ false) × ((has_by t cs || has_by t rest) ≡ false) = or_parts _ _ none in
    let q : (has_by t cs ≡ false) × (has_by t rest ≡ false) = or_parts _ _ p.1 in
    let cases : (eqb h k ≡ true) ⊎ ((has cs k || has rest k) ≡ true) = or_cases _ _ i in
    elim cases [
      | inl is ↦ subst (λ m. t m ≡ false) (eqb-true h k is) p.0
      | inr inside ↦ let inner : (has cs k ≡ true) ⊎ (has rest k ≡ true) = or_cases _ _ inside in elim inner [ inl e ↦ none_in t cs q.0 k e | inr e ↦ none_in t rest q.1 k e ]
    ]

-- nothing below an object that is not touched is
pub calm_all : (t : ℕ → Bool) (f : Forest ℕ) (h : ℕ) → has f h ≡ true → IsClosed t (tree_at f h) → t h ≡ false → (k : ℕ) → has (tree_at f h) k ≡ true → t k ≡ false
calm_all t f h there closed none k i =
    let whole = closed_whole t f h there closed in
    none_in t (Tree h (children_of f h) Empty) (or_from _ _ none (or_from _ _ (whole.0 none) refl)) k (subst (λ (g : Forest ℕ). has g k ≡ true) (tree_is f h there) i)

-- Trees of whose objects the same are touched.
module _ (t u : ℕ → Bool) where
  abbrev Agree : Forest ℕ → Type 0
  Agree f = (k : ℕ) → has f k ≡ true → u k ≡ t k

  agree_below : (h : ℕ) (cs rest : Forest ℕ) → Agree (Tree h cs rest) → Agree cs
  agree_below h cs rest same k i = same k (or_right _ _ (or_left _ _ i))

  agree_beside : (h : ℕ) (cs rest : Forest ℕ) → Agree (Tree h cs rest) → Agree rest
  agree_beside h cs rest same k i = same k (or_right _ _ (or_right _ _ i))

  pub any_agree : (f : Forest ℕ) → Agree f → has_by u f ≡ has_by t f
  any_agree Empty same = refl
  any_agree (Tree h cs rest) same = rw (same h (here h cs rest), any_agree cs (agree_below h cs rest same), any_agree rest (agree_beside h cs rest same)) refl

  pub closed_agree : (f : Forest ℕ) → Agree f → IsClosed t f → IsClosed u f
  closed_agree Empty same closed = tt
  closed_agree (Tree h cs rest) same closed = (
    λ none. any_agree cs (agree_below h cs rest same) ∙ closed.0 (sym (same h (here h cs rest)) ∙ none),
    closed_agree cs (agree_below h cs rest same) closed.1,
    closed_agree rest (agree_beside h cs rest same) closed.2,
  )

  pub fit_agree : (P : Known → List Known → Type 0) (l : Layout) (f : Forest ℕ) → Agree f → EachKids (IfTouched t P) (told_trees l f) → EachKids (IfTouched u P) (told_trees l f)
  fit_agree P l Empty same each = tt
  fit_agree P l (Tree h cs rest) same each = (
    λ is. each.0 (sym (same h (here h cs rest)) ∙ is),
    fit_agree P l cs (agree_below h cs rest same) each.1,
    fit_agree P l rest (agree_beside h cs rest same) each.2,
  )

  -- where more roots are touched alone, all is closed still
  pub closed_roots : ((k : ℕ) → t k ≡ true → u k ≡ true) → (f : Forest ℕ) → AtRoots t u f → IsClosed t f → IsClosed u f
  closed_roots more Empty at closed = tt
  closed_roots more (Tree h cs rest) at closed = (
    λ none. any_agree cs at.0 ∙ closed.0 (false_from_ne_true (t h) (λ is. false≢true (sym none ∙ more h is))),
    closed_agree cs at.0 closed.1,
    closed_roots more rest at.1 closed.2,
  )

-- Roots are touched, one after another.
pub record TouchesRoots (t u : ℕ → Bool) (f : Forest ℕ) : Type 0 where
  pub roots : AtRoots t u f
  pub others : (k : ℕ) → has f k ≡ false → u k ≡ t k

pub roots_none : (t : ℕ → Bool) → TouchesRoots t t Empty
roots_none t = record { roots = tt; others = λ k out. refl }

at_roots_from : (a b c : ℕ → Bool) (f : Forest ℕ) → ((k : ℕ) → has f k ≡ true → b k ≡ a k) → AtRoots b c f → AtRoots a c f
at_roots_from a b c Empty same at = tt
at_roots_from a b c (Tree h cs rest) same at = (λ k i. at.0 k i ∙ same k (or_right _ _ (or_left _ _ i)), at_roots_from a b c rest (λ k i. same k (or_right _ _ (or_right _ _ i))) at.1)

pub roots_first : (a b c : ℕ → Bool) (h : ℕ) (cs rest : Forest ℕ) → IsDistinct (Tree h cs rest) → ((k : ℕ) → has (leaf h) k ≡ false → b k ≡ a k) → TouchesRoots b c rest → TouchesRoots a c (Tree h cs rest)
roots_first a b c h cs rest distinct first later =
    let other : (k : ℕ) → eqb h k ≡ false → b k ≡ a k = λ k e. first k (or_from _ _ e refl) in
    let not_top : (g : Forest ℕ) → has g h ≡ false → (k : ℕ) → has g k ≡ true → eqb h k ≡ false =
    λ g out k i. false_from_ne_true (eqb h k) (λ e. both_ways _ out (subst (λ m. has g m ≡ true) (sym (eqb-true h k e)) i)) in
    record {
      roots = (
        λ k i. later.others k (false_from_ne_true (has rest k) (λ j. both_ways _ (distinct.0 k i) j)) ∙ other k (not_top cs distinct.1 k i),
        at_roots_from a b c rest (λ k i. other k (not_top rest distinct.2 k i)) later.roots,
      );
      others = λ k out.
          let p : (eqb h k ≡ false) × ((has cs k || has rest k) ≡ false) = or_parts _ _ out in
          let q : (has cs k ≡ false) × (has rest k ≡ false) = or_parts _ _ p.1 in
          later.others k q.1 ∙ other k p.0;
    }

-- more is touched after more
pub calm_then : {V : Type 0} (d : V) (u w : ℕ → Bool) (a b c : List V) → ((k : ℕ) → u k ≡ true → w k ≡ true) → KeepsCalm d u a b → KeepsCalm d w b c → KeepsCalm d w a c
calm_then d u w a b c more first later k none = later k none ∙ first k (false_from_ne_true (u k) (λ is. false≢true (sym none ∙ more k is)))

-- an object gets another value, and is touched
pub touches_set : {V : Type 0} (d : V) (ts : List Bool) (old : List V) (h : ℕ) (v : V) → h < length ts → Touches d (λ k. get_or ts k false) (λ k. get_or (set ts h true) k false) old (set old h v) (leaf h)
touches_set d ts old h v short =
    let is : get_or (set ts h true) h false ≡ true = get_or-set_same ts h true false short in
    let other : (k : ℕ) → eqb h k ≡ false → k ≡ h → ⊥ = λ k out e. both_ways _ out (eq-eqb h k (sym e)) in
    record {
      more = λ k was. elim (cases_Bool (eqb h k)) [
        | inl same ↦ subst (λ m. get_or (set ts h true) m false ≡ true) (eqb-true h k same) is
        | inr differs ↦ get_or-set_other ts h k true false (other k differs) ∙ was
      ];
      others = λ k out. get_or-set_other ts h k true false (other k (or_parts _ _ out).0);
      calm = λ k none. get_or-set_other old h k v d (λ e. false≢true (sym none ∙ (ap (λ m. get_or (set ts h true) m false) e ∙ is)));
    }

pub touches_same : {V : Type 0} (d : V) (t : ℕ → Bool) (old : List V) (f : Forest ℕ) → Touches d t t old old f
touches_same d t old f = record { more = λ k is. is; others = λ k out. refl; calm = λ k none. refl }
