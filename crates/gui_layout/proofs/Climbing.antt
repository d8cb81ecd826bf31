-- What stands above an object, by its handle.
use Rattle.std.proofs.Common.{◌≡◌, ◌∙◌, refl, sym, ap, ℕ, ◌<◌, true, false, eqb, eq-eqb, ◌||◌, ◌⊎◌, List, ◌∷◌, length, Option, Some, None, inl, inr, arith}
use Rattle.std.specs.List.{list_any}
use Rattle.std.specs.Prelude.{option_map}
use Rattle.std.proofs.lemmas.Bool.{cases_Bool, false≢true, or_from, or_left}
use Rattle.gui_base.specs.Forest.{Forest, StandsOnce, has, tree_at, parent_of, path_of}
use Rattle.gui_base.specs.declared.Handle.{Handle}
use Rattle.gui_tree.specs.Handles.{as_handle}
use Rattle.gui_tree.proofs.Below.{own_tree}
use Rattle.gui_tree.proofs.Paths.{goes_up, path_from}
use Rattle.gui_boxes.specs.Frames.{Encloses}
use Rattle.gui_tree.proofs.Parts.{distinct_once}
use Rattle.gui_boxes.proofs.InTrees.{tree-there}
use Rattle.gui_layout.specs.Calm.{is_up}
use Rattle.gui_layout.proofs.Settling.{parent-in, parent-out}

pub number : (o : Option ℕ) (p : Handle) → Some p ≡ option_map as_handle o → o ≡ Some p.0
number None p e = cc
number (Some n) p e = let same : p ≡ as_handle n = cc in ap Some (sym (ap (λ (k : Handle). k.0) same))

-- the parent of an object that is there
pub record IsAbove (f : Forest ℕ) (h : ℕ) (p : Handle) : Type 0 where
  pub parent : parent_of f h ≡ Some p.0
  pub there : has f p.0 ≡ true
  pub encloses : Encloses f p.0 h
  pub out : has (tree_at f h) p.0 ≡ false
  pub higher : length (path_of f p.0) < length (path_of f h)

pub is_above : (f : Forest ℕ) (h : ℕ) (p : Handle) → StandsOnce f → has f h ≡ true → Some p ≡ option_map as_handle (parent_of f h) → IsAbove f h p
is_above f h p once is up =
    let parent = number (parent_of f h) p up in
    let distinct = distinct_once f once in
    let path : path_of f h ≡ h ∷ path_of f p.0 = (goes_up f h once is).path ∙ ap (λ (o : Option Handle). h ∷ path_from o f) (sym up) in
    let shorter : length (path_of f p.0) < length (path_of f h) = omega (arith, ap (λ (hs : List ℕ). length hs) path) in
    record {
      parent = parent;
      there = tree-there p.0 h f (inside h (own_tree f h is));
      encloses = inside;
      out = parent-out h p.0 None f distinct is parent (λ e. absurd (no_parent e));
      higher = shorter;
    }
  where
    no_parent : None ≡ Some p.0 → ⊥
    no_parent e = cc

    within : (k : ℕ) → (None ≡ Some p.0) ⊎ (has (tree_at f p.0) k ≡ true) → has (tree_at f p.0) k ≡ true
    within k (inl e) = absurd (no_parent e)
    within k (inr i) = i

    inside : (k : ℕ) → has (tree_at f h) k ≡ true → has (tree_at f p.0) k ≡ true
    inside k i = within k (parent-in h p.0 k None f (distinct_once f once) i (number (parent_of f h) p up))

-- who stands above an object, or is it
pub up_none : (f : Forest ℕ) (h k : ℕ) → StandsOnce f → has f h ≡ true → None ≡ option_map as_handle (parent_of f h) → is_up f k h ≡ true → eqb h k ≡ true
up_none f h k once is up above =
    let path : path_of f h ≡ h ∷ path_from None f = (goes_up f h once is).path ∙ ap (λ (o : Option Handle). h ∷ path_from o f) (sym up) in
    let both : (eqb h k || false) ≡ true = sym (ap (list_any (λ j. eqb j k)) path) ∙ above in
    elim (cases_Bool (eqb h k)) [ inl same ↦ same | inr other ↦ absurd (false≢true (sym (or_from _ _ other refl) ∙ both)) ]

pub up_some : (f : Forest ℕ) (h k : ℕ) (p : Handle) → StandsOnce f → has f h ≡ true → Some p ≡ option_map as_handle (parent_of f h) → is_up f k h ≡ (eqb h k || is_up f k p.0)
up_some f h k p once is up =
    ap (list_any (λ j. eqb j k)) ((goes_up f h once is).path ∙ ap (λ (o : Option Handle). h ∷ path_from o f) (sym up))

pub up_own : (f : Forest ℕ) (h : ℕ) → StandsOnce f → has f h ≡ true → is_up f h h ≡ true
up_own f h once is = ap (list_any (λ j. eqb j h)) (goes_up f h once is).path ∙ or_left _ _ (eq-eqb h h refl)
