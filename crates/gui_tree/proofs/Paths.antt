-- The path of an object goes on at its parent.
use Rattle.std.proofs.Common.{◌≡◌, ◌⊎◌, ℕ, Bool, true, false, ◌||◌, refl, sym, ap, subst, List, [], ◌∷◌, Option, Some, None, option_map, inl, inr, arith, eqb, IfSome}
use Rattle.std.proofs.lemmas.Bool.{cases_Bool, or_left, or_right}
use Rattle.std.proofs.lemmas.Bool.Decides.{nat_tests}
use Rattle.std.proofs.lemmas.List.Elements.{All-cons}
use Rattle.std.specs.List.{All, list_any}
use Rattle.gui_base.specs.Forest.{Forest, Empty, Tree, has, children_of, parent_by, parent_of, path_by, path_of, StandsOnce}
use Rattle.gui_base.specs.declared.Handle.{Handle}
use Rattle.gui_tree.specs.Handles.{as_handle}
use Rattle.gui_tree.specs.Walks.{line_of, line_from}
use Rattle.gui_tree.proofs.Parts.{IsDistinct, distinct_once, here}

abbrev path : Forest ℕ → List ℕ → ℕ → List ℕ
path f above h = path_by (λ k. eqb k h) above f

abbrev above_in : Forest ℕ → Option ℕ → ℕ → Option ℕ
above_in f top h = parent_by (λ k. eqb k h) top f

-- h is a root, or its path goes on at p
abbrev IsRoot : Forest ℕ → List ℕ → Option ℕ → ℕ → Type 0
IsRoot f above top h = (path f above h ≡ h ∷ above) × (above_in f top h ≡ top)

abbrev IsBelow : Forest ℕ → List ℕ → Option ℕ → ℕ → ℕ → Type 0
IsBelow f above top h p = (has f p ≡ true) × (above_in f top h ≡ Some p) × (path f above h ≡ h ∷ path f above p)

climbs : (f : Forest ℕ) (above : List ℕ) (top : Option ℕ) (h : ℕ) → IsDistinct f → has f h ≡ true → IsRoot f above top h ⊎ ((p : ℕ) × IsBelow f above top h p)
climbs Empty above top h d i = cc
climbs (Tree k cs rest) above top h d i = elim (cases_Bool (eqb k h)) [
  | inl is ↦ inl (grind (arith, nat_tests, is))
  | inr other ↦ elim (cases_Bool (has cs h)) [
    | inl there ↦ elim (climbs cs (k ∷ above) (Some k) h d.3 there) [
      | inl root ↦ inr (k, grind (arith, nat_tests, other, there, root))
      | inr up ↦ inr (up.0, grind (arith, nat_tests, other, there, up.1, d.1))
    ]
    | inr gone ↦ elim (climbs rest above top h d.4 (grind (arith, i, other, gone))) [
      | inl root ↦ inl (grind (arith, nat_tests, other, gone, root))
      | inr up ↦ inr (up.0, grind (arith, nat_tests, other, gone, up.1, d.0 up.0, d.2))
    ]
  ]
]

-- what is left of a path from a handle on, or none
abbrev pub path_from : Option Handle → Forest ℕ → List ℕ
path_from None f = []
path_from (Some h) f = path_of f h.0

-- one step up from h
pub record GoesUp (f : Forest ℕ) (h : ℕ) (o : Option Handle) : Type 0 where
  pub path : path_of f h ≡ h ∷ path_from o f
  pub there : IfSome o (λ p. has f p.0 ≡ true)

pub goes_up : (f : Forest ℕ) (h : ℕ) → StandsOnce f → has f h ≡ true → GoesUp f h (option_map as_handle (parent_of f h))
goes_up f h once i = elim (climbs f [] None h (distinct_once f once) i) [
  | inl root ↦ rw root.1 (record { path = root.0; there = tt })
  | inr up ↦ rw up.1.1 (record { path = up.1.2; there = up.1.0 })
]

-- what is not there has no path, no parent and no children
pub path_gone : (f : Forest ℕ) (k : ℕ) (above : List ℕ) → has f k ≡ false → path f above k ≡ []
path_gone Empty k above off = refl
path_gone (Tree j cs rest) k above off = grind (arith, nat_tests, path_gone rest k above)

pub parent_gone : (f : Forest ℕ) (k : ℕ) (above : Option ℕ) → has f k ≡ false → above_in f above k ≡ None
parent_gone Empty k above off = refl
parent_gone (Tree j cs rest) k above off = grind (arith, nat_tests, parent_gone rest k above)

pub children_gone : (f : Forest ℕ) (k : ℕ) → has f k ≡ false → children_of f k ≡ Empty
children_gone Empty k off = refl
children_gone (Tree j cs rest) k off = grind (arith, nat_tests, children_gone rest k)

-- the line of an object that is there is its path
pub line_is : (f : Forest ℕ) (h : ℕ) → StandsOnce f → has f h ≡ true → line_of f h ≡ path_of f h
line_is f h once i = rw (goes_up f h once i).path refl

line_up : (f : Forest ℕ) (h : ℕ) (o : Option Handle) → StandsOnce f → GoesUp f h o → line_of f h ≡ h ∷ line_from o f
line_up f h None once up = rw up.path refl
line_up f h (Some p) once up = rw up.path (ap (λ (hs : List ℕ). h ∷ hs) (sym (line_is f p.0 once up.there)))

-- a line goes on at the parent
pub line_step : (f : Forest ℕ) (h : ℕ) → StandsOnce f → line_of f h ≡ h ∷ line_from (option_map as_handle (parent_of f h)) f
line_step f h once = elim (cases_Bool (has f h)) [
  | inl i ↦ line_up f h (option_map as_handle (parent_of f h)) once (goes_up f h once i)
  | inr off ↦ rw (path_gone f h [] off, parent_gone f h None off) refl
]

twice : (a b : Bool) → (a || (a || b)) ≡ (a || b)
twice true b = refl
twice false b = refl

-- a test of a handle or of those on its path is one of its line
pub any_line : (f : Forest ℕ) (test : ℕ → Bool) (h : ℕ) → StandsOnce f → (test h || list_any test (path_of f h)) ≡ list_any test (line_of f h)
any_line f test h once = elim (cases_Bool (has f h)) [
  | inl i ↦ let up = goes_up f h once i in rw up.path (twice (test h) (list_any test (path_from (option_map as_handle (parent_of f h)) f)))
  | inr off ↦ rw (path_gone f h [] off) refl
]

-- an object and those above it are there
path-all : (P : ℕ → Type 0) (f : Forest ℕ) (above : List ℕ) (h : ℕ) → ((k : ℕ) → has f k ≡ true → P k) → All P above → All P (path f above h)
path-all P Empty above h each up = λ k d l. absurd (omega arith)
path-all P (Tree k cs rest) above h each up = elim (cases_Bool (eqb k h)) [
  | inl is ↦ rw is (All-cons P k above (each k (here k cs rest)) up)
  | inr other ↦ elim (cases_Bool (has cs h)) [
    | inl there ↦ rw (other, there) (path-all P cs (k ∷ above) h (λ j i. each j (or_right _ _ (or_left _ _ i))) (All-cons P k above (each k (here k cs rest)) up))
    | inr gone ↦ rw (other, gone) (path-all P rest above h (λ j i. each j (or_right _ _ (or_right _ _ i))) up)
  ]
]

pub line_there : (f : Forest ℕ) (h : ℕ) → StandsOnce f → has f h ≡ true → All (λ k. has f k ≡ true) (line_of f h)
line_there f h once i =
    subst (All (λ k. has f k ≡ true)) (sym (line_is f h once i)) (path-all (λ k. has f k ≡ true) f [] h (λ k i. i) (λ k d l. absurd (omega arith)))
