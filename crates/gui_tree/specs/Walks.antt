-- Walks over the trees, as a contract sees them.
use Rattle.std.specs.Prelude.{◌≡◌, ℕ, true, List, [], ◌∷◌, drop, Option, Some, None, MatchOption, refl}
use Rattle.std.specs.Coded.{Coded, code_by, coded×, coded_ℕ}
use Rattle.gui_base.specs.Forest.{Forest, Empty, Tree, forest_code, has, tree_at, children_of, list_from, path_of, StandsOnce}
use Rattle.gui_base.specs.declared.Handle.{Handle}

-- all trees, and those that are still to come
pub record Walk : Type 0 where
  pub forest : Forest ℕ
  pub left : Forest ℕ

abbrev pub walk : Forest ℕ → Forest ℕ → Walk
walk forest left = record { forest = forest; left = left }

abbrev pub walk_code : Coded Walk
walk_code =
    code_by (Forest ℕ × Forest ℕ) (coded× (forest_code coded_ℕ) (forest_code coded_ℕ))
    (λ w. (w.forest, w.left)) (λ p. walk p.0 p.1) (λ _. refl)

-- the first of those that were to come is h, and what is below it is found by its handle
pub record IsVisit (w : Walk) (h : ℕ) (v : Walk) : Type 0 where
  pub children : Forest ℕ
  pub left : w.left ≡ Tree h children v.left
  pub forest : v.forest ≡ w.forest
  pub there : has w.forest h ≡ true
  pub tree : tree_at w.forest h ≡ Tree h children Empty
  pub below : children_of w.forest h ≡ children
  pub once : StandsOnce w.left

-- a call of `next` gave the first of those that were to come, or none where there was none
abbrev pub Visits : Walk → Option Handle → Walk → Type 0
Visits w r v = MatchOption r ((w.left ≡ Empty) × (v ≡ w)) (λ h. IsVisit w h.0 v)

-- the tree of a handle, and those beside it after it
abbrev pub trees_from : Option Handle → Forest ℕ → Forest ℕ
trees_from None f = Empty
trees_from (Some h) f = list_from f h.0

-- a handle, be it there or not, and those above it, the nearest first
abbrev pub line_of : Forest ℕ → ℕ → List ℕ
line_of f h = h ∷ drop 1 (path_of f h)

abbrev pub line_from : Option Handle → Forest ℕ → List ℕ
line_from None f = []
line_from (Some h) f = line_of f h.0
