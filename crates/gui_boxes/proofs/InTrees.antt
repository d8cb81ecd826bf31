-- What lies in the tree of an object.
use Rattle.std.proofs.Common.{◌≡◌, ℕ, true, false, eqb, ◌||◌, ◌⊎◌, inl, inr}
use Rattle.std.proofs.lemmas.Bool.{cases_Bool, or_cases, or_left, or_right, false≢true}
use Rattle.gui_base.specs.Forest.{Forest, Empty, Tree, has, tree_at}

-- what lies in a tree of a forest lies in the forest
pub tree-in : (u k : ℕ) (f : Forest ℕ) → has (tree_at f u) k ≡ true → has f k ≡ true
tree-in u k Empty is = is
tree-in u k (Tree h cs rest) is = elim (cases_Bool (eqb h u)) [
  | inl same ↦
      let top : (eqb h k ≡ true) ⊎ ((has cs k || false) ≡ true) = or_cases (eqb h k) (has cs k || false) (rw same at is) in
      elim top [
        | inl e ↦ or_left (eqb h k) (has cs k || has rest k) e
        | inr e ↦
            let low : (has cs k ≡ true) ⊎ (false ≡ true) = or_cases (has cs k) false e in
            elim low [ inl i ↦ inside (or_left (has cs k) (has rest k) i) | inr i ↦ absurd (false≢true i) ]
      ]
  | inr other ↦ elim (cases_Bool (has cs u)) [
    | inl below ↦ inside (or_left (has cs k) (has rest k) (tree-in u k cs (rw (other, below) at is)))
    | inr out ↦ inside (or_right (has cs k) (has rest k) (tree-in u k rest (rw (other, out) at is)))
  ]
]
  where
    inside : (has cs k || has rest k) ≡ true → has (Tree h cs rest) k ≡ true
    inside i = or_right (eqb h k) (has cs k || has rest k) i

-- a tree that has something is there
pub tree-there : (u k : ℕ) (f : Forest ℕ) → has (tree_at f u) k ≡ true → has f u ≡ true
tree-there u k Empty is = absurd (false≢true is)
tree-there u k (Tree h cs rest) is = elim (cases_Bool (eqb h u)) [
  | inl same ↦ or_left (eqb h u) (has cs u || has rest u) same
  | inr other ↦ or_right (eqb h u) (has cs u || has rest u) (elim (cases_Bool (has cs u)) [
    | inl below ↦ or_left (has cs u) (has rest u) below
    | inr out ↦ or_right (has cs u) (has rest u) (tree-there u k rest (rw (other, out) at is))
  ])
]
