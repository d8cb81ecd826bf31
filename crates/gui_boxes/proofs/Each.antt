-- What holds of each object of trees.
use Rattle.std.proofs.Common.{◌≡◌, subst, ℕ, true, false, eqb, ◌||◌, ◌⊎◌, inl, inr}
use Rattle.std.proofs.lemmas.Bool.{eqb-true, or_cases, or_left, or_right, false≢true}
use Rattle.gui_base.specs.Forest.{Forest, Empty, Tree, has}
use Rattle.gui_tree.proofs.Parts.{here}

module _ (P : ℕ → Type 0) where
  abbrev EachOf : Forest ℕ → Type 0
  EachOf f = (k : ℕ) → has f k ≡ true → P k

  pub each_none : EachOf Empty
  each_none k there = absurd (false≢true there)

  -- of its top and of those below it
  pub each_top : (h : ℕ) (cs : Forest ℕ) → P h → EachOf cs → EachOf (Tree h cs Empty)
  each_top h cs top below k there =
      let cases : (eqb h k ≡ true) ⊎ ((has cs k || false) ≡ true) = or_cases _ _ there in
      elim cases [
        | inl is ↦ subst P (eqb-true h k is) top
        | inr inside ↦ let inner : (has cs k ≡ true) ⊎ (false ≡ true) = or_cases _ _ inside in elim inner [ inl e ↦ below k e | inr e ↦ absurd (false≢true e) ]
      ]

  -- and of those beside it
  pub each_first : (h : ℕ) (cs rest : Forest ℕ) → EachOf (Tree h cs Empty) → EachOf rest → EachOf (Tree h cs rest)
  each_first h cs rest first later k there =
      let cases : (eqb h k ≡ true) ⊎ ((has cs k || has rest k) ≡ true) = or_cases _ _ there in
      elim cases [
        | inl is ↦ first k (or_left _ _ is)
        | inr inside ↦ let inner : (has cs k ≡ true) ⊎ (has rest k ≡ true) = or_cases _ _ inside in elim inner [ inl e ↦ first k (or_right _ _ (or_left _ _ e)) | inr e ↦ later k e ]
      ]

-- what stands in the first of these trees stands among them
pub tree_first : (h : ℕ) (cs rest : Forest ℕ) (k : ℕ) → has (Tree h cs Empty) k ≡ true → has (Tree h cs rest) k ≡ true
tree_first h cs rest k there = each_top (λ m. has (Tree h cs rest) m ≡ true) h cs (here h cs rest) (λ m i. or_right _ _ (or_left _ _ i)) k there
