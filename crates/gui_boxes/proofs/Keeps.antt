-- Tables that change at the handles of trees alone.
use Rattle.std.proofs.Common.{inl, inr, ◌⊎◌, ◌≡◌, ◌≢◌, ◌∙◌, refl, sym, subst, ℕ, true, false, eqb, ◌||◌, List, length, get_or, set, eq-eqb}
use Rattle.std.proofs.lemmas.List.{get_or-set_other}
use Rattle.std.proofs.lemmas.Bool.{or_cases, eqb-true, or_parts, or_from, both_ways, false_from_ne_true, false≢true}
use Rattle.gui_base.specs.Forest.{Forest, Empty, Tree, has}
use Rattle.layout_defs.specs.Tables.{KeepsOthers}
use Rattle.gui_tree.proofs.Parts.{IsDistinct}

-- no handle of the first tree stands in the others
pub elsewhere : (h : ℕ) (cs rest : Forest ℕ) → IsDistinct (Tree h cs rest) → (k : ℕ) → has (Tree h cs Empty) k ≡ true → has rest k ≡ true → ⊥
elsewhere h cs rest distinct k i j =
    let cases : (eqb h k ≡ true) ⊎ ((has cs k || false) ≡ true) = or_cases _ _ i in
    elim cases [
      | inl is ↦ both_ways _ distinct.2 (subst (λ m. has rest m ≡ true) (sym (eqb-true _ _ is)) j)
      | inr below ↦ let inner : (has cs k ≡ true) ⊎ (false ≡ true) = or_cases _ _ below in elim inner [ inl e ↦ both_ways _ (distinct.0 k e) j | inr e ↦ false≢true e ]
    ]

module _ {V : Type 0} (d : V) where
  pub keeps_none : (t : List V) → KeepsOthers d t t Empty
  keeps_none t = record { long = refl; others = λ k out. refl }

  pub keeps_same : (t : List V) (f : Forest ℕ) → KeepsOthers d t t f
  keeps_same t f = record { long = refl; others = λ k out. refl }

  pub keeps_first : (a b c : List V) (h : ℕ) (cs rest : Forest ℕ) → KeepsOthers d a b (Tree h cs Empty) → KeepsOthers d b c rest → KeepsOthers d a c (Tree h cs rest)
  keeps_first a b c h cs rest first later = record {
    long = later.long ∙ first.long;
    others = λ k out.
        let p : (eqb h k ≡ false) × ((has cs k || has rest k) ≡ false) = or_parts _ _ out in
        let q : (has cs k ≡ false) × (has rest k ≡ false) = or_parts _ _ p.1 in
        later.others k q.1 ∙ first.others k (or_from _ _ p.0 (or_from _ _ q.0 refl));
  }

  pub keeps_top : (a b : List V) (h : ℕ) (cs : Forest ℕ) (v : V) → KeepsOthers d a b cs → length (set b h v) ≡ length b → KeepsOthers d a (set b h v) (Tree h cs Empty)
  keeps_top a b h cs v below same = record {
    long = same ∙ below.long;
    others = λ k out.
        let p : (eqb h k ≡ false) × ((has cs k || false) ≡ false) = or_parts _ _ out in
        let q : (has cs k ≡ false) × (false ≡ false) = or_parts _ _ p.1 in
        let other : k ≢ h = λ e. both_ways _ p.0 (eq-eqb h k (sym e)) in
        get_or-set_other b h k v d other ∙ below.others k q.0;
  }

  pub keeps_wider : (a b : List V) (h : ℕ) (cs : Forest ℕ) → KeepsOthers d a b cs → KeepsOthers d a b (Tree h cs Empty)
  keeps_wider a b h cs below = record {
    long = below.long;
    others = λ k out.
        let p : (eqb h k ≡ false) × ((has cs k || false) ≡ false) = or_parts _ _ out in
        let q : (has cs k ≡ false) × (false ≡ false) = or_parts _ _ p.1 in
        below.others k q.0;
  }

  -- one change after another
  pub keeps_then : (a b c : List V) (f : Forest ℕ) → KeepsOthers d a b f → KeepsOthers d b c f → KeepsOthers d a c f
  keeps_then a b c f first later = record { long = later.long ∙ first.long; others = λ k out. later.others k out ∙ first.others k out }

  -- the first tree's entries stay where the others change
  pub apart : (b c : List V) (h : ℕ) (cs rest : Forest ℕ) → IsDistinct (Tree h cs rest) → KeepsOthers d b c rest → (k : ℕ) → has (Tree h cs Empty) k ≡ true → get_or c k d ≡ get_or b k d
  apart b c h cs rest distinct later k i = later.others k (false_from_ne_true _ (λ j. elsewhere h cs rest distinct k i j))
