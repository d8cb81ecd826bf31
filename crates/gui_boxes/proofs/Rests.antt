-- Trees whose objects are let go, one after another.
use Rattle.std.proofs.Common.{◌≡◌, ◌∙◌, refl, ℕ, Bool, true, false, eqb, ◌||◌}
use Rattle.std.proofs.lemmas.Bool.{false_from_ne_true, or_parts, or_from}
use Rattle.gui_base.specs.Forest.{Forest, Empty, Tree, has}
use Rattle.gui_tree.proofs.Parts.{IsDistinct}
use Rattle.gui_boxes.proofs.Each.{each_first, each_top}
use Rattle.gui_boxes.proofs.Keeps.{elsewhere}

-- a test is false of each of these objects, and of all others it is as it was
pub record Clears (old new : ℕ → Bool) (f : Forest ℕ) : Type 0 where
  pub none : (k : ℕ) → has f k ≡ true → new k ≡ false
  pub others : (k : ℕ) → has f k ≡ false → new k ≡ old k

pub clears_none : (t : ℕ → Bool) → Clears t t Empty
clears_none t = record { none = λ k i. absurd (empty i); others = λ k out. refl }
  where
    empty : false ≡ true → ⊥
    empty e = cc

pub clears_first : (a b c : ℕ → Bool) (h : ℕ) (cs rest : Forest ℕ) → IsDistinct (Tree h cs rest) → Clears a b (Tree h cs Empty) → Clears b c rest → Clears a c (Tree h cs rest)
clears_first a b c h cs rest distinct first later = record {
  none = each_first (λ k. c k ≡ false) h cs rest (λ k i. later.others k (false_from_ne_true (has rest k) (elsewhere h cs rest distinct k i)) ∙ first.none k i) later.none;
  others = λ k out.
      let p : (eqb h k ≡ false) × ((has cs k || has rest k) ≡ false) = or_parts _ _ out in
      let q : (has cs k ≡ false) × (has rest k ≡ false) = or_parts _ _ p.1 in
      later.others k q.1 ∙ first.others k (or_from _ _ p.0 (or_from _ _ q.0 refl));
}

-- an object, and then those below it
pub clears_top : (a b c : ℕ → Bool) (h : ℕ) (cs : Forest ℕ) → has cs h ≡ false → b h ≡ false → ((k : ℕ) → eqb h k ≡ false → b k ≡ a k) → Clears b c cs → Clears a c (Tree h cs Empty)
clears_top a b c h cs out own others below = record {
  none = each_top (λ k. c k ≡ false) h cs (below.others h out ∙ own) below.none;
  others = λ k other.
      let p : (eqb h k ≡ false) × ((has cs k || false) ≡ false) = or_parts _ _ other in
      let q : (has cs k ≡ false) × (false ≡ false) = or_parts _ _ p.1 in
      below.others k q.0 ∙ others k p.0;
}
