-- Marks whose concern is settled tree by tree.
use Rattle.std.proofs.Common.{◌≡◌, ◌∙◌, refl, ap, subst, ℕ, true, false, cond, eqb, eq-eqb, inl, inr}
use Rattle.std.specs.Prelude.{Option, Some, None, IsSome}
use Rattle.std.proofs.lemmas.Bool.{cases_Bool, eqb-true, both_ways, false_from_ne_true, false≢true}
use Rattle.gui_base.specs.Forest.{Forest, has, tree_at}
use Rattle.gui_pool.specs.Table.{Table, value_at, value_replaced}
use Rattle.gui_tree.proofs.Below.{own_tree}
use Rattle.gui_boxes.specs.declared.mark.Mark.{Mark}
use Rattle.gui_boxes.specs.Pending.{is_all, is_first, is_own, is_pending}
use Rattle.gui_boxes.specs.Tables.{listing_of}
use Rattle.gui_boxes.proofs.Listed.{listed_replaced, some_listed}
use Rattle.gui_boxes.proofs.These.{value-set, within_of}

abbrev pub IsFinished : Table Mark → ℕ → Type 0
IsFinished t k = is_pending t k ≡ false

abbrev pub AreFinished : Table Mark → Forest ℕ → Type 0
AreFinished t f = (k : ℕ) → has f k ≡ true → IsFinished t k

abbrev pub KeepsFinished : Table Mark → Table Mark → Type 0
KeepsFinished old new = (k : ℕ) → IsFinished old k → IsFinished new k

-- a mark that is pending has a value
pub pending-some : (o : Option Mark) → is_all o ≡ true → IsSome o
pending-some None is = absurd (false≢true is)
pending-some (Some b) is = refl

-- one mark is settled
pub record Finishes (old new : Table Mark) (h : ℕ) : Type 0 where
  pub own : is_pending new h ≡ false
  pub rest : (k : ℕ) → eqb h k ≡ false → is_pending new k ≡ is_pending old k
  pub first : (k : ℕ) → is_first new k ≡ is_first old k
  pub listed : listing_of new ≡ listing_of old

pub finishes : (t : Table Mark) (h : ℕ) (next : Mark) → is_pending t h ≡ true → is_all (Some next) ≡ false → is_own (Some next) ≡ is_first t h → Finishes t (value_replaced t h next) h
finishes t h next on done first =
    let some = pending-some (value_at t h) on in
    let value : (k : ℕ) → value_at (value_replaced t h next) k ≡ cond (eqb h k) (Some next) (value_at t k) = λ k. value-set t.values h k (Some next) (within_of t h some) in
    record {
      own = ap is_all (value h ∙ ap (λ b. cond b (Some next) (value_at t h)) (eq-eqb h h refl)) ∙ done;
      rest = λ k other. ap is_all (value k ∙ ap (λ b. cond b (Some next) (value_at t k)) other);
      first = λ k. elim (cases_Bool (eqb h k)) [
        | inl same ↦ ap is_own (value k ∙ ap (λ b. cond b (Some next) (value_at t k)) same) ∙ subst (λ j. is_own (Some next) ≡ is_first t j) (eqb-true h k same) first
        | inr other ↦ ap is_own (value k ∙ ap (λ b. cond b (Some next) (value_at t k)) other)
      ];
      listed = listed_replaced t h next (some_listed t h some);
    }

-- what stands outside of an object's tree is another
pub not-own : (f : Forest ℕ) (h k : ℕ) → has f h ≡ true → has (tree_at f h) k ≡ false → eqb h k ≡ false
not-own f h k is out = false_from_ne_true (eqb h k) (λ e. both_ways (has (tree_at f h) k) out (subst (λ m. has (tree_at f h) m ≡ true) (eqb-true h k e) (own_tree f h is)))

pub keeps-finished : (old new : Table Mark) (t : Forest ℕ) → AreFinished new t → ((k : ℕ) → has t k ≡ false → is_pending new k ≡ is_pending old k) → KeepsFinished old new
keeps-finished old new t own rest k is = elim (cases_Bool (has t k)) [ inl i ↦ own k i | inr out ↦ rest k out ∙ is ]
