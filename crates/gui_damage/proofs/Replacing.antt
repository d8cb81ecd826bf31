-- A list in which an area took the place of two.
use Rattle.std.proofs.Common.{◌≡◌, refl, ℕ, zero, suc, ◌<◌, Bool, true, List, [], ◌∷◌, length, get_or, set, remove, arith}
use Rattle.std.specs.List.{list_all, AllByRecursion}
use Rattle.std.proofs.lemmas.List.{length-set}
use Rattle.std.proofs.lemmas.List.Edits.{length-remove}
use Rattle.gui_base.specs.Area.{Rect, is_within}
use Rattle.gui_base.specs.Rounding.{Rounding, IsRound}
use Rattle.gui_damage.specs.Joining.{joined_at}
use Rattle.gui_damage.specs.Pending.{Pending, IsPending}
use Rattle.gui_damage.specs.Rounded.{IsRounded, pending_by}
use Rattle.gui_damage.proofs.Listed.{and_both, and_first, and_second}

module _ {X : Type 0} (p : X → Bool) where
  all_set : (xs : List X) (i : ℕ) (y : X) → p y ≡ true → list_all p xs ≡ true → list_all p (set xs i y) ≡ true
  all_set [] i y e h = refl
  all_set (x ∷ xs) zero y e h = and_both _ _ e (and_second _ _ h)
  all_set (x ∷ xs) (suc i) y e h = and_both _ _ (and_first _ _ h) (all_set xs i y e (and_second _ _ h))

  all_removed : (xs : List X) (j : ℕ) → list_all p xs ≡ true → list_all p (remove xs j) ≡ true
  all_removed [] zero h = refl
  all_removed [] (suc j) h = refl
  all_removed (x ∷ xs) zero h = and_second _ _ h
  all_removed (x ∷ xs) (suc j) h = and_both _ _ (and_first _ _ h) (all_removed xs j (and_second _ _ h))

  pub all_at : (xs : List X) (i : ℕ) (d : X) → i < length xs → list_all p xs ≡ true → p (get_or xs i d) ≡ true
  all_at [] i d below h = absurd (omega arith)
  all_at (x ∷ xs) zero d below h = and_first _ _ h
  all_at (x ∷ xs) (suc i) d below h = all_at xs i d (omega arith) (and_second _ _ h)

module _ (P : Rect → Type 0) where
  each_set : (xs : List Rect) (i : ℕ) (y : Rect) → P y → AllByRecursion P xs → AllByRecursion P (set xs i y)
  each_set [] i y e h = h
  each_set (x ∷ xs) zero y e h = (e, h.1)
  each_set (x ∷ xs) (suc i) y e h = (h.0, each_set xs i y e h.1)

  each_removed : (xs : List Rect) (j : ℕ) → AllByRecursion P xs → AllByRecursion P (remove xs j)
  each_removed [] zero h = h
  each_removed [] (suc j) h = h
  each_removed (x ∷ xs) zero h = h.1
  each_removed (x ∷ xs) (suc j) h = (h.0, each_removed xs j h.1)

pub pending_joined : (p : Pending) (i j : ℕ) (area : Rect) → IsPending p → i < j → j < length p.areas → is_within p.panel area ≡ true → IsPending (record p { areas = joined_at p.areas i j area })
pending_joined p i j area h later below inside = record {
  some = h.some;
  each = all_removed (is_within p.panel) (set p.areas i area) j (all_set (is_within p.panel) p.areas i area inside h.each);
  few = let few = h.few in let same = length-set p.areas i area in omega (arith, length-remove (set p.areas i area) j (omega arith));
}

pub rounded_joined : (rules : Rounding) (areas : List Rect) (i j : ℕ) (area : Rect) → IsRounded rules areas → i < j → j < length areas → is_within rules.panel area ≡ true → IsRound rules area → IsRounded rules (joined_at areas i j area)
rounded_joined rules areas i j area h later below inside round = record {
  pending = pending_joined (pending_by rules areas) i j area h.pending later below inside;
  round = each_removed (IsRound rules) (set areas i area) j (each_set (IsRound rules) areas i area round h.round);
}
