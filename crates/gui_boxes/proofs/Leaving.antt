-- Tables from which the values of handles that are gone are taken out.
use Rattle.std.proofs.Common.{◌≡◌, ◌∙◌, refl, sym, ap, subst, ℕ, ◌+◌, true, false, cond, eqb, List, [], ◌∷◌, ◌++◌, append_assoc, arith, inl, inr}
use Rattle.std.specs.Prelude.{Option, Some, None, IfNone, OnSome, is_some}
use Rattle.std.proofs.lemmas.Bool.{cases_Bool, eqb-true, both_ways, false_from_ne_true}
use Rattle.std.proofs.lemmas.Bool.Decides.{nat_tests}
use Rattle.std.proofs.lemmas.List.{get_or-set_other, length-append}
use Rattle.gui_base.specs.Forest.{Forest, has}
use Rattle.gui_base.specs.declared.Handle.{Handle}
use Rattle.gui_pool.specs.Table.{Table, value_at, value_removed}
use Rattle.gui_boxes.specs.Listing.{times, value_count, HasThese, KeepsThose, those_in}
use Rattle.gui_boxes.proofs.These.{these_after}

-- a table that had values for all of these handles has them for those that are left
pub record KeepsLeft {T : Type 0} (f : Forest ℕ) (hs left : List Handle) (old new : Table T) : Type 0 where
  pub these : (objects : ℕ) → HasThese objects old hs → HasThese objects new left
  pub same : (k : ℕ) → has f k ≡ true → value_at new k ≡ value_at old k

pub times-both : (xs ys : List Handle) (k : ℕ) → times (xs ++ ys) k ≡ times xs k + times ys k
times-both [] ys k = omega arith
times-both (x ∷ xs) ys k = let a = times-both xs ys k in omega arith

-- a handle that is not there is not among those that are
times-out : (f : Forest ℕ) (hs : List Handle) (k : ℕ) → has f k ≡ false → times (those_in f hs) k ≡ 0
times-out f [] k out = refl
times-out f (h ∷ hs) k out = elim (cases_Bool (has f h.0)) [
  | inl there ↦
      let other : eqb h.0 k ≡ false = false_from_ne_true (eqb h.0 k) (λ e. both_ways (has f k) out (subst (λ j. has f j ≡ true) (eqb-true h.0 k e) there)) in
      rw (there, other, times-out f hs k out) refl
  | inr gone ↦ rw gone (times-out f hs k out)
]

-- the next of those that are listed, which is there or not
module _ (xs ys zs : List Handle) (h : Handle) (first : zs ≡ h ∷ ys) where
  pub goes-over : xs ++ zs ≡ (xs ++ h ∷ []) ++ ys
  goes-over = ap (λ ws. xs ++ ws) first ∙ sym (append_assoc xs (h ∷ []) ys)

  module _ (f : Forest ℕ) (hs : List Handle) (was : xs ++ those_in f zs ≡ those_in f hs) where
    pub goes-on : has f h.0 ≡ true → (xs ++ h ∷ []) ++ those_in f ys ≡ those_in f hs
    goes-on there =
        let step : those_in f (h ∷ ys) ≡ h ∷ those_in f ys = rw there refl in
        append_assoc xs (h ∷ []) (those_in f ys) ∙ (ap (λ ws. xs ++ ws) (sym step) ∙ (ap (λ ws. xs ++ those_in f ws) (sym first) ∙ was))

    pub goes-past : has f h.0 ≡ false → xs ++ those_in f ys ≡ those_in f hs
    goes-past gone =
        let step : those_in f (h ∷ ys) ≡ those_in f ys = rw gone refl in
        ap (λ ws. xs ++ ws) (sym step) ∙ (ap (λ ws. xs ++ those_in f ws) (sym first) ∙ was)

module _ {T : Type 0} where
  -- one that is listed between others may be the first
  to-front : (objects : ℕ) (t : Table T) (xs : List Handle) (h : Handle) (ys : List Handle) → HasThese objects t (xs ++ h ∷ ys) → HasThese objects t (h ∷ (xs ++ ys))
  to-front objects t xs h ys these =
      let room = these.room in
      let long = length-append xs (h ∷ ys) in
      let short = length-append xs ys in
      record {
        keys = these.keys;
        room = omega arith;
        each = λ k. let a = these.each k in let b = times-both xs (h ∷ ys) k in let c = times-both xs ys k in omega arith;
      }

  value-after : (t u : Table T) (h k : ℕ) (result : Option T) → OnSome result (u ≡ value_removed t h) → IfNone result (u ≡ t) → eqb h k ≡ false → value_at u k ≡ value_at t k
  value-after t u h k None removes absent other = ap (λ (v : Table T). value_at v k) absent
  value-after t u h k (Some v) removes absent other = ap (λ (w : Table T). value_at w k) removes ∙ grind (arith, nat_tests, get_or-set_other t.values h k None None, other)

  module _ (f : Forest ℕ) (hs xs ys : List Handle) (h : Handle) (old t : Table T) where
    -- the value of one that is gone is taken out
    pub left_gone : (u : Table T) (result : Option T) → result ≡ value_at t h.0 → OnSome result (u ≡ value_removed t h.0) → IfNone result (u ≡ t) → has f h.0 ≡ false → KeepsLeft f hs (xs ++ h ∷ ys) old t → KeepsLeft f hs (xs ++ ys) old u
    left_gone u result is removes absent gone keeps = record {
      these = λ objects had. these_after objects t u h (xs ++ ys) result is removes (to-front objects t xs h ys (keeps.these objects had));
      same = λ k there.
          let other : eqb h.0 k ≡ false = false_from_ne_true (eqb h.0 k) (λ e. both_ways (has f h.0) gone (subst (λ j. has f j ≡ true) (sym (eqb-true h.0 k e)) there)) in
          value-after t u h.0 k result removes absent other ∙ keeps.same k there;
    }

  pub left_all : (f : Forest ℕ) (hs left : List Handle) (old t : Table T) → left ≡ those_in f hs → KeepsLeft f hs left old t → KeepsThose f hs old t
  left_all f hs left old t is keeps = record { these = λ objects had. subst (HasThese objects t) is (keeps.these objects had); same = keeps.same }

  pub none-left : (f : Forest ℕ) (hs : List Handle) (k n : ℕ) (t u : Table T) → HasThese n t hs → KeepsThose f hs t u → has f k ≡ false → is_some (value_at u k) ≡ false
  none-left f hs k n t u these keeps out =
      let now = keeps.these n these in
      false_from_ne_true (is_some (value_at u k)) (λ some. absurd (let one : value_count u k ≡ 1 = ap (λ b. cond b 1 0) some in let each = now.each k in let none = times-out f hs k out in omega arith))
