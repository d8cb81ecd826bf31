-- Tables while the values of objects that went are taken out.
use Rattle.std.proofs.Common.{◌≡◌, ◌∙◌, sym, ap, subst, refl, ℕ, ◌≤◌, eqb, cond, List, [], ◌∷◌, drop, Option, Some, None, is_some, zero, suc, inl, inr, arith}
use Rattle.std.specs.Prelude.{IfNone}
use Rattle.std.specs.Option.{OnSome}
use Rattle.std.proofs.lemmas.Bool.{cases_Bool, eqb-true}
use Rattle.gui_base.specs.declared.Handle.{Handle}
use Rattle.gui_boxes.specs.Listing.{times, value_count}
use Rattle.gui_boxes.proofs.These.{these_after, value-set, within_of}
use Rattle.gui_pool.specs.Table.{Table, value_at, value_removed}
use Rattle.gui_change.specs.Gone.{KnowsSome}
use Rattle.gui_debts.specs.declared.seen.Seen.{Seen}
use Rattle.gui_change.proofs.Alike.{put-first, these_alike}

pub times-drop : (n : ℕ) (hs : List Handle) (k : ℕ) → times (drop n hs) k ≤ times hs k
times-drop zero hs k = omega arith
times-drop (suc n) [] k = omega arith
times-drop (suc n) (h ∷ hs) k = let a = times-drop n hs k in omega (arith, a)

-- a table after a value was taken out, if there was one
module _ (t u : Table Seen) (h : Handle) (result : Option Seen) (is : result ≡ value_at t h.0) (removes : OnSome result (u ≡ value_removed t h.0)) (absent : IfNone result (u ≡ t)) where
  pub taken : (k : ℕ) → value_at u k ≡ cond (eqb h.0 k) None (value_at t k)
  taken k = by result refl where
    by : (o : Option Seen) → result ≡ o → value_at u k ≡ cond (eqb h.0 k) None (value_at t k)
    by None none =
        let same : u ≡ t = subst (λ (o : Option Seen). IfNone o (u ≡ t)) none absent in
        let vacant : value_at t h.0 ≡ None = sym is ∙ none in
        ap (λ (w : Table Seen). value_at w k) same
        ∙ elim (cases_Bool (eqb h.0 k)) [
          | inl here ↦ subst (λ (n : ℕ). value_at t n ≡ None) (eqb-true h.0 k here) vacant ∙ rw here refl
          | inr other ↦ rw other refl
        ]
    by (Some v) some =
        let gone : u ≡ value_removed t h.0 = subst (λ (o : Option Seen). OnSome o (u ≡ value_removed t h.0)) some removes in
        let within = within_of t h.0 (ap is_some (sym is ∙ some)) in
        ap (λ (w : Table Seen). value_at w k) gone ∙ value-set t.values h.0 k None within

  pub knows-less : (objects : ℕ) (hs : List Handle) → KnowsSome objects t hs → KnowsSome objects u hs
  knows-less objects hs some = by result refl where
    by : (o : Option Seen) → result ≡ o → KnowsSome objects u hs
    by None none =
        let same : u ≡ t = subst (λ (o : Option Seen). IfNone o (u ≡ t)) none absent in
        subst (λ (w : Table Seen). KnowsSome objects w hs) (sym same) some
    by (Some v) found =
        let one : value_count t h.0 ≡ 1 = ap (λ (o : Option Seen). cond (is_some o) 1 0) (sym is ∙ found) in
        let each = some.these.each h.0 in
        let first = put-first h some.known (omega (arith, one, each)) in
        record {
          known = first.rest;
          these = these_after objects t u h first.rest result is removes (these_alike objects t some.known (h ∷ first.rest) first.same some.these);
          within = λ k more. some.within k (let a = first.same.each k in omega (arith, a, more));
        }
