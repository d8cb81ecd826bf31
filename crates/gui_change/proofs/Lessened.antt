-- Where objects went, what is known still, and what they owe.
use Rattle.std.proofs.Common.{◌≡◌, ◌∙◌, sym, ap, subst, refl, ℕ, ◌+◌, ◌<◌, ◌≤◌, Bool, true, false, not, ◌&&◌, eqb, eq-eqb, nat_lt, cond, List, [], ◌∷◌, ◌++◌, Option, Some, None, is_some, inl, inr, arith}
use Rattle.std.specs.List.{flat_map}
use Rattle.std.specs.List.Sorted.{IsPermutation}
use Rattle.std.proofs.lemmas.Bool.{both_ways, cases_Bool, false_from_ne_true}
use Rattle.std.proofs.lemmas.Bool.Decides.{nat_tests}
use Rattle.std.proofs.lemmas.List.{append-nil}
use Rattle.gui_base.specs.Area.{Rect}
use Rattle.gui_base.specs.declared.Handle.{Handle}
use Rattle.gui_boxes.specs.Listing.{times, value_count, HasThese}
use Rattle.gui_boxes.proofs.These.{times_of}
use Rattle.gui_pool.specs.Table.{Table, value_at}
use Rattle.gui_tree.specs.Handles.{numbers}
use Rattle.scene_defs.specs.Scene.{Scene}
use Rattle.scene_defs.specs.Shown.{order}
use Rattle.debt_defs.specs.Debt.{is_named}
use Rattle.debt_defs.specs.SceneLook.{is_among}
use Rattle.gui_change.specs.Gone.{KnowsSome, gone_of, is_shown, owed_gone}
use Rattle.gui_debts.specs.Owed.{owed, sight_of}
use Rattle.gui_debts.specs.declared.seen.Seen.{Seen}
use Rattle.gui_change.proofs.Alike.{alike-each, among-times, these_alike, times-among}
use Rattle.gui_change.proofs.Missing.{both-times, gone-times, shown-times}
use Rattle.gui_change.proofs.Orderless.{all-first}

pub numbers-times : (hs : List Handle) (k : ℕ) → times_of (numbers hs) k ≡ times hs k
numbers-times [] k = refl
numbers-times (h ∷ hs) k = ap (λ (n : ℕ). cond (eqb h.0 k) 1 0 + n) (numbers-times hs k)

flat-nothing : (g : ℕ → List Rect) (hs : List Handle) → ((k : ℕ) → 0 < times hs k → g k ≡ []) → flat_map g (numbers hs) ≡ []
flat-nothing g [] none = refl
flat-nothing g (h ∷ hs) none =
    let first : g h.0 ≡ [] = none h.0 (rw (eq-eqb h.0 h.0 refl) (omega arith)) in
    rw first (flat-nothing g hs (λ k some. none k (omega (arith, some))))

nothing-owed : (n : Bool) → owed n (sight_of None) (sight_of None) ≡ []
nothing-owed true = refl
nothing-owed false = refl

and-some : (a b : Bool) → (a && b) ≡ true → (a ≡ true) × (b ≡ true)
and-some true true is = (refl, refl)
and-some true false is = cc
and-some false b is = cc

pub and-false : (b : Bool) → (b && false) ≡ false
and-false true = refl
and-false false = refl

pub and-true : (b : Bool) → (b && true) ≡ b
and-true true = refl
and-true false = refl

value-one : (o : Option Seen) → cond (is_some o) 1 0 ≤ 1
value-one None = omega arith
value-one (Some s) = omega arith

value-told : (o : Option Seen) → 0 < cond (is_some o) 1 0 → is_some o ≡ true
value-told None less = absurd (omega (arith, less))
value-told (Some s) less = refl

module _ (scene : Scene) (removed : List ℕ) (gone : List Handle) (is : numbers gone ≡ removed) (old new : Table Seen)
    (none : (k : ℕ) → 0 < times gone k → value_at new k ≡ None) (rest : (k : ℕ) → times gone k ≡ 0 → value_at new k ≡ value_at old k) where
  out-times : (k : ℕ) → is_among removed k ≡ false → times gone k ≡ 0
  out-times k off = elim (cases_Bool (nat_lt 0 (times gone k))) [
    | inl some ↦
        let more : 0 < times gone k = grind (arith, nat_tests, some) in
        absurd (both_ways (is_among removed k) off (subst (λ (ns : List ℕ). is_among ns k ≡ true) is (times-among gone k more)))
    | inr zero ↦ grind (arith, nat_tests, zero)
  ]

  in-times : (k : ℕ) → is_among removed k ≡ true → 0 < times gone k
  in-times k among = among-times gone k (subst (λ (ns : List ℕ). is_among ns k ≡ true) (sym is) among)

  -- what is known still was known, and did not go
  pub still : (k : ℕ) (s : Seen) → value_at new k ≡ Some s → (value_at old k ≡ Some s) × (is_among removed k ≡ false)
  still k s found = elim (cases_Bool (is_among removed k)) [
    | inl among ↦ let e : None ≡ Some s = sym (none k (in-times k among)) ∙ found in cc
    | inr off ↦ (sym (rest k (out-times k off)) ∙ found, off)
  ]

  module _ (left : (k : ℕ) → is_shown scene k ≡ (is_some (value_at old k) && not (is_among removed k))) where
    -- of what is shown, what is known is what was known
    pub kept : (k : ℕ) → is_shown scene k ≡ true → value_at new k ≡ value_at old k
    kept k shown =
        let both = and-some (is_some (value_at old k)) (not (is_among removed k)) (sym (left k) ∙ shown) in
        rest k (out-times k (false_from_ne_true (is_among removed k) (λ among. both_ways (not (is_among removed k)) (ap not among) both.1)))

    pub knows : (k : ℕ) → is_some (value_at new k) ≡ is_shown scene k
    knows k = elim (cases_Bool (is_among removed k)) [
      | inl among ↦ ap is_some (none k (in-times k among)) ∙ sym (left k ∙ rw among (and-false (is_some (value_at old k))))
      | inr off ↦ ap is_some (rest k (out-times k off)) ∙ sym (left k ∙ rw off (and-true (is_some (value_at old k))))
    ]

    -- so the table has exactly what is shown
    pub table-left : (objects : ℕ) (hs ks : List Handle) → KnowsSome objects new hs → numbers ks ≡ order scene → ((k : ℕ) → times ks k ≤ 1) → HasThese objects new ks
    table-left objects hs ks some listed once =
        these_alike objects new some.known ks (alike-each some.known ks (λ k.
        let each = some.these.each k in
        let one = once k in
        elim (cases_Bool (is_shown scene k)) [
          | inl shown ↦
              let more : 0 < times ks k = among-times ks k (subst (λ (ns : List ℕ). is_among ns k ≡ true) (sym listed) shown) in
              let count : value_count new k ≡ 1 = ap (λ (b : Bool). cond b 1 0) (knows k ∙ shown) in
              omega (arith, each, one, more, count)
          | inr hidden ↦
              let count : value_count new k ≡ 0 = ap (λ (b : Bool). cond b 1 0) (knows k ∙ hidden) in
              let zero : times ks k ≡ 0 = elim (cases_Bool (nat_lt 0 (times ks k))) [
                | inl some ↦
                    let more : 0 < times ks k = grind (arith, nat_tests, some) in
                    absurd (both_ways (is_shown scene k) hidden (subst (λ (ns : List ℕ). is_among ns k ≡ true) listed (times-among ks k more)))
                | inr nil ↦ grind (arith, nat_tests, nil)
              ] in
              omega (arith, each, count, zero)
        ])) some.these

    -- what went owes as much, whether it is listed as it was shown or as it was removed
    pub same-owed : (named : Option ℕ) (objects : ℕ) (hs : List Handle) → HasThese objects old hs → ((k : ℕ) → times gone k ≤ 1) →
        IsPermutation (flat_map (owed_gone named old) (numbers (gone_of scene hs))) (flat_map (owed_gone named old) (numbers gone))
    same-owed named objects hs these once =
        let f = owed_gone named old in
        let went = gone_of scene hs in
        let g : ℕ → List Rect = λ k. cond (nat_lt 0 (times went k)) [] (f k) in
        let fewer : (k : ℕ) → times went k ≤ times_of (numbers gone) k = λ k. elim (cases_Bool (nat_lt 0 (times went k))) [
          | inl some ↦
              let more : 0 < times went k = grind (arith, nat_tests, some) in
              let both = both-times scene hs k in
              let each = these.each k in
              let one = value-one (value_at old k) in
              let known : is_some (value_at old k) ≡ true = value-told (value_at old k) (omega (arith, more, both, each)) in
              let hidden : is_shown scene k ≡ false = false_from_ne_true (is_shown scene k) (λ shown. let zero = gone-times scene hs k shown in absurd (omega (arith, zero, more))) in
              let among : is_among removed k ≡ true = elim (cases_Bool (is_among removed k)) [
                | inl a ↦ a
                | inr off ↦ absurd (both_ways (is_shown scene k) hidden (left k ∙ rw (known, off) refl))
              ] in
              let listed = in-times k among in
              let same = numbers-times gone k in
              omega (arith, both, each, one, listed, same)
          | inr nil ↦ let zero : times went k ≡ 0 = grind (arith, nat_tests, nil) in omega (arith, zero)
        ] in
        let nothing : flat_map g (numbers gone) ≡ [] = flat-nothing g gone (λ k within. elim (cases_Bool (nat_lt 0 (times went k))) [
          | inl some ↦ rw some refl
          | inr nil ↦
              let zero : times went k ≡ 0 = grind (arith, nat_tests, nil) in
              let among : is_among removed k ≡ true = subst (λ (ns : List ℕ). is_among ns k ≡ true) is (times-among gone k within) in
              rw nil (by k zero among (value_at old k) refl)
        ]) in
        let all = all-first f (numbers gone) (λ k. let same = numbers-times gone k in let one = once k in omega (arith, same, one)) went g
        (λ k some. let more : nat_lt 0 (times went k) ≡ true = grind (arith, nat_tests, some) in rw more refl) (λ k zero. rw zero refl) fewer in
        subst (λ (rs : List Rect). IsPermutation rs (flat_map f (numbers gone)))
        (ap (λ (rs : List Rect). flat_map f (numbers went) ++ rs) nothing ∙ append-nil (flat_map f (numbers went))) all
      where
        by : (k : ℕ) → times (gone_of scene hs) k ≡ 0 → is_among removed k ≡ true → (o : Option Seen) → value_at old k ≡ o → owed_gone named old k ≡ []
        by k zero among None e = ap (λ (o : Option Seen). owed (is_named named k) (sight_of o) (sight_of None)) e ∙ nothing-owed (is_named named k)
        by k zero among (Some s) e =
            let count : value_count old k ≡ 1 = ap (λ (o : Option Seen). cond (is_some o) 1 0) e in
            let both = both-times scene hs k in
            let each = these.each k in
            let shown : is_shown scene k ≡ true = shown-times scene hs k (omega (arith, zero, count, both, each)) in
            let hidden : is_shown scene k ≡ false = left k ∙ rw among (and-false (is_some (value_at old k))) in
            absurd (both_ways (is_shown scene k) hidden shown)
