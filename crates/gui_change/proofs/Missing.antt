-- Tables while what is gone is taken out, and what is missing is put in.
use Rattle.std.proofs.Common.{◌≡◌, ◌∙◌, sym, ap, subst, refl, ℕ, ◌+◌, ◌<◌, Bool, true, false, not, eqb, eq-eqb, cond, List, [], ◌∷◌, ◌++◌, length, length-append, Option, Some, None, is_some, inl, inr, arith}
use Rattle.std.specs.List.{filter}
use Rattle.std.proofs.lemmas.Bool.{both_ways, cases_Bool, eqb-true}
use Rattle.gui_base.specs.declared.Handle.{Handle}
use Rattle.gui_boxes.specs.Listing.{times, value_count, AreProper, HasThese}
use Rattle.gui_boxes.proofs.These.{HasBut, none_of}
use Rattle.gui_pool.specs.Table.{Table, value_at}
use Rattle.gui_tree.specs.Handles.{numbers}
use Rattle.scene_defs.specs.Scene.{Scene}
use Rattle.gui_change.specs.Gone.{KnowsSome, gone_of, is_shown, shown_of}
use Rattle.gui_debts.specs.declared.seen.Seen.{Seen}
use Rattle.gui_change.proofs.Alike.{same-length}
use Rattle.gui_change.proofs.Renewing.{times-append}

module _ (scene : Scene) where
  pub both-times : (hs : List Handle) (n : ℕ) → times (gone_of scene hs) n + times (shown_of scene hs) n ≡ times hs n
  both-times [] n = refl
  both-times (h ∷ hs) n = elim (cases_Bool (is_shown scene h.0)) [
    | inl is ↦ let a = both-times hs n in rw is (omega (arith, a))
    | inr isnt ↦ let a = both-times hs n in rw isnt (omega (arith, a))
  ]

  both-length : (hs : List Handle) → length (gone_of scene hs) + length (shown_of scene hs) ≡ length hs
  both-length [] = refl
  both-length (h ∷ hs) = elim (cases_Bool (is_shown scene h.0)) [
    | inl is ↦ let a = both-length hs in rw is (omega (arith, a))
    | inr isnt ↦ let a = both-length hs in rw isnt (omega (arith, a))
  ]

  -- while those that are gone are taken out
  pub hidden-begins : (objects : ℕ) (t : Table Seen) (hs : List Handle) → HasThese objects t hs → HasThese objects t (gone_of scene hs ++ shown_of scene hs)
  hidden-begins objects t hs these =
      let room = these.room in
      let len = both-length hs in
      let both = length-append (gone_of scene hs) (shown_of scene hs) in
      record {
        keys = these.keys;
        room = omega (arith, room, len, both);
        each = λ k. let a = these.each k in let b = both-times hs k in let c = times-append (gone_of scene hs) (shown_of scene hs) k in omega (arith, a, b, c);
      }

  pub gone-shown : (h : Handle) (hs : List Handle) → is_shown scene h.0 ≡ true → gone_of scene (h ∷ hs) ≡ gone_of scene hs
  gone-shown h hs is = rw is refl

  pub gone-other : (h : Handle) (hs : List Handle) → is_shown scene h.0 ≡ false → gone_of scene (h ∷ hs) ≡ h ∷ gone_of scene hs
  gone-other h hs isnt = rw isnt refl

  pub gone-filter : (hs : List Handle) → numbers (gone_of scene hs) ≡ filter (λ h. not (is_shown scene h)) (numbers hs)
  gone-filter [] = refl
  gone-filter (h ∷ hs) = elim (cases_Bool (is_shown scene h.0)) [
    | inl is ↦ rw is (gone-filter hs)
    | inr isnt ↦ rw isnt (ap (λ (xs : List ℕ). h.0 ∷ xs) (gone-filter hs))
  ]

  -- those that are shown are so
  pub shown-times : (hs : List Handle) (n : ℕ) → 0 < times (shown_of scene hs) n → is_shown scene n ≡ true
  shown-times [] n some = absurd (omega arith)
  shown-times (h ∷ hs) n some = elim (cases_Bool (is_shown scene h.0)) [
    | inl is ↦ elim (cases_Bool (eqb h.0 n)) [
      | inl here ↦ subst (λ (k : ℕ). is_shown scene k ≡ true) (eqb-true h.0 n here) is
      | inr other ↦ shown-times hs n (let a : 0 < cond (eqb h.0 n) 1 0 + times (shown_of scene hs) n = rw is at some in let b : 0 < 0 + times (shown_of scene hs) n = rw other at a in let d : 0 < times (shown_of scene hs) n = omega (arith, b) in d)
    ]
    | inr isnt ↦ shown-times hs n (rw isnt at some)
  ]

  -- and those that are gone are not
  pub gone-times : (hs : List Handle) (n : ℕ) → is_shown scene n ≡ true → times (gone_of scene hs) n ≡ 0
  gone-times [] n is = refl
  gone-times (h ∷ hs) n is = elim (cases_Bool (is_shown scene h.0)) [
    | inl own ↦ rw own (gone-times hs n is)
    | inr isnt ↦ elim (cases_Bool (eqb h.0 n)) [
      | inl here ↦ absurd (both_ways (is_shown scene n) (subst (λ (k : ℕ). is_shown scene k ≡ false) (eqb-true h.0 n here) isnt) is)
      | inr other ↦ let a = gone-times hs n is in rw (isnt, other) (omega (arith, a))
    ]
  ]

  -- of what is shown it is known what was known
  pub kept-shown : (objects : ℕ) (t u : Table Seen) (hs : List Handle) → HasThese objects t hs → HasThese objects u (shown_of scene hs) → ((k : ℕ) (s : Seen) → value_at u k ≡ Some s → value_at t k ≡ Some s) →
      (k : ℕ) → is_shown scene k ≡ true → value_at u k ≡ value_at t k
  kept-shown objects t u hs these left rest k is = by (value_at u k) refl where
    by : (o : Option Seen) → value_at u k ≡ o → value_at u k ≡ value_at t k
    by None e =
        let zero : value_count u k ≡ 0 = ap (λ (o : Option Seen). cond (is_some o) 1 0) e in
        let a = these.each k in
        let b = left.each k in
        let c = both-times hs k in
        let d = gone-times hs k is in
        e ∙ sym (none_of (value_at t k) (value_count t k) refl (omega (arith, zero, a, b, c, d)))
    by (Some s) e = e ∙ sym (rest k s e)

module _ (t : Table Seen) where
  abbrev knows : ℕ → Bool
  knows k = is_some (value_at t k)

  -- of these handles those of which nothing is known
  abbrev pub missing : List Handle → List Handle
  missing [] = []
  missing (h ∷ hs) = cond (knows h.0) (missing hs) (h ∷ missing hs)

  abbrev known_of : List Handle → List Handle
  known_of [] = []
  known_of (h ∷ hs) = cond (knows h.0) (h ∷ known_of hs) (known_of hs)

  pub missing-known : (h : Handle) (hs : List Handle) → knows h.0 ≡ true → missing (h ∷ hs) ≡ missing hs
  missing-known h hs is = rw is refl

  pub missing-other : (h : Handle) (hs : List Handle) → knows h.0 ≡ false → missing (h ∷ hs) ≡ h ∷ missing hs
  missing-other h hs isnt = rw isnt refl

  times-missing : (hs : List Handle) (k : ℕ) → times (missing hs) k ≡ cond (knows k) 0 (times hs k)
  times-missing [] k = elim (cases_Bool (knows k)) [ inl is ↦ rw is refl | inr isnt ↦ rw isnt refl ]
  times-missing (h ∷ hs) k = elim (cases_Bool (eqb h.0 k)) [
    | inl here ↦
        let same : knows h.0 ≡ knows k = ap knows (eqb-true h.0 k here) in
        elim (cases_Bool (knows k)) [
          | inl is ↦ rw (same, is) (times-missing hs k ∙ rw is refl)
          | inr isnt ↦ rw (same, isnt, here) (ap (λ (n : ℕ). 1 + n) (times-missing hs k ∙ rw isnt refl))
        ]
    | inr other ↦
        let rest = times-missing hs k in
        elim (cases_Bool (knows k)) [
          | inl is ↦
              let zero : times (missing hs) k ≡ 0 = rest ∙ rw is refl in
              elim (cases_Bool (knows h.0)) [ inl own ↦ rw (own, is) zero | inr off ↦ rw (off, is, other) (omega (arith, zero)) ]
          | inr isnt ↦
              let all : times (missing hs) k ≡ times hs k = rest ∙ rw isnt refl in
              elim (cases_Bool (knows h.0)) [ inl own ↦ rw (own, isnt, other) (omega (arith, all)) | inr off ↦ rw (off, isnt, other) (omega (arith, all)) ]
        ]
  ]

  both-known : (hs : List Handle) (k : ℕ) → times (known_of hs) k + times (missing hs) k ≡ times hs k
  both-known [] k = refl
  both-known (h ∷ hs) k = elim (cases_Bool (knows h.0)) [
    | inl is ↦ let a = both-known hs k in rw is (omega (arith, a))
    | inr isnt ↦ let a = both-known hs k in rw isnt (omega (arith, a))
  ]

  length-known : (hs : List Handle) → length (known_of hs) + length (missing hs) ≡ length hs
  length-known [] = refl
  length-known (h ∷ hs) = elim (cases_Bool (knows h.0)) [
    | inl is ↦ let a = length-known hs in rw is (omega (arith, a))
    | inr isnt ↦ let a = length-known hs in rw isnt (omega (arith, a))
  ]

  count-some : (k : ℕ) → knows k ≡ true → value_count t k ≡ 1
  count-some k is = rw is refl

  count-none : (k : ℕ) → knows k ≡ false → value_count t k ≡ 0
  count-none k isnt = rw isnt refl

  -- while what is missing is put in
  module _ (objects : ℕ) (hs : List Handle) (proper : AreProper hs) (some : KnowsSome objects t hs) where
    each-missing : (k : ℕ) → value_count t k + times (missing hs) k ≡ times hs k
    each-missing k = elim (cases_Bool (knows k)) [
      | inl is ↦
          let one = count-some k is in
          let each = some.these.each k in
          let once = proper.once k in
          let in' = some.within k (omega (arith, one, each)) in
          let none : times (missing hs) k ≡ 0 = times-missing hs k ∙ rw is refl in
          omega (arith, one, once, in', none)
      | inr isnt ↦
          let zero = count-none k isnt in
          let all : times (missing hs) k ≡ times hs k = times-missing hs k ∙ rw isnt refl in
          omega (arith, zero, all)
    ]

    pub missing-begins : HasBut objects t hs (missing hs)
    missing-begins =
        let room = some.these.room in
        let len = length-known hs in
        let same = same-length some.known (known_of hs) (λ k. let a = each-missing k in let b = both-known hs k in let c = some.these.each k in let d : times (known_of hs) k ≡ times some.known k = omega (arith, a, b, c) in d) in
        record { keys = some.these.keys; room = omega (arith, room, len, same); each = each-missing }

  -- the next one is known where it was
  pub missing-told : (objects : ℕ) (u : Table Seen) (h : Handle) (hs rest : List Handle) → AreProper hs → 0 < times hs h.0 → HasBut objects u hs (missing (h ∷ rest)) → is_some (value_at u h.0) ≡ knows h.0
  missing-told objects u h hs rest proper listed but =
      let once = proper.once h.0 in
      let each = but.each h.0 in
      let left = times-missing (h ∷ rest) h.0 in
      elim (cases_Bool (knows h.0)) [
        | inl is ↦
            let none : times (missing (h ∷ rest)) h.0 ≡ 0 = left ∙ rw is refl in
            some-of (value_at u h.0) (omega (arith, once, each, none, listed)) ∙ sym is
        | inr isnt ↦
            let self : eqb h.0 h.0 ≡ true = eq-eqb h.0 h.0 refl in
            let more : times (missing (h ∷ rest)) h.0 ≡ 1 + times rest h.0 = left ∙ rw (isnt, self) refl in
            none-of (value_at u h.0) (omega (arith, once, each, more)) ∙ sym isnt
      ]
    where
      some-of : (o : Option Seen) → ◌≡◌ {A = ℕ} (cond (is_some o) 1 0) 1 → is_some o ≡ true
      some-of None e = cc
      some-of (Some v) e = refl

      none-of : (o : Option Seen) → ◌≡◌ {A = ℕ} (cond (is_some o) 1 0) 0 → is_some o ≡ false
      none-of None e = refl
      none-of (Some v) e = cc
