-- The fold of a cascade finds its winner, and nothing else.
use Rattle.std.proofs.Common.{◌≡◌, ◌⊎◌, ◌<◌, ◌≤◌, ℕ, ltb, List, [], ◌∷◌, map, Option, Some, None, fold, inl, inr, refl, sym, ap, ◌∙◌, subst, arith}
use Rattle.std.specs.List.{All}
use Rattle.std.proofs.lemmas.Bool.{cases_Bool, ltb-true, ltb-false, lt-ltb, le-ltb}
use Rattle.std.proofs.lemmas.List.{map-append}
use Rattle.std.proofs.lemmas.List.Elements.{All-nil, All-cons, All-head, All-tail, All-append, All-weaker}
use Rattle.std.proofs.lemmas.List.Sums.{fold-append}
use Rattle.std.proofs.lemmas.Option.{same_Some, none-some}
use Rattle.gui_base.specs.declared.words.Part.{Part}
use Rattle.gui_base.specs.declared.props.Prop.{Prop}
use Rattle.style_defs.specs.declared.Candidate.{Candidate}
use Rattle.style_defs.specs.declared.Entry.{Entry}
use Rattle.style_defs.specs.declared.Use.{Use}
use Rattle.style_defs.specs.Cascade.{Style, of_use, of_entry, stronger, winner}
use Rattle.style_defs.specs.Laws.{IsAtMost, IsBelow, GivesGreatest, IsWinner, NoneApplies, WinnerIsGreatest, NoneWinsOfNone}

cases_given : (o : Option Candidate) → (o ≡ None) ⊎ ((d : Candidate) × (o ≡ Some d))
cases_given None = inl refl
cases_given (Some d) = inr (d, refl)

nothing_at_most : (n : ℕ) (o : Option Candidate) → o ≡ None → IsAtMost n o
nothing_at_most n o e = λ d is. absurd (none-some d (sym e ∙ is))

nothing_below : (n : ℕ) (o : Option Candidate) → o ≡ None → IsBelow n o
nothing_below n o e = λ d is. absurd (none-some d (sym e ∙ is))

one_at_most : (n : ℕ) (o : Option Candidate) (c : Candidate) → o ≡ Some c → c.states ≤ n → IsAtMost n o
one_at_most n o c e le = λ d is. subst (λ k. k.states ≤ n) (same_Some c d (sym e ∙ is)) le

one_below : (n : ℕ) (o : Option Candidate) (c : Candidate) → o ≡ Some c → c.states < n → IsBelow n o
one_below n o c e lt = λ d is. subst (λ k. k.states < n) (same_Some c d (sym e ∙ is)) lt

-- what one step keeps
at_most_kept : (n : ℕ) (o p : Option Candidate) → IsAtMost n o → IsAtMost n p → IsAtMost n (stronger o p)
at_most_kept n o None a b = a
at_most_kept n None (Some d) a b = b
at_most_kept n (Some c) (Some d) a b =
    elim (cases_Bool (ltb d.states c.states)) [
      | inl less ↦ rw less a
      | inr more ↦ rw more b
    ]

stays : (c : Candidate) (o : Option Candidate) → IsBelow c.states o → stronger (Some c) o ≡ Some c
stays c None below = refl
stays c (Some d) below = let less = lt-ltb d.states c.states (below d refl) in rw less refl

taken : (c : Candidate) (o : Option Candidate) → IsAtMost c.states o → stronger o (Some c) ≡ Some c
taken c None most = refl
taken c (Some d) most = let more = le-ltb c.states d.states (most d refl) in rw more refl

none_of_two : (o p : Option Candidate) → stronger o p ≡ None → (o ≡ None) × (p ≡ None)
none_of_two o None e = (e, refl)
none_of_two None (Some d) e = cc
none_of_two (Some c) (Some d) e =
    elim (cases_Bool (ltb d.states c.states)) [
      | inl less ↦ let no = rw less at e in cc
      | inr more ↦ let no = rw more at e in cc
    ]

module _ {A : Type 0} (gives : A → Option Candidate) where
  abbrev best : Option Candidate → List A → Option Candidate
  best start xs = fold stronger start (map gives xs)

  later : (x : A) (xs : List A) (c : Candidate) → IsAtMost c.states (gives x) → GivesGreatest gives xs c → GivesGreatest gives (x ∷ xs) c
  later x xs c le w = record {
    front = x ∷ w.front;
    one = w.one;
    back = w.back;
    whole = ap (λ ys. x ∷ ys) w.whole;
    given = w.given;
    before = All-cons (λ y. IsAtMost c.states (gives y)) x w.front le w.before;
    behind = w.behind;
  }

  here : (x : A) (xs : List A) (c : Candidate) → gives x ≡ Some c → All (λ y. IsBelow c.states (gives y)) xs → GivesGreatest gives (x ∷ xs) c
  here x xs c given less = record {
    front = [];
    one = x;
    back = xs;
    whole = refl;
    given = given;
    before = All-nil (λ y. IsAtMost c.states (gives y));
    behind = less;
  }

  -- the best so far stands, or one of the rest is at least as great
  stands : (xs : List A) (b c : Candidate) → best (Some b) xs ≡ Some c → ((c ≡ b) × All (λ x. IsBelow b.states (gives x)) xs) ⊎ (GivesGreatest gives xs c × (b.states ≤ c.states))
  stands [] b c e = inl (sym (same_Some b c e), All-nil (λ x. IsBelow b.states (gives x)))
  stands (x ∷ xs) b c e =
      elim (cases_given (gives x)) [
        | inl nothing ↦
            elim (stands xs b c (rw nothing at e)) [
              | inl same ↦ inl (same.0, All-cons (λ y. IsBelow b.states (gives y)) x xs (nothing_below b.states (gives x) nothing) same.1)
              | inr w ↦ inr (later x xs c (nothing_at_most c.states (gives x) nothing) w.0, w.1)
            ]
        | inr some ↦
            let d = some.0 in
            elim (cases_Bool (ltb d.states b.states)) [
              | inl less ↦
                  let lt = ltb-true d.states b.states less in
                  elim (stands xs b c (rw (some.1, less) at e)) [
                    | inl same ↦ inl (same.0, All-cons (λ y. IsBelow b.states (gives y)) x xs (one_below b.states (gives x) d some.1 lt) same.1)
                    | inr w ↦ let le = w.1 in inr (later x xs c (one_at_most c.states (gives x) d some.1 (omega arith)) w.0, le)
                  ]
              | inr more ↦
                  let ge = ltb-false d.states b.states more in
                  elim (stands xs d c (rw (some.1, more) at e)) [
                    | inl same ↦
                        let states : c.states ≡ d.states = ap (λ k. k.states) same.0 in
                        inr (subst (GivesGreatest gives (x ∷ xs)) (sym same.0) (here x xs d some.1 same.1), omega arith)
                    | inr w ↦ let le = w.1 in inr (later x xs c (one_at_most c.states (gives x) d some.1 le) w.0, omega arith)
                  ]
            ]
      ]

  found : (xs : List A) (c : Candidate) → best None xs ≡ Some c → GivesGreatest gives xs c
  found [] c e = cc
  found (x ∷ xs) c e =
      elim (cases_given (gives x)) [
        | inl nothing ↦ later x xs c (nothing_at_most c.states (gives x) nothing) (found xs c (rw nothing at e))
        | inr some ↦
            let d = some.0 in
            elim (stands xs d c (rw some.1 at e)) [
              | inl same ↦ subst (GivesGreatest gives (x ∷ xs)) (sym same.0) (here x xs d some.1 same.1)
              | inr w ↦ later x xs c (one_at_most c.states (gives x) d some.1 w.1) w.0
            ]
      ]

  -- all of them give at most what the greatest of them does
  most : (n : ℕ) (xs : List A) (c : Candidate) → GivesGreatest gives xs c → c.states ≤ n → All (λ x. IsAtMost n (gives x)) xs
  most n xs c w le =
      let P : A → Type 0 = λ x. IsAtMost n (gives x) in
      let front = All-weaker (λ x. IsAtMost c.states (gives x)) P (λ x most d is. let m = most d is in omega arith) w.front w.before in
      let back = All-weaker (λ x. IsBelow c.states (gives x)) P (λ x below d is. let m = below d is in omega arith) w.back w.behind in
      subst (All P) (sym w.whole) (All-append P w.front (w.one ∷ w.back) front (All-cons P w.one w.back (one_at_most n (gives w.one) c w.given le) back))

  all_at_most : (n : ℕ) (start : Option Candidate) (xs : List A) → IsAtMost n start → All (λ x. IsAtMost n (gives x)) xs → IsAtMost n (best start xs)
  all_at_most n start [] s all = s
  all_at_most n start (x ∷ xs) s all =
      let P : A → Type 0 = λ y. IsAtMost n (gives y) in
      all_at_most n (stronger start (gives x)) xs (at_most_kept n start (gives x) s (All-head P x xs all)) (All-tail P x xs all)

  all_stay : (c : Candidate) (xs : List A) → All (λ x. IsBelow c.states (gives x)) xs → best (Some c) xs ≡ Some c
  all_stay c [] all = refl
  all_stay c (x ∷ xs) all =
      let P : A → Type 0 = λ y. IsBelow c.states (gives y) in
      ap (λ o. best o xs) (stays c (gives x) (All-head P x xs all)) ∙ all_stay c xs (All-tail P x xs all)

  -- the greatest wins over a start that is not greater
  greatest_wins : (start : Option Candidate) (xs : List A) (c : Candidate) → IsAtMost c.states start → GivesGreatest gives xs c → best start xs ≡ Some c
  greatest_wins start xs c s w =
      let front : IsAtMost c.states (best start w.front) = all_at_most c.states start w.front s w.before in
      ap (best start) w.whole
      ∙ ap (fold stronger start) (map-append gives w.front (w.one ∷ w.back))
      ∙ fold-append stronger start (map gives w.front) (map gives (w.one ∷ w.back))
      ∙ ap (λ o. best (stronger (best start w.front) o) w.back) w.given
      ∙ ap (λ o. best o w.back) (taken c (best start w.front) front)
      ∙ all_stay c w.back w.behind

  none_found : (start : Option Candidate) (xs : List A) → best start xs ≡ None → (start ≡ None) × All (λ x. gives x ≡ None) xs
  none_found start [] e = (e, All-nil (λ x. gives x ≡ None))
  none_found start (x ∷ xs) e =
      let rest = none_found (stronger start (gives x)) xs e in
      let both = none_of_two start (gives x) rest.0 in
      (both.0, All-cons (λ y. gives y ≡ None) x xs both.1 rest.1)

  none_given : (xs : List A) → All (λ x. gives x ≡ None) xs → best None xs ≡ None
  none_given [] all = refl
  none_given (x ∷ xs) all =
      let P : A → Type 0 = λ y. gives y ≡ None in
      ap (λ o. best (stronger None o) xs) (All-head P x xs all) ∙ none_given xs (All-tail P x xs all)

module _ (styles : List Style) (uses : List Use) (locals : List Entry) (part : Part) (states : ℕ) (prop : Prop) where
  abbrev shared : Option Candidate
  shared = best (of_use styles part states prop) None uses

  parts : winner styles uses locals part states prop ≡ best (of_entry part states prop) shared locals
  parts = fold-append stronger None (map (of_use styles part states prop) uses) (map (of_entry part states prop) locals)

  wins : (c : Candidate) → winner styles uses locals part states prop ≡ Some c → IsWinner styles uses locals part states prop c
  wins c e =
      let of_locals : best (of_entry part states prop) shared locals ≡ Some c = sym parts ∙ e in
      elim (cases_given shared) [
        | inl nothing ↦
            inl (record {
              local = found (of_entry part states prop) locals c (rw nothing at of_locals);
              others =
                  All-weaker (λ u. of_use styles part states prop u ≡ None) (λ u. IsAtMost c.states (of_use styles part states prop u)) (λ u none. nothing_at_most c.states (of_use styles part states prop u) none) uses ((none_found (of_use styles part states prop) None uses nothing).1);
            })
        | inr some ↦
            let b = some.0 in
            elim (stands (of_entry part states prop) locals b c (rw some.1 at of_locals)) [
              | inl same ↦
                  subst (IsWinner styles uses locals part states prop) (sym same.0) (inr (record { shared = found (of_use styles part states prop) uses b some.1; others = same.1 }))
              | inr w ↦
                  inl (record {
                    local = w.0;
                    others = most (of_use styles part states prop) c.states uses b (found (of_use styles part states prop) uses b some.1) w.1;
                  })
            ]
      ]

  won : (c : Candidate) → IsWinner styles uses locals part states prop c → winner styles uses locals part states prop ≡ Some c
  won c w =
      parts
      ∙ elim w as (λ _. best (of_entry part states prop) shared locals ≡ Some c) [
        | inl l ↦
            greatest_wins (of_entry part states prop) shared locals c (all_at_most (of_use styles part states prop) c.states None uses (nothing_at_most c.states None refl) l.others) l.local
        | inr s ↦
            ap (λ o. best (of_entry part states prop) o locals) (greatest_wins (of_use styles part states prop) None uses c (nothing_at_most c.states None refl) s.shared)
            ∙ all_stay (of_entry part states prop) c locals s.others
      ]

  none_wins : winner styles uses locals part states prop ≡ None → NoneApplies styles uses locals part states prop
  none_wins e =
      let of_locals = none_found (of_entry part states prop) shared locals (sym parts ∙ e) in
      record { none_shared = (none_found (of_use styles part states prop) None uses of_locals.0).1; none_local = of_locals.1 }

  none_applies : NoneApplies styles uses locals part states prop → winner styles uses locals part states prop ≡ None
  none_applies n =
      parts
      ∙ ap (λ o. best (of_entry part states prop) o locals) (none_given (of_use styles part states prop) uses n.none_shared)
      ∙ none_given (of_entry part states prop) locals n.none_local

pub winner_is_greatest : WinnerIsGreatest
winner_is_greatest styles uses locals part states prop c = (wins styles uses locals part states prop c, won styles uses locals part states prop c)

pub none_wins_of_none : NoneWinsOfNone
none_wins_of_none styles uses locals part states prop = (none_wins styles uses locals part states prop, none_applies styles uses locals part states prop)
