-- The members of a group in turn.
use Rattle.std.proofs.Common.{◌≡◌, ℕ, zero, suc, ◌+◌, ◌<◌, ◌≤◌, ◌&&◌, Bool, true, false, List, [], ◌∷◌, ◌++◌, length, take, drop, map, set, get_or, add-one, one-add, subst, Option, Some, None, inl, inr, refl, sym, ap, ◌∙◌, arith}
use Rattle.std.specs.List.{position, position_or_len, find}
use Rattle.std.specs.Option.{option_or}
use Rattle.std.proofs.lemmas.List.Folds.{find-append}
use Rattle.std.proofs.lemmas.Option.{same_Some}
use Rattle.std.proofs.lemmas.List.{drop_all, take_all}
use Rattle.std.proofs.lemmas.Bool.{cases_Bool, cases_lt, lt-ltb, le-ltb}
use Rattle.gui_base.specs.declared.Handle.{Handle}
use Rattle.play_defs.specs.declared.Member.{Member}
use Rattle.play_defs.specs.Focus.{is_member, is_object, members_of, after, before, turned, turned_in, Groups, focused_in, group_at}

module _ (id : ℕ) (h : Handle) where
  -- the one that has the focus
  abbrev pub has_it : Member → Bool
  has_it member = is_member id member && is_object h member

  pub record StandsAt (xs : List Member) (k : ℕ) : Type 0 where
    pub after : after h (members_of id xs) ≡ members_of id (drop (suc k) xs)
    pub before : before h (members_of id xs) ≡ members_of id (take k xs)

  pub record StandsNowhere (xs : List Member) : Type 0 where
    pub after : after h (members_of id xs) ≡ []
    pub before : before h (members_of id xs) ≡ members_of id xs

  here : (x : Member) (xs : List Member) → has_it x ≡ true → StandsAt (x ∷ xs) 0
  here x xs it = of_test x xs (is_member id x) (is_object h x) refl refl it where
    of_test : (x : Member) (xs : List Member) (m o : Bool) → is_member id x ≡ m → is_object h x ≡ o → m && o ≡ true → StandsAt (x ∷ xs) 0
    of_test x xs true true em eo it = record { after = rw em (rw eo refl); before = rw em (rw eo refl) }
    of_test x xs true false em eo it = cc
    of_test x xs false o em eo it = cc

  further : (x : Member) (xs : List Member) (k : ℕ) → has_it x ≡ false → StandsAt xs k → StandsAt (x ∷ xs) (suc k)
  further x xs k other rest = of_test (is_member id x) (is_object h x) refl refl other where
    of_test : (m o : Bool) → is_member id x ≡ m → is_object h x ≡ o → m && o ≡ false → StandsAt (x ∷ xs) (suc k)
    of_test true true em eo it = cc
    of_test true false em eo it = record { after = rw em (rw eo rest.after); before = rw em (rw eo (ap (λ ys. x.h ∷ ys) rest.before)) }
    of_test false o em eo it = record { after = rw em rest.after; before = rw em rest.before }

  nowhere_more : (x : Member) (xs : List Member) → has_it x ≡ false → StandsNowhere xs → StandsNowhere (x ∷ xs)
  nowhere_more x xs other rest = of_test (is_member id x) (is_object h x) refl refl other where
    of_test : (m o : Bool) → is_member id x ≡ m → is_object h x ≡ o → m && o ≡ false → StandsNowhere (x ∷ xs)
    of_test true true em eo it = cc
    of_test true false em eo it = record { after = rw em (rw eo rest.after); before = rw em (rw eo (ap (λ ys. x.h ∷ ys) rest.before)) }
    of_test false o em eo it = record { after = rw em rest.after; before = rw em rest.before }

  pub stands_at : (xs : List Member) → position_or_len has_it xs < length xs → StandsAt xs (position_or_len has_it xs)
  stands_at [] l = absurd (omega arith)
  stands_at (x ∷ xs) l =
      elim (cases_Bool (has_it x)) [
        | inl it ↦ rw it (here x xs it)
        | inr other ↦ rw (other, one-add) (further x xs _ other (stands_at xs (let shorter = rw other at l in omega arith)))
      ]

  pub stands_nowhere : (xs : List Member) → length xs ≤ position_or_len has_it xs → StandsNowhere xs
  stands_nowhere [] l = record { after = refl; before = refl }
  stands_nowhere (x ∷ xs) l =
      elim (cases_Bool (has_it x)) [
        | inl it ↦ let shorter = rw it at l in absurd (omega arith)
        | inr other ↦ nowhere_more x xs other (stands_nowhere xs (let shorter = rw other at l in omega arith))
      ]

pub turned_at : (id : ℕ) (h : Handle) (xs : List Member) (k : ℕ) → position (has_it id h) xs ≡ Some k → turned (Some h) (members_of id xs) ≡ members_of id (drop (k + 1) xs) ++ members_of id (take k xs)
turned_at id h xs k e =
    elim (cases_lt (position_or_len (has_it id h) xs) (length xs)) [
      | inl lt ↦
          let there = lt-ltb _ _ lt in
          let place = same_Some (position_or_len (has_it id h) xs) k (rw there at e) in
          let at = subst (StandsAt id h xs) place (stands_at id h xs lt) in
          rw add-one (ap (λ ys. ys ++ before h (members_of id xs)) at.after ∙ ap (λ ys. members_of id (drop (suc k) xs) ++ ys) at.before)
      | inr ge ↦ let past = le-ltb _ _ ge in let no = rw past at e in absurd (none_some no)
    ] where
      none_some : None ≡ Some k → ⊥
      none_some j = cc

pub turned_nowhere : (id : ℕ) (h : Handle) (xs : List Member) → position (has_it id h) xs ≡ None → turned (Some h) (members_of id xs) ≡ members_of id (drop (length xs) xs) ++ members_of id (take (length xs) xs)
turned_nowhere id h xs e =
    elim (cases_lt (position_or_len (has_it id h) xs) (length xs)) [
      | inl lt ↦ let there = lt-ltb _ _ lt in let no = rw there at e in absurd (some_none _ no)
      | inr ge ↦
          let all = stands_nowhere id h xs ge in
          ap (λ ys. ys ++ before h (members_of id xs)) all.after
          ∙ all.before
          ∙ sym (ap (λ ys. members_of id ys) (take_all (length xs) xs (omega arith)))
          ∙ sym (ap (λ ys. members_of id ys ++ members_of id (take (length xs) xs)) (drop_all (length xs) xs (omega arith)))
    ] where
      some_none : (j : ℕ) → Some j ≡ None → ⊥
      some_none j k = cc

-- what stands later and what stands earlier, under other names
pub same_parts : (id : ℕ) (later earlier ys zs : List Member) → later ≡ ys → earlier ≡ zs → members_of id ys ++ members_of id zs ≡ members_of id later ++ members_of id earlier
same_parts id later earlier ys zs e k =
    sym (ap (λ (ms : List Member). members_of id ms ++ members_of id earlier) e ∙ ap (λ (ms : List Member). members_of id ys ++ members_of id ms) k)

-- the members in turn, by what is known of the group and its members
pub in_turn : (s : Groups) (id : ℕ) (f : Option Handle) (ms later earlier : List Member) → f ≡ focused_in (group_at s id) → ms ≡ s.members → turned f (members_of id ms) ≡ members_of id later ++ members_of id earlier → turned_in s id ≡ members_of id later ++ members_of id earlier
in_turn s id f ms later earlier e k order =
    sym (ap (λ (g : Option Handle). turned g (members_of id ms)) e ∙ ap (λ (ys : List Member). turned (focused_in (group_at s id)) (members_of id ys)) k) ∙ order

module _ (test : Handle → Bool) (zs xs ys : List Handle) (order : zs ≡ xs ++ ys) where
  parts : find test zs ≡ option_or (find test xs) (find test ys)
  parts = ap (λ (hs : List Handle). find test hs) order ∙ find-append test xs ys

  pub found_first : (h : Handle) → Some h ≡ find test xs → Some h ≡ find test zs
  found_first h e = sym (parts ∙ ap (λ (o : Option Handle). option_or o (find test ys)) (sym e))

  pub found_second : (r : Option Handle) → None ≡ find test xs → r ≡ find test ys → r ≡ find test zs
  found_second r e k = k ∙ sym (parts ∙ ap (λ (o : Option Handle). option_or o (find test ys)) (sym e))

-- A list whose values are replaced one after the other.
module _ {A : Type 0} (f : A → A) where
  still_there : (xs : List A) (i : ℕ) (d : A) → i < length xs → get_or (map f (take i xs) ++ drop i xs) i d ≡ get_or xs i d
  still_there [] i d l = absurd (omega arith)
  still_there (x ∷ xs) zero d l = refl
  still_there (x ∷ xs) (suc i) d l = still_there xs i d (omega arith)

  replaced : (xs : List A) (i : ℕ) (d : A) → i < length xs → set (map f (take i xs) ++ drop i xs) i (f (get_or xs i d)) ≡ map f (take (suc i) xs) ++ drop (suc i) xs
  replaced [] i d l = absurd (omega arith)
  replaced (x ∷ xs) zero d l = refl
  replaced (x ∷ xs) (suc i) d l = ap (λ ys. f x ∷ ys) (replaced xs i d (omega arith))

  pub one_more : (xs now : List A) (i : ℕ) (d y : A) → i < length xs → now ≡ map f (take i xs) ++ drop i xs → y ≡ f (get_or now i d) → set now i y ≡ map f (take (i + 1) xs) ++ drop (i + 1) xs
  one_more xs now i d y l e h =
      let value = h ∙ ap (λ ys. f (get_or ys i d)) e ∙ ap f (still_there xs i d l) in
      let done = replaced xs i d l in
      rw add-one (ap (λ ys. set ys i y) e ∙ ap (λ z. set (map f (take i xs) ++ drop i xs) i z) value ∙ done)
