-- What a change of one object's uses changes of the users of styles.
use Rattle.std.proofs.Common.{◌≡◌, ◌≢◌, ℕ, suc, ◌+◌, ◌-◌, ◌<◌, Bool, true, false, ltb, List, [], ◌∷◌, ◌++◌, length, set, get_or, slice_get, option_map, Option, Some, None, inl, inr, refl, sym, ap, ◌∙◌, arith, length-set}
use Rattle.std.specs.List.{filter, list_any, remove}
use Rattle.std.proofs.lemmas.Bool.{cases_Bool, eqb-true, eq-eqb, ne_eqb, lt-ltb}
use Rattle.std.proofs.lemmas.Bool.Decides.{eqb_tells}
use Rattle.std.proofs.lemmas.List.{get_or-set_same, get_or-set_other, length-append}
use Rattle.std.proofs.lemmas.List.Edits.{length-remove}
use Rattle.gui_base.specs.declared.Handle.{Handle}
use Rattle.gui_pool.specs.Lists.{Lists, list_of, pushed, removed}
use Rattle.style_defs.specs.declared.Use.{Use}
use Rattle.style_defs.specs.Firsts.{place_by}
use Rattle.style_defs.proofs.Places.{has_at}
use Rattle.gui_style.specs.Styles.{is_handle, is_of_style}
use Rattle.gui_style.specs.Users.{AreUsers, count}
use Rattle.gui_style.proofs.ByProp.{found, filter_more, filter_other, filter_without, ranked}
use Rattle.gui_style.proofs.OfProp.{placed}

module _ {A : Type 0} (test : A → Bool) where
  count_more : (xs : List A) (x : A) → test x ≡ true → count test (xs ++ x ∷ []) ≡ count test xs + 1
  count_more xs x passes = ap length (filter_more test xs x passes) ∙ length-append (filter test xs) (x ∷ [])

  count_other : (xs : List A) (x : A) → test x ≡ false → count test (xs ++ x ∷ []) ≡ count test xs
  count_other xs x fails = ap length (filter_other test xs x fails)

  count_less : (xs : List A) (n : ℕ) (x : A) → slice_get xs n ≡ Some x → test x ≡ true → count test (remove xs n) + 1 ≡ count test xs
  count_less xs n x stands passes =
      let its = ranked test xs n x stands passes in
      let left = ap length its.removed in
      let one = length-remove (filter test xs) _ its.within in
      omega (arith, left, one)

  count_without : (xs : List A) (n : ℕ) (x : A) → slice_get xs n ≡ Some x → test x ≡ false → count test (remove xs n) ≡ count test xs
  count_without xs n x stands fails = ap length (filter_without test xs n x stands fails)

  count_none : (xs : List A) → place_by test xs ≡ None → count test xs ≡ 0
  count_none [] none = refl
  count_none (x ∷ xs) none = elim (cases_Bool (test x)) [
    | inl passes ↦ let no = rw passes at none in cc
    | inr fails ↦ rw fails (count_none xs (behind (place_by test xs) (rw fails at none)))
  ]
    where
      behind : (o : Option ℕ) → option_map suc o ≡ None → o ≡ None
      behind None e = refl
      behind (Some k) e = cc

  any_counted : (xs : List A) → list_any test xs ≡ ltb 0 (count test xs)
  any_counted [] = refl
  any_counted (x ∷ xs) = elim (cases_Bool (test x)) [
    | inl passes ↦ rw passes (sym (lt-ltb 0 (suc (count test xs)) (omega arith)))
    | inr fails ↦ rw fails (any_counted xs)
  ]

module _ (all : Lists Use) (users : Lists Handle) (kept : AreUsers all users) where
  pub these : (style h : ℕ) → list_any (is_handle h) (list_of users style) ≡ list_any (is_of_style style) (list_of all h)
  these style h =
      any_counted (is_handle h) (list_of users style) ∙ ap (ltb 0) (kept.each h style) ∙ sym (any_counted (is_of_style style) (list_of all h))

  module _ (h : ℕ) (within : h < length all.lists) (style : ℕ) (at : style < length users.lists) where
    recounted : (ys : List Use) (zs : List Handle) (spare spare' : ℕ) → count (is_handle h) zs ≡ count (is_of_style style) ys →
        ((k : ℕ) → k ≢ h → count (is_handle k) zs ≡ count (is_handle k) (list_of users style)) →
        ((t : ℕ) → t ≢ style → count (is_of_style t) ys ≡ count (is_of_style t) (list_of all h)) → spare' ≡ spare →
        AreUsers (record { lists = set all.lists h ys; spare = spare; size = all.size }) (record { lists = set users.lists style zs; spare = spare'; size = users.size })
    recounted ys zs spare spare' own objects styles same = record {
      styles = length-set users.lists style zs ∙ kept.styles;
      as_spare = same;
      each = λ k t. elim (eqb_tells k h) [
        | inl one ↦ elim (eqb_tells t style) [
          | inl this ↦
              ap (count (is_handle k)) (users_at t this.1) ∙ ap (λ j. count (is_handle j) zs) one.1
              ∙ own
              ∙ ap (λ j. count (is_of_style j) ys) (sym this.1) ∙ ap (count (is_of_style t)) (sym (all_at k one.1))
          | inr differs ↦
              ap (count (is_handle k)) (get_or-set_other users.lists style t zs [] differs.1)
              ∙ kept.each k t
              ∙ ap (λ j. count (is_of_style t) (list_of all j)) one.1 ∙ sym (styles t differs.1) ∙ ap (count (is_of_style t)) (sym (all_at k one.1))
        ]
        | inr other ↦ elim (eqb_tells t style) [
          | inl this ↦
              ap (count (is_handle k)) (users_at t this.1) ∙ objects k other.1 ∙ ap (λ j. count (is_handle k) (list_of users j)) (sym this.1)
              ∙ kept.each k t
              ∙ ap (count (is_of_style t)) (sym (get_or-set_other all.lists h k ys [] other.1))
          | inr differs ↦
              ap (count (is_handle k)) (get_or-set_other users.lists style t zs [] differs.1)
              ∙ kept.each k t
              ∙ ap (count (is_of_style t)) (sym (get_or-set_other all.lists h k ys [] other.1))
        ]
      ];
    }
      where
        users_at : (t : ℕ) → t ≡ style → get_or (set users.lists style zs) t [] ≡ zs
        users_at t e = ap (λ j. get_or (set users.lists style zs) j []) e ∙ get_or-set_same users.lists style zs [] at

        all_at : (k : ℕ) → k ≡ h → get_or (set all.lists h ys) k [] ≡ ys
        all_at k e = ap (λ j. get_or (set all.lists h ys) j []) e ∙ get_or-set_same all.lists h ys [] within

  -- one use more
  pub pushed_users : (g : Handle) → g.0 < length all.lists → (u : Use) → u.style < length users.lists → AreUsers (pushed all g.0 u) (pushed users u.style g)
  pushed_users g within u at =
      let xs = list_of all g.0 in let us = list_of users u.style in
      let own : count (is_handle g.0) (us ++ g ∷ []) ≡ count (is_of_style u.style) (xs ++ u ∷ []) =
      count_more (is_handle g.0) us g (eq-eqb g.0 g.0 refl) ∙ ap (λ n. n + 1) (kept.each g.0 u.style) ∙ sym (count_more (is_of_style u.style) xs u (eq-eqb u.style u.style refl)) in
      recounted g.0 within u.style at (xs ++ u ∷ []) (us ++ g ∷ []) _ _ own
      (λ k other. count_other (is_handle k) us g (ne_eqb g.0 k (λ e. other (sym e))))
      (λ t other. count_other (is_of_style t) xs u (ne_eqb u.style t (λ e. other (sym e))))
      (ap (λ n. n - 1) kept.as_spare)

  -- a use less
  module _ (h n : ℕ) (within : h < length all.lists) (u : Use) (stands : slice_get (list_of all h) n ≡ Some u) where
    some_uses : count (is_of_style u.style) (remove (list_of all h) n) + 1 ≡ count (is_of_style u.style) (list_of all h)
    some_uses = count_less (is_of_style u.style) (list_of all h) n u stands (eq-eqb u.style u.style refl)

    -- its object is one of the users
    pub has_user : None ≡ place_by (is_handle h) (list_of users u.style) → ⊥
    has_user none =
        let zero = count_none (is_handle h) (list_of users u.style) (sym none) in
        let same = kept.each h u.style in
        let some = some_uses in
        omega (arith, zero, same, some)

    pub user_within : (k : ℕ) → Some k ≡ place_by (is_handle h) (list_of users u.style) → k < length (list_of users u.style)
    user_within k e = (has_at (is_handle h) (list_of users u.style) k (sym e)).within

    pub removed_users : u.style < length users.lists → (k : ℕ) → Some k ≡ place_by (is_handle h) (list_of users u.style) → AreUsers (removed all h n) (removed users u.style k)
    removed_users at k e =
        let xs = list_of all h in let us = list_of users u.style in
        let g = found (is_handle h) us k (user_within k e) (placed (is_handle h) (is_handle h) (λ x is. is) us k (sym e)) in
        let is : g.0.0 ≡ h = eqb-true g.0.0 h g.2 in
        let less = count_less (is_handle h) us k g.0 g.1 g.2 in
        let same = kept.each h u.style in
        let some = some_uses in
        recounted h within u.style at (remove xs n) (remove us k) _ _ (omega (arith, less, same, some))
        (λ j other. count_without (is_handle j) us k g.0 g.1 (ne_eqb g.0.0 j (λ e. other (sym e ∙ is))))
        (λ t other. count_without (is_of_style t) xs n u stands (ne_eqb u.style t (λ e. other (sym e))))
        (ap (λ m. m + 1) kept.as_spare)
