-- What a change of one list of entries changes for each owner.
use Rattle.std.proofs.Common.{◌≡◌, ◌≢◌, ℕ, zero, suc, ◌-◌, ◌<◌, ◌≤◌, cond, eqb, List, [], ◌∷◌, ◌++◌, length, slice_get, set, option_map, Option, Some, None, inl, inr, refl, sym, ap, ◌∙◌, subst, arith}
use Rattle.std.specs.List.{remove}
use Rattle.std.proofs.lemmas.Bool.{ne_eqb, eq-eqb}
use Rattle.std.proofs.lemmas.Bool.Decides.{eqb_tells}
use Rattle.std.proofs.lemmas.Option.{same_Some}
use Rattle.gui_pool.specs.declared.entry.Entry.{Entry}
use Rattle.gui_pool.specs.Owners.{values_of, nth_place, here_or}
use Rattle.gui_pool.proofs.Entries.{mapped_none, mapped_some}

pub here_more : (rest : ℕ → Option ℕ) (n : ℕ) → n ≢ 0 → here_or rest n ≡ option_map suc (rest (n - 1))
here_more rest zero d = absurd (d refl)
here_more rest (suc n) d = ap (λ k. option_map suc (rest k)) (omega arith)

pub inside : {X : Type 0} (xs : List X) (k : ℕ) → k < length xs → slice_get xs k ≡ None → ⊥
inside [] k lt e = omega arith
inside (x ∷ xs) zero lt e = cc
inside (x ∷ xs) (suc k) lt e = inside xs k (omega arith) e

module _ {T : Type 0} where
  -- the owner's values become these, and the others keep theirs
  pub record Turns (xs ys : List (Entry T)) (owner : ℕ) (zs : List T) : Type 0 where
    pub at : values_of owner ys ≡ zs
    pub others : (k : ℕ) → k ≢ owner → values_of k ys ≡ values_of k xs

  own_value : (x : Entry T) (xs : List (Entry T)) (owner : ℕ) → x.key ≡ owner → values_of owner (x ∷ xs) ≡ x.value ∷ values_of owner xs
  own_value x xs owner e = ap (λ b. cond b (x.value ∷ values_of owner xs) (values_of owner xs)) (eq-eqb x.key owner e)

  pub other_value : (x : Entry T) (xs : List (Entry T)) (owner : ℕ) → x.key ≢ owner → values_of owner (x ∷ xs) ≡ values_of owner xs
  other_value x xs owner d = ap (λ b. cond b (x.value ∷ values_of owner xs) (values_of owner xs)) (ne_eqb x.key owner d)

  under_own : (x : Entry T) (xs ys : List (Entry T)) (owner : ℕ) (zs : List T) → x.key ≡ owner → Turns xs ys owner zs → Turns (x ∷ xs) (x ∷ ys) owner (x.value ∷ zs)
  under_own x xs ys owner zs e t =
      record { at = own_value x ys owner e ∙ ap (λ l. x.value ∷ l) t.at; others = λ k d. ap (λ l. cond (eqb x.key k) (x.value ∷ l) l) (t.others k d) }

  under_other : (x : Entry T) (xs ys : List (Entry T)) (owner : ℕ) (zs : List T) → x.key ≢ owner → Turns xs ys owner zs → Turns (x ∷ xs) (x ∷ ys) owner zs
  under_other x xs ys owner zs e t =
      record { at = other_value x ys owner e ∙ t.at; others = λ k d. ap (λ l. cond (eqb x.key k) (x.value ∷ l) l) (t.others k d) }

  pub pushed_value : (xs : List (Entry T)) (owner : ℕ) (value : T) → Turns xs (xs ++ record { key = owner; value = value } ∷ []) owner (values_of owner xs ++ value ∷ [])
  pushed_value [] owner value =
      let e : Entry T = record { key = owner; value = value } in
      record { at = own_value e [] owner refl; others = λ k d. other_value e [] k (λ q. d (sym q)) }
  pushed_value (x ∷ xs) owner value =
      elim (eqb_tells x.key owner) [
        | inl same ↦ subst (λ l. Turns (x ∷ xs) (x ∷ (xs ++ record { key = owner; value = value } ∷ [])) owner (l ++ value ∷ [])) (sym (own_value x xs owner same.1)) (under_own x xs _ owner _ same.1 (pushed_value xs owner value))
        | inr other ↦ subst (λ l. Turns (x ∷ xs) (x ∷ (xs ++ record { key = owner; value = value } ∷ [])) owner (l ++ value ∷ [])) (sym (other_value x xs owner other.1)) (under_other x xs _ owner _ other.1 (pushed_value xs owner value))
      ]

  -- an owner's nth value stands at a place; `all` is the owner's values
  pub record NthAt (xs : List (Entry T)) (all : List T) (owner n p : ℕ) : Type 0 where
    pub within : p < length xs
    pub inner : n < length all
    pub value : (e : Entry T) → Some e ≡ slice_get xs p → Some e.value ≡ slice_get all n
    pub replaced : (w : T) → Turns xs (set xs p (record { key = owner; value = w })) owner (set all n w)
    pub removed : Turns xs (remove xs p) owner (remove all n)

  nth_own : (x : Entry T) (xs : List (Entry T)) (owner n p : ℕ) → x.key ≡ owner → ((m q : ℕ) → nth_place xs owner m ≡ Some q → NthAt xs (values_of owner xs) owner m q) → here_or (nth_place xs owner) n ≡ Some p → NthAt (x ∷ xs) (x.value ∷ values_of owner xs) owner n p
  nth_own x xs owner zero p same rest e =
      let past : (k : ℕ) → k ≢ owner → values_of k xs ≡ values_of k (x ∷ xs) = λ k d. sym (other_value x xs k (λ q. d (sym q ∙ same))) in
      subst (NthAt (x ∷ xs) (x.value ∷ values_of owner xs) owner 0) (same_Some 0 p e) (record {
        within = omega arith;
        inner = omega arith;
        value = λ y q. ap Some (ap (λ z. z.value) (same_Some y x q));
        replaced = λ w.
            let new : Entry T = record { key = owner; value = w } in
            record { at = own_value new xs owner refl; others = λ k d. other_value new xs k (λ q. d (sym q)) ∙ past k d };
        removed = record { at = refl; others = past };
      })
  nth_own x xs owner (suc n) p same rest e =
      let m = mapped_some (nth_place xs owner n) p e in
      let r = rest n m.0 m.1 in
      subst (NthAt (x ∷ xs) (x.value ∷ values_of owner xs) owner (suc n)) (sym m.2) (record {
        within = let lt = r.within in omega arith;
        inner = let lt = r.inner in omega arith;
        value = λ y q. r.value y q;
        replaced = λ w. under_own x xs _ owner _ same (r.replaced w);
        removed = under_own x xs _ owner _ same r.removed;
      })

  pub nth_at : (xs : List (Entry T)) (owner n p : ℕ) → nth_place xs owner n ≡ Some p → NthAt xs (values_of owner xs) owner n p
  nth_at [] owner n p e = cc
  nth_at (x ∷ xs) owner n p e =
      elim (eqb_tells x.key owner) [
        | inl same ↦
            subst (λ l. NthAt (x ∷ xs) l owner n p) (sym (own_value x xs owner same.1)) (nth_own x xs owner n p same.1 (λ m q. nth_at xs owner m q) (ap (λ b. cond b (here_or (nth_place xs owner) n) (option_map suc (nth_place xs owner n))) (sym same.0) ∙ e))
        | inr other ↦
            let m = mapped_some (nth_place xs owner n) p (ap (λ b. cond b (here_or (nth_place xs owner) n) (option_map suc (nth_place xs owner n))) (sym other.0) ∙ e) in
            let r = nth_at xs owner n m.0 m.1 in
            subst (λ l. NthAt (x ∷ xs) l owner n p) (sym (other_value x xs owner other.1)) (subst (NthAt (x ∷ xs) (values_of owner xs) owner n) (sym m.2) (record {
              within = let lt = r.within in omega arith;
              inner = r.inner;
              value = λ y q. r.value y q;
              replaced = λ w. under_other x xs _ owner _ other.1 (r.replaced w);
              removed = under_other x xs _ owner _ other.1 r.removed;
            }))
      ]

  here_none : (rest : ℕ → Option ℕ) (all : List T) (x : T) (n : ℕ) → ((m : ℕ) → rest m ≡ None → length all ≤ m) → here_or rest n ≡ None → length (x ∷ all) ≤ n
  here_none rest all x zero few e = cc
  here_none rest all x (suc n) few e = let le = few n (mapped_none (rest n) e) in omega arith

  pub nth_none : (xs : List (Entry T)) (owner n : ℕ) → nth_place xs owner n ≡ None → length (values_of owner xs) ≤ n
  nth_none [] owner n e = omega arith
  nth_none (x ∷ xs) owner n e =
      elim (eqb_tells x.key owner) [
        | inl same ↦
            subst (λ l. length l ≤ n) (sym (own_value x xs owner same.1)) (here_none (nth_place xs owner) (values_of owner xs) x.value n (λ m. nth_none xs owner m) (ap (λ b. cond b (here_or (nth_place xs owner) n) (option_map suc (nth_place xs owner n))) (sym same.0) ∙ e))
        | inr other ↦
            subst (λ l. length l ≤ n) (sym (other_value x xs owner other.1)) (nth_none xs owner n (mapped_none (nth_place xs owner n) (ap (λ b. cond b (here_or (nth_place xs owner) n) (option_map suc (nth_place xs owner n))) (sym other.0) ∙ e)))
      ]

  pub values_of_few : (xs : List (Entry T)) (owner : ℕ) → length (values_of owner xs) ≤ length xs
  values_of_few [] owner = omega arith
  values_of_few (x ∷ xs) owner =
      let le = values_of_few xs owner in
      elim (eqb_tells x.key owner) [
        | inl same ↦ subst (λ l. length l ≤ length (x ∷ xs)) (sym (own_value x xs owner same.1)) (omega arith)
        | inr other ↦ subst (λ l. length l ≤ length (x ∷ xs)) (sym (other_value x xs owner other.1)) (omega arith)
      ]
