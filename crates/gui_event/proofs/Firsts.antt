-- The first of a list that passes a test, and the list without those that pass.
use Rattle.std.proofs.Common.{◌≡◌, ℕ, suc, ◌+◌, ◌<◌, Bool, not, List, [], ◌∷◌, length, set, option_map, Option, Some, None, inl, inr, refl, sym, ap, ◌∙◌, subst, arith}
use Rattle.std.specs.List.{remove, filter}
use Rattle.std.proofs.lemmas.Bool.{cases_Bool}
use Rattle.std.proofs.lemmas.List.{get_or-set_same, set-set, set-get_or}
use Rattle.std.proofs.lemmas.Option.{same_Some}
use Rattle.gui_base.specs.declared.events.EventKind.{EventKind}
use Rattle.play_defs.specs.declared.Handler.{Handler}
use Rattle.play_defs.specs.Handlers.{is_of, handlers_of, without_kind}
use Rattle.gui_event.specs.Kept.{place_by}

-- so many more
abbrev pub beyond : ℕ → Option ℕ → Option ℕ
beyond n o = option_map (λ k. n + k) o

mapped_none : (o : Option ℕ) → option_map suc o ≡ None → o ≡ None
mapped_none None e = refl
mapped_none (Some k) e = cc

mapped_some : (o : Option ℕ) (k : ℕ) → option_map suc o ≡ Some k → (j : ℕ) × (o ≡ Some j) × (k ≡ suc j)
mapped_some None k e = cc
mapped_some (Some j) k e = (j, refl, sym (same_Some (suc j) k e))

module _ {A : Type 0} (test : A → Bool) where
  abbrev pub others : List A → List A
  others xs = filter (λ x. not (test x)) xs

  pub none_passes : (xs : List A) → place_by test xs ≡ None → others xs ≡ xs
  none_passes [] e = refl
  none_passes (x ∷ xs) e =
      elim (cases_Bool (test x)) [
        | inl same ↦ let no = rw same at e in cc
        | inr other ↦ rw other (ap (λ ys. x ∷ ys) (none_passes xs (mapped_none (place_by test xs) (rw other at e))))
      ]

  -- the first that passes stands at a place
  pub record PassesAt (xs : List A) (k : ℕ) : Type 0 where
    pub within : k < length xs
    pub without : others (remove xs k) ≡ others xs
    pub less : suc (length (remove xs k)) ≡ length xs

  pub passes_at : (xs : List A) (k : ℕ) → place_by test xs ≡ Some k → PassesAt xs k
  passes_at [] k e = cc
  passes_at (x ∷ xs) k e =
      elim (cases_Bool (test x)) [
        | inl same ↦
            let here : 0 ≡ k = same_Some 0 k (rw same at e) in
            subst (PassesAt (x ∷ xs)) here (record { within = omega arith; without = rw same refl; less = omega arith })
        | inr other ↦
            let m = mapped_some (place_by test xs) k (rw other at e) in
            let rest = passes_at xs m.0 m.1 in
            subst (PassesAt (x ∷ xs)) (sym m.2) (record {
              within = let lt = rest.within in omega arith;
              without = rw other (ap (λ ys. x ∷ ys) rest.without);
              less = let one = rest.less in omega arith;
            })
      ]

-- none of a kind is left
pub none_of_kind : (lists : List (List Handler)) (h : ℕ) (kind : EventKind) → place_by (is_of kind) (handlers_of lists h) ≡ None → without_kind lists h kind ≡ lists
none_of_kind lists h kind e =
    ap (λ xs. set lists h xs) (none_passes (is_of kind) (handlers_of lists h) e) ∙ set-get_or lists h []

module _ (lists : List (List Handler)) (h : ℕ) (kind : EventKind) (within : h < length lists) where
  -- one of a kind less
  pub one_of_kind : (k : ℕ) → place_by (is_of kind) (handlers_of lists h) ≡ Some k → without_kind (set lists h (remove (handlers_of lists h) k)) h kind ≡ without_kind lists h kind
  one_of_kind k e =
      ap (λ xs. set (set lists h (remove (handlers_of lists h) k)) h (others (is_of kind) xs)) (get_or-set_same lists h (remove (handlers_of lists h) k) [] within)
      ∙ set-set lists h _ _
      ∙ ap (λ xs. set lists h xs) (passes_at (is_of kind) (handlers_of lists h) k e).without

  pub fewer_handlers : (k : ℕ) → place_by (is_of kind) (handlers_of lists h) ≡ Some k → length (handlers_of (set lists h (remove (handlers_of lists h) k)) h) < length (handlers_of lists h)
  fewer_handlers k e =
      let one = (passes_at (is_of kind) (handlers_of lists h) k e).less in
      let same = get_or-set_same lists h (remove (handlers_of lists h) k) [] within in
      omega (arith, ap length same)
