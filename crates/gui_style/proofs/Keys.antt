-- The keys that have a value, in rising order.
use Rattle.std.proofs.Common.{◌≡◌, ℕ, zero, suc, ◌+◌, ◌<◌, Bool, false, eqb, ltb, cond, is_some, List, [], ◌∷◌, length, set, get_or, Option, Some, None, inl, inr, refl, sym, ap, ◌∙◌, arith}
use Rattle.std.specs.List.{list_any}
use Rattle.std.proofs.lemmas.Bool.{cases_Bool, eqb-true, eq-eqb, lt-ltb, le-ltb}
use Rattle.gui_style.specs.Kept.{keys_from}

-- whether a number is one of a list
abbrev pub is_among : ℕ → List ℕ → Bool
is_among key keys = list_any (λ k. eqb k key) keys

-- one number more, before the first that is greater
abbrev pub key_inserted : ℕ → List ℕ → List ℕ
key_inserted new [] = new ∷ []
key_inserted new (key ∷ keys) = cond (ltb new key) (new ∷ key ∷ keys) (key ∷ key_inserted new keys)

module _ {T : Type 0} where
  pub no_keys : (values : List (Option T)) (low : ℕ) → ((k : ℕ) → get_or values k None ≡ None) → keys_from low values ≡ []
  no_keys [] low none = refl
  no_keys (None ∷ values) low none = no_keys values (low + 1) (λ k. none (suc k))
  no_keys (Some v ∷ values) low none = let no = none 0 in cc

  none_below : (values : List (Option T)) (low key : ℕ) → key < low → is_among key (keys_from low values) ≡ false
  none_below [] low key lt = refl
  none_below (None ∷ values) low key lt = none_below values (low + 1) key (omega arith)
  none_below (Some v ∷ values) low key lt =
      elim (cases_Bool (eqb low key)) [
        | inl same ↦ let is = eqb-true low key same in absurd (omega arith)
        | inr other ↦ rw other (none_below values (low + 1) key (omega arith))
      ]

  pub among_keys : (values : List (Option T)) (low k key : ℕ) → low + k ≡ key → is_among key (keys_from low values) ≡ is_some (get_or values k None)
  among_keys [] low k key e = refl
  among_keys (None ∷ values) low zero key e = none_below values (low + 1) key (omega arith)
  among_keys (Some v ∷ values) low zero key e = let same = eq-eqb low key (omega arith) in rw same refl
  among_keys (None ∷ values) low (suc k) key e = among_keys values (low + 1) k key (omega arith)
  among_keys (Some v ∷ values) low (suc k) key e =
      elim (cases_Bool (eqb low key)) [
        | inl same ↦ let is = eqb-true low key same in absurd (omega arith)
        | inr other ↦ rw other (among_keys values (low + 1) k key (omega arith))
      ]

  goes_first : (values : List (Option T)) (low key : ℕ) → key < low → key_inserted key (keys_from low values) ≡ key ∷ keys_from low values
  goes_first [] low key lt = refl
  goes_first (None ∷ values) low key lt = goes_first values (low + 1) key (omega arith)
  goes_first (Some v ∷ values) low key lt = let less = lt-ltb key low lt in rw less refl

  pub key_more : (values : List (Option T)) (low k key : ℕ) (v : T) → low + k ≡ key → k < length values → get_or values k None ≡ None → keys_from low (set values k (Some v)) ≡ key_inserted key (keys_from low values)
  key_more [] low k key v e lt none = absurd (omega arith)
  key_more (None ∷ values) low zero key v e lt none =
      let same : low ≡ key = omega arith in
      ap (λ n. n ∷ keys_from (low + 1) values) same ∙ sym (goes_first values (low + 1) key (omega arith))
  key_more (Some w ∷ values) low zero key v e lt none = cc
  key_more (None ∷ values) low (suc k) key v e lt none = key_more values (low + 1) k key v (omega arith) (omega arith) none
  key_more (Some w ∷ values) low (suc k) key v e lt none =
      let more = le-ltb key low (omega arith) in
      rw more (ap (λ ks. low ∷ ks) (key_more values (low + 1) k key v (omega arith) (omega arith) none))
