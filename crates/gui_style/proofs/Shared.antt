-- The shared styles, by their numbers.
use Rattle.std.proofs.Common.{◌≡◌, ℕ, ◌+◌, ◌<◌, false, eqb, ltb, is_some, List, [], ◌∷◌, map, length, set, Option, Some, None, inl, inr, refl, sym, ap, ◌∙◌, arith}
use Rattle.std.proofs.lemmas.Bool.{cases_Bool, eqb-true}
use Rattle.gui_pool.specs.Lists.{Lists, list_of}
use Rattle.gui_pool.specs.Table.{Table, value_at}
use Rattle.style_defs.specs.declared.Entry.{Entry}
use Rattle.style_defs.specs.Cascade.{has_style, settings_of}
use Rattle.gui_style.specs.Kept.{first_style, setting_in, style_in, keys_from}
use Rattle.style_defs.specs.Book.{inserted}
use Rattle.gui_style.proofs.Keys.{is_among, key_inserted, among_keys, key_more}

module _ (entries : Lists Entry) where
  -- a style is there whose number is one of them
  has_numbered : (numbers : List ℕ) (number : ℕ) → has_style (map (style_in entries) numbers) number ≡ is_among number numbers
  has_numbered [] number = refl
  has_numbered (n ∷ numbers) number =
      elim (cases_Bool (eqb n number)) [
        | inl same ↦ rw same refl
        | inr other ↦ rw other (has_numbered numbers number)
      ]

  -- what it sets are its entries
  settings_numbered : (numbers : List ℕ) (number : ℕ) → (is_among number numbers ≡ false → list_of entries (first_style + number) ≡ []) → settings_of (map (style_in entries) numbers) number ≡ map setting_in (list_of entries (first_style + number))
  settings_numbered [] number unmade = sym (ap (map setting_in) (unmade refl))
  settings_numbered (n ∷ numbers) number unmade =
      elim (cases_Bool (eqb n number)) [
        | inl same ↦ rw same (ap (λ k. map setting_in (list_of entries (first_style + k))) (eqb-true n number same))
        | inr other ↦ rw other (settings_numbered numbers number (rw other at unmade))
      ]

  inserted_numbered : (numbers : List ℕ) (new : ℕ) → map (style_in entries) (key_inserted new numbers) ≡ inserted (style_in entries new) (map (style_in entries) numbers)
  inserted_numbered [] new = refl
  inserted_numbered (n ∷ numbers) new =
      elim (cases_Bool (ltb new n)) [
        | inl less ↦ rw less refl
        | inr more ↦ rw more (ap (λ ss. style_in entries n ∷ ss) (inserted_numbered numbers new))
      ]

pub nothing_there : {T : Type 0} (o : Option T) → is_some o ≡ false → o ≡ None
nothing_there None e = refl
nothing_there (Some v) e = cc

module _ {T : Type 0} (made : Table T) (entries : Lists Entry) where
  pub has_made : (number : ℕ) → has_style (map (style_in entries) (keys_from 0 made.values)) number ≡ is_some (value_at made number)
  has_made number = has_numbered entries (keys_from 0 made.values) number ∙ among_keys made.values 0 number number (omega arith)

  pub settings_made : (number : ℕ) → (value_at made number ≡ None → list_of entries (first_style + number) ≡ []) → settings_of (map (style_in entries) (keys_from 0 made.values)) number ≡ map setting_in (list_of entries (first_style + number))
  settings_made number unmade =
      settings_numbered entries (keys_from 0 made.values) number (λ none. unmade (nothing_there (value_at made number) (sym (among_keys made.values 0 number number (omega arith)) ∙ none)))

  pub styles_more : (number : ℕ) (v : T) → number < length made.values → value_at made number ≡ None → map (style_in entries) (keys_from 0 (set made.values number (Some v))) ≡ inserted (style_in entries number) (map (style_in entries) (keys_from 0 made.values))
  styles_more number v lt none =
      ap (map (style_in entries)) (key_more made.values 0 number number v (omega arith) lt none) ∙ inserted_numbered entries (keys_from 0 made.values) number
