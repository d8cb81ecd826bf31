-- What is read of the entries of one property alone.
use Rattle.std.proofs.Common.{◌≡◌, ℕ, suc, Bool, true, cond, List, [], ◌∷◌, map, fold, slice_get, IfSome, option_map, Option, Some, None, inl, inr, refl, sym, ap, ◌∙◌, subst}
use Rattle.std.specs.List.{filter}
use Rattle.std.proofs.lemmas.Bool.{cases_Bool}
use Rattle.std.proofs.lemmas.Option.{same_Some}
use Rattle.gui_base.specs.declared.words.Part.{Part}
use Rattle.gui_base.specs.declared.props.Prop.{Prop}
use Rattle.style_defs.specs.declared.Candidate.{Candidate}
use Rattle.style_defs.specs.declared.Entry.{Entry}
use Rattle.style_defs.specs.Cascade.{setting_of, of_entry, stronger}
use Rattle.style_defs.specs.Firsts.{place_by}
use Rattle.gui_style.specs.Filed.{has_prop}
use Rattle.gui_style.specs.Kept.{setting_in}

first_same : {A : Type 0} (x y : A) (xs ys : List A) → x ∷ xs ≡ y ∷ ys → x ≡ y
first_same x y xs ys e = cc

mapped_some : (o : Option ℕ) (k : ℕ) → option_map suc o ≡ Some k → (j : ℕ) × (o ≡ Some j) × (k ≡ suc j)
mapped_some None k e = cc
mapped_some (Some j) k e = (j, refl, sym (same_Some (suc j) k e))

-- what the first that passes a test passes also
pub placed : {A : Type 0} (test also : A → Bool) → ((x : A) → test x ≡ true → also x ≡ true) → (xs : List A) (k : ℕ) → place_by test xs ≡ Some k → IfSome (slice_get xs k) (λ x. also x ≡ true)
placed test also implies [] k e = cc
placed test also implies (x ∷ xs) k e =
    elim (cases_Bool (test x)) [
      | inl same ↦ subst (λ k. IfSome (slice_get (x ∷ xs) k) (λ x. also x ≡ true)) (same_Some 0 k (rw same at e)) (implies x same)
      | inr other ↦
          let m = mapped_some (place_by test xs) k (rw other at e) in
          subst (λ k. IfSome (slice_get (x ∷ xs) k) (λ x. also x ≡ true)) (sym m.2) (placed test also implies xs m.0 m.1)
    ]

pub place_mapped : {A B : Type 0} (test : B → Bool) (f : A → B) (xs : List A) → place_by test (map f xs) ≡ place_by (λ x. test (f x)) xs
place_mapped test f [] = refl
place_mapped test f (x ∷ xs) = ap (λ o. cond (test (f x)) (Some 0) (option_map suc o)) (place_mapped test f xs)

module _ (prop : Prop) where
  -- the value that a style gives is that of its first entry of the property
  pub first_setting : (xs rest : List Entry) (x : Entry) → filter (has_prop prop) xs ≡ x ∷ rest → setting_of (map setting_in xs) prop ≡ Some x.value
  first_setting [] rest x e = cc
  first_setting (y ∷ xs) rest x e =
      elim (cases_Bool (has_prop prop y)) [
        | inl same ↦ let is : y ∷ filter (has_prop prop) xs ≡ x ∷ rest = rw same at e in rw same (ap (λ z. Some z.value) (first_same y x (filter (has_prop prop) xs) rest is))
        | inr other ↦ rw other (first_setting xs rest x (rw other at e))
      ]

  pub no_setting : (xs : List Entry) → filter (has_prop prop) xs ≡ [] → setting_of (map setting_in xs) prop ≡ None
  no_setting [] e = refl
  no_setting (y ∷ xs) e =
      elim (cases_Bool (has_prop prop y)) [
        | inl same ↦ let no = rw same at e in cc
        | inr other ↦ rw other (no_setting xs (rw other at e))
      ]

  -- the other entries give nothing
  pub stronger_of : (part : Part) (states : ℕ) (best : Option Candidate) (xs : List Entry) → fold stronger best (map (of_entry part states prop) xs) ≡ fold stronger best (map (of_entry part states prop) (filter (has_prop prop) xs))
  stronger_of part states best [] = refl
  stronger_of part states best (x ∷ xs) =
      elim (cases_Bool (has_prop prop x)) [
        | inl same ↦ stronger_of part states (stronger best (of_entry part states prop x)) xs ∙ ap (λ b. fold stronger best (map (of_entry part states prop) (cond b (x ∷ filter (has_prop prop) xs) (filter (has_prop prop) xs)))) (sym same)
        | inr other ↦ rw other (stronger_of part states best xs)
      ]
