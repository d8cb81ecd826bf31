-- What a change of one list of entries changes for each key.
use Rattle.std.proofs.Common.{◌≡◌, ◌≢◌, ℕ, suc, ◌+◌, ◌<◌, cond, eqb, List, [], ◌∷◌, ◌++◌, length, slice_get, set, option_map, Option, Some, None, inl, inr, refl, sym, ap, ◌∙◌, subst, arith}
use Rattle.std.specs.List.{remove}
use Rattle.std.proofs.lemmas.Bool.{ne_eqb, eq-eqb}
use Rattle.std.proofs.lemmas.Bool.Decides.{eqb_tells}
use Rattle.std.proofs.lemmas.Option.{same_Some}
use Rattle.gui_pool.specs.declared.entry.Entry.{Entry}
use Rattle.gui_pool.specs.Entries.{find, place_of, AreApart}

-- so many more
abbrev pub beyond : ℕ → Option ℕ → Option ℕ
beyond n o = option_map (λ k. n + k) o

pub beyond_none : (o : Option ℕ) → beyond 0 o ≡ o
beyond_none None = refl
beyond_none (Some k) = ap Some (omega arith)

pub beyond_one : (n : ℕ) (o : Option ℕ) → beyond n (option_map suc o) ≡ beyond (n + 1) o
beyond_one n None = refl
beyond_one n (Some k) = ap Some (omega arith)

pub mapped_none : (o : Option ℕ) → option_map suc o ≡ None → o ≡ None
mapped_none None e = refl
mapped_none (Some k) e = cc

pub mapped_some : (o : Option ℕ) (k : ℕ) → option_map suc o ≡ Some k → (j : ℕ) × (o ≡ Some j) × (k ≡ suc j)
mapped_some None k e = cc
mapped_some (Some j) k e = (j, refl, sym (same_Some (suc j) k e))

module _ {T : Type 0} where
  -- the key finds v, and each other key what it found
  pub record Changes (xs ys : List (Entry T)) (key : ℕ) (v : Option T) : Type 0 where
    pub at : find ys key ≡ v
    pub others : (k : ℕ) → k ≢ key → find ys k ≡ find xs k
    pub apart : AreApart ys

  under : (x : Entry T) (xs ys : List (Entry T)) (key : ℕ) (v : Option T) → x.key ≢ key → find xs x.key ≡ None → Changes xs ys key v → Changes (x ∷ xs) (x ∷ ys) key v
  under x xs ys key v other none c =
      record {
        at = ap (λ b. cond b (Some x.value) (find ys key)) (ne_eqb x.key key other) ∙ c.at;
        others = λ k d. ap (λ o. cond (eqb x.key k) (Some x.value) o) (c.others k d);
        apart = (c.others x.key other ∙ none, c.apart);
      }

  pub pushed_entry : (xs : List (Entry T)) (key : ℕ) (value : T) → find xs key ≡ None → AreApart xs → Changes xs (xs ++ record { key = key; value = value } ∷ []) key (Some value)
  pushed_entry [] key value none apart =
      record {
        at = ap (λ b. cond b (Some value) None) (eq-eqb key key refl);
        others = λ k d. ap (λ b. cond b (Some value) None) (ne_eqb key k (λ e. d (sym e)));
        apart = (refl, tt);
      }
  pushed_entry (x ∷ xs) key value none apart =
      elim (eqb_tells x.key key) [
        | inl same ↦ let no = ap (λ b. cond b (Some x.value) (find xs key)) (sym same.0) ∙ none in cc
        | inr other ↦
            let rest : find xs key ≡ None = ap (λ b. cond b (Some x.value) (find xs key)) (sym other.0) ∙ none in
            under x xs _ key (Some value) other.1 apart.0 (pushed_entry xs key value rest apart.1)
      ]

  -- the entry of a key stands at a place
  pub record StandsAt (xs : List (Entry T)) (key n : ℕ) : Type 0 where
    pub within : n < length xs
    pub value : (e : Entry T) → Some e ≡ slice_get xs n → Some e.value ≡ find xs key
    pub keyed : (e : Entry T) → Some e ≡ slice_get xs n → e.key ≡ key
    pub replaced : (w : T) → Changes xs (set xs n (record { key = key; value = w })) key (Some w)
    pub removed : Changes xs (remove xs n) key None

  pub stands_at : (xs : List (Entry T)) (key n : ℕ) → AreApart xs → place_of xs key ≡ Some n → StandsAt xs key n
  stands_at [] key n apart e = cc
  stands_at (x ∷ xs) key n apart e =
      elim (eqb_tells x.key key) [
        | inl same ↦
            let here : 0 ≡ n = same_Some 0 n (ap (λ b. cond b (Some 0) (option_map suc (place_of xs key))) (sym same.0) ∙ e) in
            let gone : find xs key ≡ None = ap (find xs) (sym same.1) ∙ apart.0 in
            let past : (k : ℕ) → k ≢ key → find xs k ≡ find (x ∷ xs) k = λ k d. ap (λ b. cond b (Some x.value) (find xs k)) (sym (ne_eqb x.key k (λ q. d (sym q ∙ same.1)))) in
            subst (StandsAt (x ∷ xs) key) here (record {
              within = omega arith;
              value = λ y q. ap Some (ap (λ z. z.value) (same_Some y x q)) ∙ ap (λ b. cond b (Some x.value) (find xs key)) (sym same.0);
              keyed = λ y q. ap (λ z. z.key) (same_Some y x q) ∙ same.1;
              replaced = λ w. record {
                at = ap (λ b. cond b (Some w) (find xs key)) (eq-eqb key key refl);
                others = λ k d. ap (λ b. cond b (Some w) (find xs k)) (ne_eqb key k (λ q. d (sym q))) ∙ past k d;
                apart = (gone, apart.1);
              };
              removed = record { at = gone; others = past; apart = apart.1 };
            })
        | inr other ↦
            let m = mapped_some (place_of xs key) n (ap (λ b. cond b (Some 0) (option_map suc (place_of xs key))) (sym other.0) ∙ e) in
            let rest = stands_at xs key m.0 apart.1 m.1 in
            subst (StandsAt (x ∷ xs) key) (sym m.2) (record {
              within = let lt = rest.within in omega arith;
              value = λ y q. rest.value y q ∙ ap (λ b. cond b (Some x.value) (find xs key)) (sym other.0);
              keyed = λ y q. rest.keyed y q;
              replaced = λ w. under x xs _ key (Some w) other.1 apart.0 (rest.replaced w);
              removed = under x xs _ key None other.1 apart.0 rest.removed;
            })
      ]

  pub stands_nowhere : (xs : List (Entry T)) (key : ℕ) → place_of xs key ≡ None → find xs key ≡ None
  stands_nowhere [] key e = refl
  stands_nowhere (x ∷ xs) key e =
      elim (eqb_tells x.key key) [
        | inl same ↦ let no = ap (λ b. cond b (Some 0) (option_map suc (place_of xs key))) (sym same.0) ∙ e in cc
        | inr other ↦
            let rest = mapped_none (place_of xs key) (ap (λ b. cond b (Some 0) (option_map suc (place_of xs key))) (sym other.0) ∙ e) in
            ap (λ b. cond b (Some x.value) (find xs key)) other.0 ∙ stands_nowhere xs key rest
      ]
