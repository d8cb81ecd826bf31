-- What a change of one owner's list changes of the lists by property.
use Rattle.std.proofs.Common.{◌≡◌, ◌≢◌, ℕ, zero, suc, ◌+◌, ◌-◌, ◌*◌, ◌<◌, ◌≤◌, Bool, true, false, cond, eqb, List, [], ◌∷◌, ◌++◌, length, take, set, get_or, slice_get, IfSome, Some, inl, inr, refl, sym, ap, ◌∙◌, subst, arith, length-set}
use Rattle.std.specs.List.{filter, remove}
use Rattle.std.proofs.lemmas.Bool.{cases_Bool, eqb-true, eq-eqb, ne_eqb}
use Rattle.std.proofs.lemmas.Bool.Decides.{eqb_tells}
use Rattle.std.proofs.lemmas.List.{get_or-set_same, get_or-set_other}
use Rattle.std.proofs.lemmas.List.Elements.{filter-append}
use Rattle.std.proofs.lemmas.Option.{same_Some}
use Rattle.gui_base.specs.declared.props.Prop.{Prop}
use Rattle.gui_pool.specs.Lists.{Lists, list_of, pushed, replaced, removed}
use Rattle.style_defs.specs.declared.Entry.{Entry}
use Rattle.gui_style.specs.Filed.{number_of, spread, keys, key, has_prop, AreFiled}

take-remove_all : {A : Type 0} (xs : List A) (n : ℕ) → take n (remove xs n) ≡ take n xs
take-remove_all xs zero = refl
take-remove_all [] (suc n) = refl
take-remove_all (x ∷ xs) (suc n) = ap (λ ys. x ∷ ys) (take-remove_all xs n)

module _ {A : Type 0} (test : A → Bool) where
  -- a step of a walk over the first n
  pub counted : (xs rest : List A) (x : A) (n i count : ℕ) → i < n → xs ≡ x ∷ rest → count + length (filter test (take (n - i) xs)) ≡ (count + cond (test x) 1 0) + length (filter test (take (n - (i + 1)) rest))
  counted xs rest x n i count lt e =
      let more : n - i ≡ suc (n - (i + 1)) = omega arith in
      let front : take (n - i) xs ≡ x ∷ take (n - (i + 1)) rest = ap (λ k. take k xs) more ∙ ap (λ l. take (suc (n - (i + 1))) l) e in
      let one : length (filter test (x ∷ take (n - (i + 1)) rest)) ≡ cond (test x) 1 0 + length (filter test (take (n - (i + 1)) rest)) =
      elim (cases_Bool (test x)) [ inl same ↦ rw same (omega arith) | inr other ↦ rw other (omega arith) ] in
      let all = ap (λ l. length (filter test l)) front in
      omega (arith, one, all)

  -- the one that a clause speaks of
  pub found : (xs : List A) (n : ℕ) → n < length xs → IfSome (slice_get xs n) (λ x. test x ≡ true) → (x : A) × (slice_get xs n ≡ Some x) × (test x ≡ true)
  found [] n lt passes = absurd (omega arith)
  found (x ∷ xs) zero lt passes = (x, refl, passes)
  found (x ∷ xs) (suc n) lt passes = found xs n (omega arith) passes

  one_passes : (x : A) → test x ≡ true → filter test (x ∷ []) ≡ x ∷ []
  one_passes x e = rw e refl

  none_passes : (x : A) → test x ≡ false → filter test (x ∷ []) ≡ []
  none_passes x e = rw e refl

  pub filter_more : (xs : List A) (x : A) → test x ≡ true → filter test (xs ++ x ∷ []) ≡ filter test xs ++ x ∷ []
  filter_more xs x e = filter-append test xs (x ∷ []) ∙ ap (λ ys. filter test xs ++ ys) (one_passes x e)

  pub filter_other : (xs : List A) (x : A) → test x ≡ false → filter test (xs ++ x ∷ []) ≡ filter test xs
  filter_other [] x e = none_passes x e
  filter_other (y ∷ xs) x e = ap (λ ys. cond (test y) (y ∷ ys) ys) (filter_other xs x e)

  -- the one at a place passes, and stands behind those before it that pass
  pub record Ranked (xs : List A) (n : ℕ) : Type 0 where
    pub within : length (filter test (take n xs)) < length (filter test xs)
    pub replaced : (y : A) → test y ≡ true → filter test (set xs n y) ≡ set (filter test xs) (length (filter test (take n xs))) y
    pub removed : filter test (remove xs n) ≡ remove (filter test xs) (length (filter test (take n xs)))

  pub ranked : (xs : List A) (n : ℕ) (x : A) → slice_get xs n ≡ Some x → test x ≡ true → Ranked xs n
  ranked [] n x e pass = cc
  ranked (y ∷ xs) zero x e pass =
      let is : test y ≡ true = ap test (same_Some y x e) ∙ pass in
      record {
        within = rw is (omega arith);
        replaced = λ z p. rw (is, p) refl;
        removed = rw is refl;
      }
  ranked (y ∷ xs) (suc n) x e pass =
      let rest = ranked xs n x e pass in
      elim (cases_Bool (test y)) [
        | inl same ↦
            record {
              within = rw same (let lt = rest.within in omega arith);
              replaced = λ z p. rw same (ap (λ ys. y ∷ ys) (rest.replaced z p));
              removed = rw same (ap (λ ys. y ∷ ys) rest.removed);
            }
        | inr other ↦
            record {
              within = rw other rest.within;
              replaced = λ z p. rw other (rest.replaced z p);
              removed = rw other rest.removed;
            }
      ]

  pub filter_without : (xs : List A) (n : ℕ) (x : A) → slice_get xs n ≡ Some x → test x ≡ false → filter test (remove xs n) ≡ filter test xs
  filter_without [] n x e fails = cc
  filter_without (y ∷ xs) zero x e fails = let is : test y ≡ false = ap test (same_Some y x e) ∙ fails in rw is refl
  filter_without (y ∷ xs) (suc n) x e fails = ap (λ ys. cond (test y) (y ∷ ys) ys) (filter_without xs n x e fails)

  pub filter_with : (xs : List A) (n : ℕ) (x z : A) → slice_get xs n ≡ Some x → test x ≡ false → test z ≡ false → filter test (set xs n z) ≡ filter test xs
  filter_with [] n x z e fails also = cc
  filter_with (y ∷ xs) zero x z e fails also = let is : test y ≡ false = ap test (same_Some y x e) ∙ fails in rw (is, also) refl
  filter_with (y ∷ xs) (suc n) x z e fails also = ap (λ ys. cond (test y) (y ∷ ys) ys) (filter_with xs n x z e fails also)

pub is_own : (v : Entry) → has_prop v.prop v ≡ true
is_own v = eq-eqb (number_of v.prop) (number_of v.prop) refl

-- of another property
is_not : (q prop : Prop) (x : Entry) → number_of q ≢ number_of prop → has_prop prop x ≡ true → has_prop q x ≡ false
is_not q prop x ne e = ne_eqb (number_of x.prop) (number_of q) (λ same. ne (sym same ∙ eqb-true (number_of x.prop) (number_of prop) e))

-- what is taken out does not count among those before it
pub ranks_left : (all : Lists Entry) (owner : ℕ) → owner < length all.lists → (prop : Prop) (n : ℕ) → length (filter (has_prop prop) (take n (list_of (removed all owner n) owner))) ≡ length (filter (has_prop prop) (take n (list_of all owner)))
ranks_left all owner within prop n =
    let xs = list_of all owner in
    ap (λ l. length (filter (has_prop prop) (take n l))) (get_or-set_same all.lists owner (remove xs n) [] within)
    ∙ ap (λ l. length (filter (has_prop prop) l)) (take-remove_all xs n)

module _ (all by_prop : Lists Entry) (kept : AreFiled all by_prop) (owner : ℕ) (within : owner < length all.lists) (prop : Prop) (at : key owner prop < keys) where
  own_key : key owner prop < length by_prop.lists
  own_key = let long = kept.all_keys in omega arith

  pub refiled : (ys zs : List Entry) (spare spare' : ℕ) → zs ≡ filter (has_prop prop) ys → ((q : Prop) → number_of q ≢ number_of prop → filter (has_prop q) ys ≡ filter (has_prop q) (list_of all owner)) → spare' ≡ spare → AreFiled (record { lists = set all.lists owner ys; spare = spare; size = all.size }) (record { lists = set by_prop.lists (key owner prop) zs; spare = spare'; size = by_prop.size })
  refiled ys zs spare spare' own others same_spare =
      let few = kept.few in
      record {
        few = subst (λ n. n ≤ spread) (sym (length-set all.lists owner ys)) few;
        all_keys = length-set by_prop.lists (key owner prop) zs ∙ kept.all_keys;
        as_spare = same_spare;
        filed = λ o lt q.
            let old_lt : o < length all.lists = subst (λ n. o < n) (length-set all.lists owner ys) lt in
            elim (eqb_tells o owner) [
              | inl same ↦
                  let now : get_or (set all.lists owner ys) o [] ≡ ys = ap (λ k. get_or (set all.lists owner ys) k []) same.1 ∙ get_or-set_same all.lists owner ys [] within in
                  elim (eqb_tells (number_of q) (number_of prop)) [
                    | inl equal ↦
                        let one_key : key o q ≡ key owner prop = (λ i. equal.1 i * spread + same.1 i) in
                        ap (λ k. get_or (set by_prop.lists (key owner prop) zs) k []) one_key
                        ∙ get_or-set_same by_prop.lists (key owner prop) zs [] own_key
                        ∙ own
                        ∙ ap (λ n. filter (λ (e : Entry). eqb (number_of e.prop) n) ys) (sym equal.1)
                        ∙ ap (filter (has_prop q)) (sym now)
                    | inr differs ↦
                        let ne = differs.1 in let so = same.1 in
                        let other : key o q ≢ key owner prop = λ e. ne (omega arith) in
                        get_or-set_other by_prop.lists (key owner prop) (key o q) zs [] other
                        ∙ kept.filed o old_lt q
                        ∙ ap (λ k. filter (has_prop q) (list_of all k)) so
                        ∙ sym (others q ne)
                        ∙ ap (filter (has_prop q)) (sym now)
                  ]
              | inr differs ↦
                  let ne = differs.1 in
                  let other : key o q ≢ key owner prop = λ e. ne (omega arith) in
                  get_or-set_other by_prop.lists (key owner prop) (key o q) zs [] other
                  ∙ kept.filed o old_lt q
                  ∙ ap (filter (has_prop q)) (sym (get_or-set_other all.lists owner o ys [] ne))
            ];
      }

  module _ (v : Entry) (of : has_prop prop v ≡ true) where
    pub pushed_filed : AreFiled (pushed all owner v) (pushed by_prop (key owner prop) v)
    pushed_filed =
        let xs = list_of all owner in
        refiled (xs ++ v ∷ []) (list_of by_prop (key owner prop) ++ v ∷ []) _ _
        (ap (λ l. l ++ v ∷ []) (kept.filed owner within prop) ∙ sym (filter_more (has_prop prop) xs v of))
        (λ q ne. filter_other (has_prop q) xs v (is_not q prop v ne of))
        (ap (λ n. n - 1) kept.as_spare)

  module _ (n : ℕ) (x : Entry) (stands : slice_get (list_of all owner) n ≡ Some x) (was : has_prop prop x ≡ true) where
    its : Ranked (has_prop prop) (list_of all owner) n
    its = ranked (has_prop prop) (list_of all owner) n x stands was

    pub place_within : length (filter (has_prop prop) (take n (list_of all owner))) < length (list_of by_prop (key owner prop))
    place_within = subst (λ l. length (filter (has_prop prop) (take n (list_of all owner))) < length l) (sym (kept.filed owner within prop)) its.within

    pub replaced_filed : (v : Entry) → has_prop prop v ≡ true → AreFiled (replaced all owner n v) (replaced by_prop (key owner prop) (length (filter (has_prop prop) (take n (list_of all owner)))) v)
    replaced_filed v of =
        let xs = list_of all owner in let k = length (filter (has_prop prop) (take n xs)) in
        refiled (set xs n v) (set (list_of by_prop (key owner prop)) k v) all.spare by_prop.spare
        (ap (λ l. set l k v) (kept.filed owner within prop) ∙ sym (its.replaced v of))
        (λ q ne. filter_with (has_prop q) xs n x v stands (is_not q prop x ne was) (is_not q prop v ne of))
        kept.as_spare

    pub removed_filed : AreFiled (removed all owner n) (removed by_prop (key owner prop) (length (filter (has_prop prop) (take n (list_of all owner)))))
    removed_filed =
        let xs = list_of all owner in let k = length (filter (has_prop prop) (take n xs)) in
        refiled (remove xs n) (remove (list_of by_prop (key owner prop)) k) _ _
        (ap (λ l. remove l k) (kept.filed owner within prop) ∙ sym its.removed)
        (λ q ne. filter_without (has_prop q) xs n x stands (is_not q prop x ne was))
        (ap (λ n. n + 1) kept.as_spare)
