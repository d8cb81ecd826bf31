-- What a change of one list changes in the map.
use Rattle.std.proofs.Common.{◌≡◌, ◌≢◌, ◌+◌, ℕ, ◌<◌, ◌≤◌, List, [], length, map, get_or, set, Option, None, IsSome, true≢false, inl, inr, sym, ap, ◌∙◌, subst, arith, length-set}
use Rattle.std.specs.List.{range_with_len}
use Rattle.std.specs.Int.Bits.{bit_and}
use Rattle.std.proofs.lemmas.Nat.{and_le_r}
use Rattle.std.proofs.lemmas.Bool.{cases_eq, cases_lt}
use Rattle.std.proofs.lemmas.List.{ext_get_or, get_or-set_same, get_or-set_other, get_or_past}
use Rattle.std.proofs.lemmas.List.FromFn.{get_or-map-range_with_len, length-map-range_with_len}
use Rattle.gui_pool.specs.declared.entry.Entry.{Entry}
use Rattle.gui_pool.specs.Lists.{Lists, list_of}
use Rattle.gui_pool.specs.Table.{value_at}
use Rattle.gui_pool.specs.Entries.{find, found, table_of, AreApart, IsTable}
use Rattle.gui_pool.proofs.Entries.{Changes}

pub tabled : {X : Type 0} (f : ℕ → X) (n k : ℕ) (d : X) → k < n → get_or (map f (range_with_len 0 n)) k d ≡ f k
tabled f n k d lt = get_or-map-range_with_len f 0 n k k d lt (omega arith)

module _ {X : Type 0} (d : X) where
  pub tabled_set : (f g : ℕ → X) (n h : ℕ) (v : X) → g h ≡ v → ((k : ℕ) → k ≢ h → g k ≡ f k) → map g (range_with_len 0 n) ≡ set (map f (range_with_len 0 n)) h v
  tabled_set f g n h v at others =
      let fs = map f (range_with_len 0 n) in
      let long : length fs ≡ n = length-map-range_with_len f 0 n in
      let long' : length (map g (range_with_len 0 n)) ≡ n = length-map-range_with_len g 0 n in
      ext_get_or d _ _ (long' ∙ sym long ∙ sym (length-set fs h v)) (λ k l.
      let l' : k < n = omega (arith, l, long') in
      let l'' : k < length fs = omega (arith, l', long) in
      tabled g n k d l' ∙ elim (cases_eq k h) [
        | inl same ↦ ap g same ∙ at ∙ sym (get_or-set_same fs h v d (subst (λ j. j < length fs) same l'')) ∙ ap (λ j. get_or (set fs h v) j d) (sym same)
        | inr other ↦ others k other ∙ sym (tabled f n k d l') ∙ sym (get_or-set_other fs h k v d other)
      ])

module _ {T : Type 0} where
  pub value_is : (buckets : Lists (Entry T)) (mask keys key : ℕ) → key < keys → value_at (table_of buckets mask keys) key ≡ find (list_of buckets (bit_and key mask)) key
  value_is buckets mask keys key lt = tabled (found buckets mask) keys key None lt

  pub value_past : (buckets : Lists (Entry T)) (mask keys key : ℕ) → keys ≤ key → value_at (table_of buckets mask keys) key ≡ None
  value_past buckets mask keys key le = get_or_past _ key None (let long = length-map-range_with_len (found buckets mask) 0 keys in omega (arith, le, long))

  pub has_keys : (buckets : Lists (Entry T)) (mask keys : ℕ) → length (map (found buckets mask) (range_with_len 0 keys)) ≡ keys
  has_keys buckets mask keys = length-map-range_with_len (found buckets mask) 0 keys

  pub key_within : (buckets : Lists (Entry T)) (mask keys key : ℕ) → IsSome (value_at (table_of buckets mask keys) key) → key < keys
  key_within buckets mask keys key some =
      elim (cases_lt key keys) [
        | inl lt ↦ lt
        | inr le ↦ let none = value_past buckets mask keys key le in absurd (true≢false (sym (rw none at some)))
      ]

  pub bucket_within : (buckets : Lists (Entry T)) (mask key : ℕ) → IsTable buckets mask → bit_and key mask < length buckets.lists
  bucket_within buckets mask key a = let le = and_le_r key mask in omega (arith, le, a.all)

  module _ (buckets : Lists (Entry T)) (mask key : ℕ) (a : IsTable buckets mask) (ys : List (Entry T)) (v : Option T) (c : Changes (list_of buckets (bit_and key mask)) ys key v) (new : Lists (Entry T)) (e : new.lists ≡ set buckets.lists (bit_and key mask) ys) where
    here : get_or new.lists (bit_and key mask) [] ≡ ys
    here = ap (λ ls. get_or ls (bit_and key mask) []) e ∙ get_or-set_same buckets.lists (bit_and key mask) ys [] (bucket_within buckets mask key a)

    there : (k : ℕ) → k ≢ bit_and key mask → get_or new.lists k [] ≡ get_or buckets.lists k []
    there k d = ap (λ ls. get_or ls k []) e ∙ get_or-set_other buckets.lists (bit_and key mask) k ys [] d

    pub values_changed : (keys : ℕ) → map (found new mask) (range_with_len 0 keys) ≡ set (map (found buckets mask) (range_with_len 0 keys)) key v
    values_changed keys =
        tabled_set None (found buckets mask) (found new mask) keys key v (ap (λ es. find es key) here ∙ c.at) (λ k d.
        elim (cases_eq (bit_and k mask) (bit_and key mask)) [
          | inl same ↦ ap (λ j. find (get_or new.lists j []) k) same ∙ ap (λ es. find es k) here ∙ c.others k d ∙ ap (λ j. find (get_or buckets.lists j []) k) (sym same)
          | inr other ↦ ap (λ es. find es k) (there (bit_and k mask) other)
        ])

    pub buckets_changed : IsTable new mask
    buckets_changed =
        record {
          all = ap length e ∙ length-set buckets.lists (bit_and key mask) ys ∙ a.all;
          apart = λ k.
              elim (cases_eq k (bit_and key mask)) [
                | inl same ↦ subst AreApart (sym here ∙ ap (λ j. get_or new.lists j []) (sym same)) c.apart
                | inr other ↦ subst AreApart (sym (there k other)) (a.apart k)
              ];
        }

  pub start_values : (buckets : Lists (Entry T)) (mask keys : ℕ) → ((o : ℕ) → list_of buckets o ≡ []) → (key : ℕ) → value_at (table_of buckets mask keys) key ≡ None
  start_values buckets mask keys none key =
      elim (cases_lt key keys) [
        | inl lt ↦ value_is buckets mask keys key lt ∙ ap (λ es. find es key) (none (bit_and key mask))
        | inr le ↦ value_past buckets mask keys key le
      ]

  pub start_buckets : (buckets : Lists (Entry T)) (mask : ℕ) → length buckets.lists ≡ mask + 1 → ((o : ℕ) → list_of buckets o ≡ []) → IsTable buckets mask
  start_buckets buckets mask all none = record { all = all; apart = λ k. subst AreApart (sym (none k)) tt }
