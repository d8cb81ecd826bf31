-- What a change of one bucket changes for all owners.
use Rattle.std.proofs.Common.{◌≡◌, ◌≢◌, ℕ, zero, suc, ◌+◌, ◌<◌, List, [], length, map, get_or, set, sum_by, inl, inr, refl, sym, ap, ◌∙◌, arith, length-set}
use Rattle.std.specs.List.{range_with_len}
use Rattle.std.specs.Int.Bits.{bit_and}
use Rattle.std.proofs.lemmas.Nat.{and_le_r}
use Rattle.std.proofs.lemmas.Bool.{cases_eq, cases_lt}
use Rattle.std.proofs.lemmas.List.{get_or-set_same, get_or-set_other, get_or_past}
use Rattle.std.proofs.lemmas.List.Sums.{sum_by-set}
use Rattle.std.proofs.lemmas.List.FromFn.{length-map-range_with_len, sum_by-map-range_with_len_more}
use Rattle.gui_pool.specs.declared.entry.Entry.{Entry}
use Rattle.gui_pool.specs.Lists.{Lists, list_of}
use Rattle.gui_pool.specs.Owners.{values_of, list_in, lists_of, AreLists}
use Rattle.gui_pool.proofs.OwnValues.{Turns}
use Rattle.gui_pool.proofs.Keys.{tabled, tabled_set}

module _ {T : Type 0} where
  pub list_is : (buckets : Lists (Entry T)) (mask owners owner : ℕ) → owner < owners → list_of (lists_of buckets mask owners) owner ≡ values_of owner (list_of buckets (bit_and owner mask))
  list_is buckets mask owners owner lt = tabled (list_in buckets mask) owners owner [] lt

  pub has_owners : (buckets : Lists (Entry T)) (mask owners : ℕ) → length (map (list_in buckets mask) (range_with_len 0 owners)) ≡ owners
  has_owners buckets mask owners = length-map-range_with_len (list_in buckets mask) 0 owners

  pub owner_bucket : (buckets : Lists (Entry T)) (mask owners owner : ℕ) → AreLists buckets mask owners → bit_and owner mask < length buckets.lists
  owner_bucket buckets mask owners owner a = let le = and_le_r owner mask in omega (arith, le, a.all)

  module _ (buckets : Lists (Entry T)) (mask owners owner : ℕ) (lt : owner < owners) (a : AreLists buckets mask owners) (ys : List (Entry T)) (zs : List T) (t : Turns (list_of buckets (bit_and owner mask)) ys owner zs) (new : Lists (Entry T)) (e : new.lists ≡ set buckets.lists (bit_and owner mask) ys) where
    now_at : get_or new.lists (bit_and owner mask) [] ≡ ys
    now_at = ap (λ ls. get_or ls (bit_and owner mask) []) e ∙ get_or-set_same buckets.lists (bit_and owner mask) ys [] (owner_bucket buckets mask owners owner a)

    elsewhere : (k : ℕ) → k ≢ bit_and owner mask → get_or new.lists k [] ≡ get_or buckets.lists k []
    elsewhere k d = ap (λ ls. get_or ls k []) e ∙ get_or-set_other buckets.lists (bit_and owner mask) k ys [] d

    pub lists_turned : map (list_in new mask) (range_with_len 0 owners) ≡ set (map (list_in buckets mask) (range_with_len 0 owners)) owner zs
    lists_turned =
        tabled_set [] (list_in buckets mask) (list_in new mask) owners owner zs (ap (values_of owner) now_at ∙ t.at) (λ k d.
        elim (cases_eq (bit_and k mask) (bit_and owner mask)) [
          | inl same ↦ ap (λ j. values_of k (get_or new.lists j [])) same ∙ ap (values_of k) now_at ∙ t.others k d ∙ ap (λ j. values_of k (get_or buckets.lists j [])) (sym same)
          | inr other ↦ ap (values_of k) (elsewhere (bit_and k mask) other)
        ])

    pub AreLists-turned : new.size ≡ buckets.size → length zs + new.spare ≡ length (values_of owner (list_of buckets (bit_and owner mask))) + buckets.spare → AreLists new mask owners
    AreLists-turned size count =
        record {
          all = ap length e ∙ length-set buckets.lists (bit_and owner mask) ys ∙ a.all;
          counted =
              let fs = map (list_in buckets mask) (range_with_len 0 owners) in
              let within : owner < length fs = omega (arith, lt, has_owners buckets mask owners) in
              let sum = sum_by-set length fs owner zs [] within in
              let here : length (get_or fs owner []) ≡ length (values_of owner (list_of buckets (bit_and owner mask))) = ap length (list_is buckets mask owners owner lt) in
              let turned : sum_by length (map (list_in new mask) (range_with_len 0 owners)) ≡ sum_by length (set fs owner zs) = ap (sum_by length) lists_turned in
              let counted = a.counted in
              omega arith;
        }

  empty_sum : (buckets : Lists (Entry T)) (mask : ℕ) → ((o : ℕ) → list_of buckets o ≡ []) → (n : ℕ) → sum_by length (map (list_in buckets mask) (range_with_len 0 n)) ≡ 0
  empty_sum buckets mask none zero = refl
  empty_sum buckets mask none (suc n) =
      let more = sum_by-map-range_with_len_more length (list_in buckets mask) 0 n n (omega arith) in
      let rest = empty_sum buckets mask none n in
      let no : length (list_in buckets mask n) ≡ 0 = ap (λ es. length (values_of n es)) (none (bit_and n mask)) in
      let one : suc n ≡ n + 1 = omega arith in
      ap (λ k. sum_by length (map (list_in buckets mask) (range_with_len 0 k))) one ∙ omega arith

  pub start_lists : (buckets : Lists (Entry T)) (mask owners : ℕ) → ((o : ℕ) → list_of buckets o ≡ []) → (owner : ℕ) → list_of (lists_of buckets mask owners) owner ≡ []
  start_lists buckets mask owners none owner =
      elim (cases_lt owner owners) [
        | inl lt ↦ list_is buckets mask owners owner lt ∙ ap (values_of owner) (none (bit_and owner mask))
        | inr le ↦ get_or_past _ owner [] (let long = has_owners buckets mask owners in omega (arith, le, long))
      ]

  pub AreLists-opened : (buckets : Lists (Entry T)) (mask owners : ℕ) → length buckets.lists ≡ mask + 1 → ((o : ℕ) → list_of buckets o ≡ []) → buckets.spare ≡ buckets.size → AreLists buckets mask owners
  AreLists-opened buckets mask owners all none spare = record { all = all; counted = let no = empty_sum buckets mask none owners in omega arith }
