-- What a contract sees of `Lists`.
use Rattle.std.specs.Prelude.{ℕ, ◌+◌, ◌-◌, List, [], ◌∷◌, ◌++◌, length, sum_by, refl}
use Rattle.std.specs.Prelude.{slice_index_or, slice_set}
use Rattle.std.specs.List.{remove}
use Rattle.std.specs.Coded.{Coded, code_by, coded×, coded_ℕ, coded_list}

-- the list of each owner, from 0 on; how many more values fit; and the number of slots, one for each value
pub record Lists (T : Type 0) : Type 0 where
  pub lists : List (List T)
  pub spare : ℕ
  pub size : ℕ

abbrev pub lists_code : {T : Type 0} → Coded T → Coded (Lists T)
lists_code {T} code =
    code_by (List (List T) × (ℕ × ℕ)) (coded× (coded_list (coded_list code)) (coded× coded_ℕ coded_ℕ))
    (λ t. (t.lists, (t.spare, t.size)))
    (λ p. record { lists = p.0; spare = p.1.0; size = p.1.1 })
    (λ _. refl)

module _ {T : Type 0} where
  -- the values of an owner, in order
  abbrev pub list_of : Lists T → ℕ → List T
  list_of t owner = slice_index_or t.lists owner []

  -- how many values all lists have together
  abbrev pub total : Lists T → ℕ
  total t = sum_by length t.lists

  -- another list for an owner
  abbrev pub with_list : Lists T → ℕ → List T → Lists T
  with_list t owner xs = record t { lists = slice_set t.lists owner xs }

  -- a value more, the last of an owner
  abbrev pub pushed : Lists T → ℕ → T → Lists T
  pushed t owner value =
      record {
        lists = slice_set t.lists owner (list_of t owner ++ value ∷ []);
        spare = t.spare - 1;
        size = t.size;
      }

  -- another value at a place of an owner's list
  abbrev pub replaced : Lists T → ℕ → ℕ → T → Lists T
  replaced t owner n value = with_list t owner (slice_set (list_of t owner) n value)

  -- an owner's list without the value at a place
  abbrev pub removed : Lists T → ℕ → ℕ → Lists T
  removed t owner n =
      record {
        lists = slice_set t.lists owner (remove (list_of t owner) n);
        spare = t.spare + 1;
        size = t.size;
      }

  -- no values for an owner
  abbrev pub cleared : Lists T → ℕ → Lists T
  cleared t owner =
      record {
        lists = slice_set t.lists owner [];
        spare = t.spare + length (list_of t owner);
        size = t.size;
      }
