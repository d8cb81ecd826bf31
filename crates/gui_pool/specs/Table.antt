-- What a contract sees of a `Table`.
use Rattle.std.specs.Prelude.{ℕ, ◌+◌, ◌-◌, List, Option, Some, None, slice_index_or, slice_set, refl}
use Rattle.std.specs.Coded.{Coded, code_by, coded×, coded_ℕ, coded_list, coded_option}

-- the value of each key, from 0 on; how many more values fit; and how many fit in all
pub record Table (T : Type 0) : Type 0 where
  pub values : List (Option T)
  pub spare : ℕ
  pub size : ℕ

abbrev pub table_code : {T : Type 0} → Coded T → Coded (Table T)
table_code {T} code =
    code_by (List (Option T) × (ℕ × ℕ)) (coded× (coded_list (coded_option code)) (coded× coded_ℕ coded_ℕ))
    (λ t. (t.values, (t.spare, t.size)))
    (λ p. record { values = p.0; spare = p.1.0; size = p.1.1 })
    (λ _. refl)

module _ {T : Type 0} where
  -- the value of a key
  abbrev pub value_at : Table T → ℕ → Option T
  value_at t key = slice_index_or t.values key None

  -- a value for a key that had none
  abbrev pub value_inserted : Table T → ℕ → T → Table T
  value_inserted t key value =
      record { values = slice_set t.values key (Some value); spare = t.spare - 1; size = t.size }

  -- another value for a key that had one
  abbrev pub value_replaced : Table T → ℕ → T → Table T
  value_replaced t key value = record t { values = slice_set t.values key (Some value) }

  -- no value for a key that had one
  abbrev pub value_removed : Table T → ℕ → Table T
  value_removed t key = record { values = slice_set t.values key None; spare = t.spare + 1; size = t.size }
