-- How `Lists` keeps the values of owners in buckets. No public clause cites this module.
use Rattle.std.specs.Prelude.{◌≡◌, ℕ, zero, suc, ◌+◌, ◌==◌, if◌then◌else◌, List, [], ◌∷◌, map, length}
use Rattle.std.specs.Prelude.{Option, Some, None, option_map}
use Rattle.std.specs.List.{range_with_len}
use Rattle.std.specs.Int.Bits.{bit_and}
use Rattle.gui_pool.specs.Lists.{Lists, list_of, total}
use Rattle.gui_pool.specs.declared.entry.Entry.{Entry}

-- the place 0 for the first value, and for a later one the place after the one that `rest` gives
abbrev pub here_or : (ℕ → Option ℕ) → ℕ → Option ℕ
here_or rest zero = Some 0
here_or rest (suc n) = option_map suc (rest n)

module _ {T : Type 0} where
  -- the values of an owner in a bucket
  abbrev pub values_of : ℕ → List (Entry T) → List T
  values_of owner [] = []
  values_of owner (e ∷ es) = if e.key == owner then e.value ∷ values_of owner es else values_of owner es

  -- the place of an owner's nth value in a bucket, both counted from 0
  abbrev pub nth_place : List (Entry T) → ℕ → ℕ → Option ℕ
  nth_place [] owner n = None
  nth_place (e ∷ es) owner n =
      if e.key == owner then here_or (nth_place es owner) n else option_map suc (nth_place es owner n)

  -- the values of an owner in its own bucket; what other buckets hold of that owner does not count
  abbrev pub list_in : Lists (Entry T) → ℕ → ℕ → List T
  list_in buckets mask owner = values_of owner (list_of buckets (bit_and owner mask))

  -- the value that a contract sees
  abbrev pub lists_of : Lists (Entry T) → ℕ → ℕ → Lists T
  lists_of buckets mask owners =
      record {
        lists = map (list_in buckets mask) (range_with_len 0 owners);
        spare = buckets.spare;
        size = buckets.size;
      }

  pub record AreLists (buckets : Lists (Entry T)) (mask owners : ℕ) : Type 0 where
    -- the mask of an owner is the number of a bucket
    pub all : length buckets.lists ≡ mask + 1
    -- each value takes one slot
    pub counted : total (lists_of buckets mask owners) + buckets.spare ≡ buckets.size
