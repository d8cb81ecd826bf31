-- How a `Table` keeps its entries in buckets. No public clause cites this module.
use Rattle.std.specs.Prelude.{◌≡◌, ℕ, suc, ◌+◌, ◌==◌, if◌then◌else◌, List, [], ◌∷◌, map, length}
use Rattle.std.specs.Prelude.{Option, Some, None, option_map}
use Rattle.std.specs.List.{range_with_len}
use Rattle.std.specs.Int.Bits.{bit_and}
use Rattle.gui_pool.specs.Lists.{Lists, list_of}
use Rattle.gui_pool.specs.Table.{Table}
use Rattle.gui_pool.specs.declared.entry.Entry.{Entry}

module _ {T : Type 0} where
  -- the value of the first entry that has the key
  abbrev pub find : List (Entry T) → ℕ → Option T
  find [] key = None
  find (e ∷ es) key = if e.key == key then Some e.value else find es key

  -- the place of that entry, counted from 0
  abbrev pub place_of : List (Entry T) → ℕ → Option ℕ
  place_of [] key = None
  place_of (e ∷ es) key = if e.key == key then Some 0 else option_map suc (place_of es key)

  -- no two entries have the same key
  abbrev pub AreApart : List (Entry T) → Type 0
  AreApart [] = Unit {0}
  AreApart (e ∷ es) = (find es e.key ≡ None) × AreApart es

  -- the value of a key in its own bucket; what other buckets hold of that key does not count
  abbrev pub found : Lists (Entry T) → ℕ → ℕ → Option T
  found buckets mask key = find (list_of buckets (bit_and key mask)) key

  -- the value that a contract sees
  abbrev pub table_of : Lists (Entry T) → ℕ → ℕ → Table T
  table_of buckets mask keys =
      record {
        values = map (found buckets mask) (range_with_len 0 keys);
        spare = buckets.spare;
        size = buckets.size;
      }

  pub record IsTable (buckets : Lists (Entry T)) (mask : ℕ) : Type 0 where
    -- the mask of a key is the number of a bucket
    pub all : length buckets.lists ≡ mask + 1
    pub apart : (b : ℕ) → AreApart (list_of buckets b)
