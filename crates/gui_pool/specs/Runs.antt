-- How `Buckets` keeps its values in slots. No public clause cites this module.
use Rattle.std.specs.Prelude.{◌≡◌, ℕ, zero, suc, ◌+◌, ◌<◌, ◌≤◌, List, [], ◌∷◌, map, length, sum_by}
use Rattle.std.specs.Prelude.{Option, Some, None, IsSome, slice_index_or, slice_set}
use Rattle.gui_pool.specs.Lists.{Lists}
use Rattle.gui_pool.specs.Slots.{Slots, get, with_value}
use Rattle.gui_pool.specs.declared.buckets.Node.{Node}

-- where each bucket ends; no slot has this number
abbrev pub nowhere : ℕ
nowhere = 4294967295

-- the first slots, once a slot follows the first n values of a bucket
abbrev pub linked_firsts : List ℕ → ℕ → ℕ → ℕ → List ℕ
linked_firsts firsts bucket zero slot = slice_set firsts bucket slot
linked_firsts firsts bucket (suc n) slot = firsts

module _ {T : Type 0} where
  abbrev pub next_or : ℕ → Option (Node T) → ℕ
  next_or d None = d
  next_or d (Some node) = node.next

  abbrev pub at : List (Option (Node T)) → ℕ → Option (Node T)
  at cells slot = slice_index_or cells slot None

  -- the slot that stands n places after the first
  abbrev pub slot_at : List (Option (Node T)) → ℕ → ℕ → ℕ
  slot_at cells first zero = first
  slot_at cells first (suc n) = next_or nowhere (at cells (slot_at cells first n))

  abbrev relinked : Slots (Node T) → ℕ → ℕ → Option (Node T) → Slots (Node T)
  relinked s slot next None = s
  relinked s slot next (Some node) = with_value s slot (record node { next = next })

  -- the slots, once another slot follows the given one
  abbrev pub with_next : Slots (Node T) → ℕ → ℕ → Slots (Node T)
  with_next s slot next = relinked s slot next (get s slot)

  -- the slots, once a slot follows the first n values; where n is 0, `linked_firsts` alone changes
  abbrev pub linked_slots : Slots (Node T) → ℕ → ℕ → ℕ → Slots (Node T)
  linked_slots s first zero slot = s
  linked_slots s first (suc n) slot = with_next s (slot_at s.slots first n) slot

  -- the place n is the first, or a value stands before it
  abbrev pub IsHeldBefore : Slots (Node T) → ℕ → ℕ → Type 0
  IsHeldBefore s first zero = Unit {0}
  IsHeldBefore s first (suc n) = IsSome (get s (slot_at s.slots first n))

  -- the values xs of a bucket follow one another, each in a slot of that bucket, from the slot `first` on, and
  -- then comes the slot `to`; `owner` gives the bucket of each slot
  abbrev pub IsRun : (ℕ → ℕ) → List (Option (Node T)) → ℕ → ℕ → List T → ℕ → Type 0
  IsRun owner cells bucket first [] to = first ≡ to
  IsRun owner cells bucket first (x ∷ xs) to =
      (next : ℕ) × (at cells first ≡ Some (record { value = x; next = next }))
      × IsRun owner cells bucket next xs to × (owner first ≡ bucket)

  -- the value of a node, and then the rest, which begins at the slot after it
  abbrev value_then : Option (Node T) → (ℕ → List T) → List T
  value_then None rest = []
  value_then (Some node) rest = node.value ∷ rest node.next

  -- the first n values from a slot on, or all where there are fewer
  abbrev pub values : ℕ → List (Option (Node T)) → ℕ → List T
  values zero cells slot = []
  values (suc n) cells slot = value_then (at cells slot) (values n cells)

  -- all values from a slot on
  abbrev pub run_from : List (Option (Node T)) → ℕ → List T
  run_from cells slot = values (length cells) cells slot

  -- the value that a contract sees, by the slots and the first slot of each bucket
  abbrev pub lists_in : Slots (Node T) → List ℕ → Lists T
  lists_in s firsts = record { lists = map (run_from s.slots) firsts; spare = s.spare; size = length s.slots }

  pub record AreRuns (s : Slots (Node T)) (firsts : List ℕ) : Type 0 where
    -- the bucket of each slot that has a value; no slot has to name it
    pub owner : ℕ → ℕ
    -- from its first slot on, the values of each bucket come to an end
    pub runs : (bucket : ℕ) → bucket < length firsts
        → IsRun owner s.slots bucket (slice_index_or firsts bucket 0)
        (run_from s.slots (slice_index_or firsts bucket 0)) nowhere
    -- each value takes one slot
    pub counted : sum_by length (map (run_from s.slots) firsts) + s.spare ≡ length s.slots
    pub small : length s.slots ≤ nowhere

  pub record IsToCome (s : Slots (Node T)) (slot : ℕ) : Type 0 where
    pub owner : ℕ → ℕ
    pub bucket : ℕ
    -- from the slot on, the values of the bucket come to an end
    pub run : IsRun owner s.slots bucket slot (run_from s.slots slot) nowhere
    pub few : length (run_from s.slots slot) ≤ length s.slots
    pub small : length s.slots ≤ nowhere
