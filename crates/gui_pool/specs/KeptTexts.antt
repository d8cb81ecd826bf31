-- How `Chains` keeps its texts. No public clause cites this module.
use Rattle.std.specs.Prelude.{◌≡◌, ◌<◌, ◌≤◌, ◌^◌, ℕ, suc, List, [], ◌∷◌, Some, None, length, take, option_map}
use Rattle.std.specs.declared.option.Option.{Option}
use Rattle.gui_pool.specs.Slots.{Slots, get}
use Rattle.gui_pool.specs.Lists.{Lists, list_of}
use Rattle.gui_pool.specs.Pieces.{joined}
use Rattle.gui_pool.specs.Texts.{Texts, chunk_count}

-- the text in a slot: so many of the bytes of its chunks
abbrev pub text_in : Lists (List ℕ) → ℕ → Option ℕ → Option (List ℕ)
text_in chunks slot len = option_map (λ n. take n (joined (list_of chunks slot))) len

-- the texts of slots from one on
abbrev pub shown : Lists (List ℕ) → ℕ → List (Option ℕ) → List (Option (List ℕ))
shown chunks slot [] = []
shown chunks slot (len ∷ lens) = text_in chunks slot len ∷ shown chunks (suc slot) lens

abbrev pub texts_in : Slots ℕ → Lists (List ℕ) → Texts
texts_in lens chunks = record { texts = shown chunks 0 lens.slots; spare = chunks.spare }

abbrev pub chunks_of : Option ℕ → ℕ
chunks_of None = 0
chunks_of (Some n) = chunk_count n

-- a length that is not 0, and not too great
abbrev pub IsLength : Option ℕ → Type 0
IsLength None = Unit {0}
IsLength (Some n) = (1 ≤ n) × (n ≤ 1000)

abbrev pub IsHeld : Lists (List ℕ) → ℕ → Option ℕ → Type 0
IsHeld chunks slot None = Unit {0}
IsHeld chunks slot (Some n) = length (take n (joined (list_of chunks slot))) ≡ n

pub record AreTexts (lens : Slots ℕ) (chunks : Lists (List ℕ)) : Type 0 where
  pub owners : length chunks.lists ≡ length lens.slots
  pub slots : chunks.size ≡ length lens.slots
  pub small : length lens.slots < 2 ^ 32
  -- each text has the chunks that its length needs, and a slot without a text has none
  pub counts : (slot : ℕ) → length (list_of chunks slot) ≡ chunks_of (get lens slot)
  pub lengths : (slot : ℕ) → IsLength (get lens slot)
  pub whole : (slot : ℕ) → IsHeld chunks slot (get lens slot)
