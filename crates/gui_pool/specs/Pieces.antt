-- A text cut into chunks.
use Rattle.std.specs.Prelude.{ℕ, zero, suc, ◌-◌, List, [], ◌∷◌, ◌++◌, length, take, drop, replicate}
use Rattle.std.specs.Prelude.{slice_set}
use Rattle.gui_pool.specs.Lists.{Lists}
use Rattle.gui_pool.specs.Texts.{chunk_count}

-- a piece of a text, and zeros up to 28 bytes
abbrev pub padded : List ℕ → List ℕ
padded piece = piece ++ replicate (28 - length piece) 0

-- the first so many chunks of a text
abbrev pub pieces : ℕ → List ℕ → List (List ℕ)
pieces zero text = []
pieces (suc n) text = padded (take 28 text) ∷ pieces n (drop 28 text)

-- the chunks of a text, as the list of an owner
abbrev pub filled : Lists (List ℕ) → ℕ → List ℕ → Lists (List ℕ)
filled t owner text =
    record {
      lists = slice_set t.lists owner (pieces (chunk_count (length text)) text);
      spare = t.spare - chunk_count (length text);
      size = t.size;
    }

-- the bytes of chunks, one after another
abbrev pub joined : List (List ℕ) → List ℕ
joined [] = []
joined (chunk ∷ chunks) = chunk ++ joined chunks
