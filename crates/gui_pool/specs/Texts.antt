-- What a contract sees of `Chains`.
use Rattle.std.specs.Prelude.{◌≡◌, ℕ, zero, suc, ◌+◌, ◌-◌, ◌/◌, List, [], Some, None, length, sum_by}
use Rattle.std.specs.Prelude.{slice_index_or, slice_set}
use Rattle.std.specs.declared.option.Option.{Option}

-- the text of each slot, from 0 on, and how many chunks are free
pub record Texts : Type 0 where
  pub texts : List (Option (List ℕ))
  pub spare : ℕ

-- the text of a name: 0 names the empty text, and each other name is one more than a slot
abbrev pub text_of : Texts → ℕ → Option (List ℕ)
text_of t zero = Some []
text_of t (suc slot) = slice_index_or t.texts slot None

-- a name that no text has; that of the empty text may always be given
abbrev pub IsFree : Texts → ℕ → Type 0
IsFree t zero = Unit {0}
IsFree t (suc slot) = text_of t (suc slot) ≡ None

-- how many chunks a text of so many bytes takes
abbrev pub chunk_count : ℕ → ℕ
chunk_count len = (len + 27) / 28

-- how many chunks a text takes
abbrev pub need_of : List ℕ → ℕ
need_of text = chunk_count (length text)

abbrev pub need_in : Option (List ℕ) → ℕ
need_in None = 0
need_in (Some text) = need_of text

-- how many chunks all texts take together
abbrev pub chunks_used : Texts → ℕ
chunks_used t = sum_by need_in t.texts

-- with a text more
abbrev pub put : Texts → ℕ → List ℕ → Texts
put t zero text = t
put t (suc slot) text =
    record { texts = slice_set t.texts slot (Some text); spare = t.spare - need_of text }

-- without the text of a name
abbrev pub dropped : Texts → ℕ → Texts
dropped t zero = t
dropped t (suc slot) =
    record {
      texts = slice_set t.texts slot None;
      spare = t.spare + need_in (slice_index_or t.texts slot None);
    }
