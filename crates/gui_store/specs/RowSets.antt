-- What a contract sees of a `RowTable`.
use Rattle.std.specs.Prelude.{ℕ, ◌+◌, ◌-◌, List, Some, None}
use Rattle.std.specs.declared.option.Option.{Option}
use Rattle.gui_pool.specs.Table.{Table, value_at, value_replaced, value_removed}
use Rattle.gui_pool.specs.Texts.{need_of}
use Rattle.scene_defs.specs.declared.Row.{Row}

-- a row as a scene shows it, and the bytes of its text
pub record KeptRow : Type 0 where
  pub row : Row
  pub text : List ℕ

-- the row of each handle that has one, and how many chunks are free for texts
pub record RowSet : Type 0 where
  pub rows : Table KeptRow
  pub spare_texts : ℕ

-- how many chunks a text has, where there is one
abbrev pub chunks_of : Option KeptRow → ℕ
chunks_of None = 0
chunks_of (Some kept) = need_of kept.text

abbrev pub chunks_at : RowSet → ℕ → ℕ
chunks_at set h = chunks_of (value_at set.rows h)

-- without the row of a handle that has one; the chunks of its text are free
abbrev pub without_row : RowSet → ℕ → RowSet
without_row set h =
    record { rows = value_removed set.rows h; spare_texts = set.spare_texts + chunks_at set h }

-- another text beside the row that a handle has
abbrev pub text_replaced : Option KeptRow → Table KeptRow → ℕ → List ℕ → Table KeptRow
text_replaced None rows h text = rows
text_replaced (Some kept) rows h text = value_replaced rows h (record kept { text = text })

-- another text for a handle that has a row; it takes chunks once the old one has given its own back
abbrev pub with_text : RowSet → ℕ → List ℕ → RowSet
with_text set h text =
    record {
      rows = text_replaced (value_at set.rows h) set.rows h text;
      spare_texts = (set.spare_texts + chunks_at set h) - need_of text;
    }
