-- How a `RowTable` keeps its rows. No public clause cites this module.
use Rattle.std.specs.Prelude.{◌≡◌, ◌≢◌, ◌≤◌, ℕ, List, [], Some, None, length, map, option_map, unwrap_or}
use Rattle.std.specs.declared.option.Option.{Option}
use Rattle.gui_pool.specs.Table.{Table, value_at}
use Rattle.gui_pool.specs.Texts.{Texts, text_of}
use Rattle.scene_defs.specs.Row.{shown_row}
use Rattle.scene_defs.specs.declared.Row.{Row}
use Rattle.gui_store.specs.RowSets.{KeptRow, RowSet}

-- what a row shows, with the text that it names
abbrev pub kept_row : Texts → Row → KeptRow
kept_row texts row = record { row = shown_row row; text = unwrap_or (text_of texts row.text.0) [] }

abbrev pub kept_rows : Texts → List (Option Row) → List (Option KeptRow)
kept_rows texts rows = map (option_map (kept_row texts)) rows

abbrev pub rows_in : Table Row → Texts → RowSet
rows_in rows texts = record {
  rows = record { values = kept_rows texts rows.values; spare = rows.spare; size = rows.size };
  spare_texts = texts.spare;
}

-- the text that a row names; where there is no row, it is the empty one
abbrev pub name_in : Option Row → ℕ
name_in None = 0
name_in (Some row) = row.text.0

abbrev pub name_at : Table Row → ℕ → ℕ
name_at rows h = name_in (value_at rows h)

-- a text that is kept, of at most 1,000 bytes
abbrev pub IsShort : Option (List ℕ) → Type 0
IsShort None = ⊥
IsShort (Some text) = length text ≤ 1000

pub record AreRows (rows : Table Row) (texts : Texts) : Type 0 where
  -- each row's text is kept
  pub kept : (h : ℕ) → IsShort (text_of texts (name_at rows h))
  -- no two rows share a text that is not empty
  pub apart : (h k : ℕ) → h ≢ k → name_at rows h ≡ name_at rows k → name_at rows h ≡ 0
