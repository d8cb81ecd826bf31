-- What a table of rows and texts shows of the objects.
use Rattle.std.specs.Prelude.{ℕ, List, [], ◌∷◌, IsSome, unwrap_or, option_map}
use Rattle.std.specs.declared.option.Option.{Option}
use Rattle.gui_base.specs.declared.Handle.{Handle}
use Rattle.gui_base.specs.declared.words.Kind.{Kind}
use Rattle.gui_base.specs.declared.words.Kind.TheVariants.{Obj}
use Rattle.gui_pool.specs.Table.{Table, value_at, value_removed}
use Rattle.gui_store.specs.RowSets.{KeptRow, RowSet, without_row}
use Rattle.scene_defs.specs.declared.Row.{Row}
use Rattle.scene_defs.specs.Row.{new_row}
use Rattle.scene_defs.specs.Scene.{Object}

-- the row of a new object, and no text
abbrev pub new_kept : Kind → KeptRow
new_kept kind = record { row = new_row kind; text = [] }

-- the row and the text of h in a table; a handle that has none shows new ones
abbrev pub kept_in : Table KeptRow → ℕ → KeptRow
kept_in rows h = unwrap_or (value_at rows h) (new_kept Obj)

abbrev pub row_in : Table KeptRow → ℕ → Row
row_in rows h = (kept_in rows h).row

-- the row of h, if it has one
abbrev pub row_of : KeptRow → Row
row_of kept = kept.row

abbrev pub row_shown : Table KeptRow → ℕ → Option Row
row_shown rows h = option_map row_of (value_at rows h)

-- the object of this handle with a row and a text
abbrev pub object_of : ℕ → KeptRow → Object
object_of h kept = record { handle = h; row = kept.row; text = kept.text }

-- the object that h is by a table
abbrev pub object_in : Table KeptRow → ℕ → Object
object_in rows h = object_of h (kept_in rows h)

-- each of these handles has a row of its own
abbrev pub HaveRows : Table KeptRow → List Handle → Type 0
HaveRows rows [] = Unit {0}
HaveRows rows (h ∷ hs) = IsSome (value_at rows h.0) × HaveRows (value_removed rows h.0) hs

-- without the rows of these handles
abbrev pub rows_without : Table KeptRow → List Handle → Table KeptRow
rows_without rows [] = rows
rows_without rows (h ∷ hs) = rows_without (value_removed rows h.0) hs

-- and with the chunks of their texts free
abbrev pub set_without : RowSet → List Handle → RowSet
set_without set [] = set
set_without set (h ∷ hs) = set_without (without_row set h.0) hs
