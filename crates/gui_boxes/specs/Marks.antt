-- What marks show: which handles are marked and how far, how many, and how many may be, and what was solved.
use Rattle.std.specs.Prelude.{ℕ, Bool, List, length}
use Rattle.gui_base.specs.declared.Handle.{Handle}
use Rattle.gui_pool.specs.Table.{value_at}
use Rattle.gui_boxes.specs.Pending.{is_any, is_partly, is_pending}
use Rattle.gui_boxes.specs.declared.marks.Marks.{Marks}

-- anything of k may have changed
abbrev pub is_changed : Marks → ℕ → Bool
is_changed marks k = is_pending marks.pending k

-- its children alone may be others
abbrev pub is_parent : Marks → ℕ → Bool
is_parent marks k = is_partly marks.pending k

-- one of both
abbrev pub is_marked : Marks → ℕ → Bool
is_marked marks k = is_any (value_at marks.pending k)

abbrev pub mark_count : Marks → ℕ
mark_count marks = length marks.listed.items

abbrev pub most_marks : Marks → ℕ
most_marks marks = marks.objects

-- the objects at the top of the trees that were solved last
abbrev pub solved_in : Marks → List Handle
solved_in marks = marks.solved.items
