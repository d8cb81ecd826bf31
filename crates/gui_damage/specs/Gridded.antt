-- A list whose areas are rounded to a grid.
use Rattle.std.specs.Prelude.{List, fold}
use Rattle.gui_base.specs.Area.{Rect}
use Rattle.gui_base.specs.Gridded.{rules_of}
use Rattle.gui_base.specs.declared.rounding.Grid.{Grid}
use Rattle.gui_damage.specs.Pending.{Pending}
use Rattle.gui_damage.specs.Rounded.{Rounded, pending_in, added_to}

abbrev pub GridList : Type 0
GridList = Rounded Grid

-- what is pending in it
abbrev pub listed_in : GridList → Pending
listed_in list = pending_in rules_of list

-- the list after an area was added, and after all these areas were, in order
abbrev pub added_in : GridList → Rect → GridList
added_in list area = added_to rules_of list area

abbrev pub added_all_in : GridList → List Rect → GridList
added_all_in list areas = fold added_in list areas
