-- What objects owe by what is known of them.
use Rattle.std.specs.Prelude.{Bool, not, ◌||◌, if◌then◌else◌, Some, None, option_map}
use Rattle.std.specs.Prelude.{List, [], ◌++◌}
use Rattle.std.specs.declared.option.Option.{Option}
use Rattle.gui_base.specs.Area.{Rect}
use Rattle.gui_base.specs.Corners.{rect_of}
use Rattle.widget_defs.specs.Items.{Item}
use Rattle.debt_defs.specs.Same.{same_visible, same_item, same_by}
use Rattle.debt_defs.specs.Debt.{listed}
use Rattle.gui_debts.specs.Seen.{bars_seen, items_known}
use Rattle.gui_debts.specs.declared.seen.Seen.{Seen}

-- where an object is seen, what it paints by itself, and its bars
pub record Sight : Type 0 where
  pub visible : Option Rect
  pub items : List Item
  pub bars : List Item

-- nothing of an object that is not known
abbrev pub sight_of : Option Seen → Sight
sight_of None = record { visible = None; items = []; bars = [] }
sight_of (Some s) =
    record { visible = option_map rect_of s.visible; items = items_known s.paints; bars = bars_seen s }

abbrev pub is_touched : Bool → Sight → Sight → Bool
is_touched named old new =
    named
    || (not (same_visible old.visible new.visible)
    || (not (same_by same_item old.items new.items) || not (same_by same_item old.bars new.bars)))

-- where it was seen, and where it is seen now if that is elsewhere
abbrev pub owed : Bool → Sight → Sight → List Rect
owed named old new =
    if is_touched named old new
    then listed old.visible ++ (if same_visible old.visible new.visible then [] else listed new.visible)
    else []
