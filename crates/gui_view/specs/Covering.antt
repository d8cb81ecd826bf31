-- What an entry covers by what is known of it.
use Rattle.std.specs.Prelude.{Bool, false, ◌&&◌, if◌then◌else◌}
use Rattle.std.specs.List.{list_any}
use Rattle.gui_base.specs.Area.{Rect}
use Rattle.cover_defs.specs.Cover.{hides, sees_all}
use Rattle.gui_debts.specs.Seen.{items_by, visible_of}
use Rattle.gui_debts.specs.declared.seen.ShownEntry.{ShownEntry}

-- whether it covers an area; bars cover nothing
abbrev pub covers_known : ShownEntry → Rect → Bool
covers_known e part =
    if e.is_bars then false
    else (sees_all (visible_of e) part && list_any (hides part) (items_by e))
