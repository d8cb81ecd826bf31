-- Whether an object can be scrolled, and whether it is scrolled so far.
use Rattle.std.specs.Prelude.{Bool, ◌&&◌, nat_lt, ℤ}
use Rattle.std.specs.Ordering.{int_eq}
use Rattle.gui_base.specs.declared.Handle.{Handle}
use Rattle.gui_base.specs.declared.words.Flag.TheVariants.{Scrollable}
use Rattle.run_defs.specs.Dragging.{along, reach_of}
use Rattle.run_defs.specs.Pointing.{is_flagged}
use Rattle.scene_defs.specs.Scene.{Scene}
use Rattle.scene_defs.specs.declared.Row.{Row}

-- whether h is scrollable, and its children reach out of it in this direction
abbrev pub can_scroll : Scene → Bool → Handle → Bool
can_scroll scene down h = is_flagged Scrollable scene h && nat_lt 0 (along down (reach_of scene h.0))

abbrev pub is_scrolled_to : Row → ℤ → ℤ → Bool
is_scrolled_to row x y = int_eq x row.scroll_x && int_eq y row.scroll_y
