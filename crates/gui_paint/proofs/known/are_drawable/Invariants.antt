use Rattle.std.proofs.Common.{◌≡◌, take}
use Rattle.std.specs.List.{list_all}
use Rattle.gui_widgets.specs.Looks.{items_of}
use Rattle.gui_paint.specs.Paintable.{is_drawable}
use Rattle.gui_paint.proofs.known.are_drawable.Given as goal

abbrev pub invariant-loop-item : goal.invariant-loop-item
invariant-loop-item l = l.are_drawable ≡ list_all (is_drawable l.fonts.fonts) (items_of (take l.item-index l.items))
