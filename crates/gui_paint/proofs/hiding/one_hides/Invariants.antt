use Rattle.std.proofs.Common.{◌≡◌, take}
use Rattle.std.specs.List.{list_any}
use Rattle.gui_base.specs.Corners.{rect_of}
use Rattle.gui_widgets.specs.Looks.{items_of}
use Rattle.cover_defs.specs.Cover.{hides}
use Rattle.gui_paint.proofs.hiding.one_hides.Given as goal

abbrev pub invariant-loop-item : goal.invariant-loop-item
invariant-loop-item l = l.one ≡ list_any (hides (rect_of l.part)) (items_of (take l.item-index l.items))
